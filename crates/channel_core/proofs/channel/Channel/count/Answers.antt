use Rattle.std.proofs.Common.{ap, arith, length-drop}
use Rattle.channel_core.specs.History.{sent, received, sent_messages}
use Rattle.channel_core.proofs.Histories.{length-sent_messages}
use Rattle.channel_core.proofs.Lawfulness.{HasMessages-lawful, received-le-sent}
use Rattle.channel_core.proofs.channel.Channel.count.Goals as goal

pub overflow_sub-result : goal.overflow_sub-result
overflow_sub-result c =
    let h = c.self.inside.history.items in
    omega (arith, c.self.invariant.count, ap sent c.self.view_is, received-le-sent h (HasMessages-lawful h c.self.invariant.lawful), c.sent.ensures)

pub returns-clause-waiting : goal.returns-clause-waiting
returns-clause-waiting c =
    let h = c.args.self.now in
    omega (arith, c.self.invariant.count, ap received c.self.view_is, c.sent.ensures, length-drop (received h) (sent_messages h), length-sent_messages h)
