use Rattle.channel_core.proofs.InOrder.{sent_in_order}
use Rattle.channel_core.proofs.Lawfulness.{HasMessages-lawful}
use Rattle.channel_core.proofs.channel.Channel.history.Goals as goal

pub returns-clause-in_order : goal.returns-clause-in_order
returns-clause-in_order c = rw (← c.self.view_is) (sent_in_order _ (HasMessages-lawful _ c.self.invariant.lawful))
