use Rattle.std.proofs.Common.{ap, arith}
use Rattle.channel_core.specs.History.{sent}
use Rattle.channel_core.proofs.Lawfulness.{length-lawful}
use Rattle.channel_core.proofs.Indexes.{length-puts, length-puts-le}
use Rattle.channel_core.proofs.channel.Channel.sent.Goals as goal

pub overflow_cast-result : goal.overflow_cast-result
overflow_cast-result c =
    let i = c.self.inside in
    omega (arith, i.puts.ok.0, length-puts-le _ _ _ _ _ c.self.invariant, (length-lawful _ c.self.invariant.lawful).0)

pub returns : goal.returns
returns c =
    let i = c.self.inside in
    let puts = length-puts _ _ _ _ _ c.self.invariant in
    let same = ap sent c.self.view_is in
    omega (arith, i.puts.ok.0, puts, same)
