use Rattle.std.proofs.Common.{◌≡◌}
use Rattle.channel_desk.specs.Turns.{Waited}
use Rattle.channel_desk.proofs.turns.take_or_halt.Given as goal

abbrev pub invariant-loop : goal.invariant-loop
invariant-loop g l = (l.pass.desk ≡ l.fn.pass.desk) × Waited l.fn.pass.view l.pass.view
