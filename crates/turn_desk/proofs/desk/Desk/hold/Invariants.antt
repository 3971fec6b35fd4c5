use Rattle.std.proofs.Common.{◌≡◌}
use Rattle.turn_desk.specs.Steps.{Noted}
use Rattle.turn_desk.proofs.desk.Desk.hold.Given as goal

abbrev pub invariant-loop : goal.invariant-loop
invariant-loop g l = (l.pass.desk ≡ l.fn.pass.desk) × Noted l.fn.pass.view l.object l.pass.view
