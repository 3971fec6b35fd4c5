use Rattle.std.proofs.Common.{◌≡◌}
use Rattle.turn_desk.specs.Closing.{IsReady}
use Rattle.turn_desk.proofs.tests.visits.visits.Given as goal

abbrev pub invariant-loop-number : goal.invariant-loop-number
invariant-loop-number g l = IsReady l.desk l.pass × (l.pass.view.number ≡ l.fn.pass.view.number)
