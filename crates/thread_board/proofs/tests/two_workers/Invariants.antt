use Rattle.std.proofs.Common.{◌≡◌, ◌+◌}
use Rattle.thread_board.specs.Lawful.{NumbersBelow}
use Rattle.thread_board.proofs.tests.two_workers.Given as goal

abbrev pub invariant-loop-call : goal.invariant-loop-call
invariant-loop-call g l = (l.number ≡ l.call-index + 1) × NumbersBelow l.number l.board.history
