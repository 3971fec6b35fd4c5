use Rattle.thread_board.specs.Lawful.{NumbersBelow}
use Rattle.thread_board.proofs.tests.limits.Given as goal

abbrev pub invariant-loop-i : goal.invariant-loop-i
invariant-loop-i g l = NumbersBelow l.i l.board.history

abbrev pub invariant-loop-i-2 : goal.invariant-loop-i-2
invariant-loop-i-2 g l = NumbersBelow l.i l.board.history
