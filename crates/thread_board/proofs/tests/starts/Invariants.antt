use Rattle.std.proofs.Common.{◌+◌, ◌*◌}
use Rattle.thread_board.specs.Lawful.{NumbersBelow}
use Rattle.thread_board.proofs.tests.starts.Given as goal

abbrev pub invariant-loop-i : goal.invariant-loop-i
invariant-loop-i g l = NumbersBelow (3 * l.i + 2) l.board.history
