use Rattle.std.proofs.Common.{◌-◌, length}
use Rattle.crossing.proofs.Walk.{IsWalked}
use Rattle.crossing.proofs.pairs.pairs_in.Given as goal

abbrev pub invariant-loop-next : goal.invariant-loop-next
invariant-loop-next l = IsWalked l.table l.pairs.items l.next

abbrev pub decreases-loop-next : goal.decreases-loop-next
decreases-loop-next l = length l.table - length l.pairs.items
