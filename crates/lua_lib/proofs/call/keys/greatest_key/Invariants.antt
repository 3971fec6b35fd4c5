use Rattle.lua_lib.proofs.Walked.{IsWalked, left}
use Rattle.lua_lib.proofs.call.keys.greatest_key.Given as goal

abbrev pub invariant-loop-next : goal.invariant-loop-next
invariant-loop-next l = IsWalked l.table l.greatest l.next

-- how many places are left
abbrev pub decreases-loop-next : goal.decreases-loop-next
decreases-loop-next l = left l.table l.next
