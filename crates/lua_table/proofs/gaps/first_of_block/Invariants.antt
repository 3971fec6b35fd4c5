use Rattle.std.proofs.Common.{◌≡◌, ℕ, ◌<◌, ◌≤◌, false}
use Rattle.lua_table.specs.Gaps.{has_gap}
use Rattle.lua_table.proofs.gaps.first_of_block.Given as goal

abbrev pub invariant-loop-number : goal.invariant-loop-number
invariant-loop-number l = (k : ℕ) → l.start ≤ k → k < l.number → has_gap l.flags k ≡ false
