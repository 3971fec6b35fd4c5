use Rattle.std.proofs.Common.{◌≡◌, ℕ, ◌<◌, ◌≤◌, true}
use Rattle.lua_table.specs.Gaps.{had}
use Rattle.lua_table.proofs.border.run_end.Given as goal

abbrev pub invariant-loop-end : goal.invariant-loop-end
invariant-loop-end g l = (k : ℕ) → l.from < k → k ≤ l.end → had g.K.PartialEq.eq g.K.Position.at_position l.places k ≡ true
