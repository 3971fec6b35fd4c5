use Rattle.std.proofs.Common.{◌≡◌, ◌*◌, ◌<◌, ◌≤◌, ℕ, false, length}
use Rattle.lua_table.specs.Gaps.{has_gap}
use Rattle.lua_table.proofs.gaps.Gaps.make_room.Given as goal

abbrev pub invariant-loop-number : goal.invariant-loop-number
invariant-loop-number l = record {
  copied : (k : ℕ) → k < l.number → has_gap l.wider k ≡ has_gap l.self-inside.flags.items k;
  later : (k : ℕ) → l.number ≤ k → has_gap l.wider k ≡ false;
  room : length l.wider ≡ 8 * l.leaves;
}
