use Rattle.std.proofs.Common.{◌≡◌, ◌+◌, ◌<◌, ◌≤◌, ℕ, false, length}
use Rattle.lua_table.specs.Gaps.{has_gap, vacant}
use Rattle.lua_table.proofs.border.Border.reach.Given as goal

abbrev pub invariant-loop-k : goal.invariant-loop-k
invariant-loop-k g l = record {
  before : (k : ℕ) → k ≤ l.fn.self.reached → has_gap l.self.gaps k ≡ has_gap l.fn.self.gaps k;
  between : (k : ℕ) → l.fn.self.reached < k → k < l.k → has_gap l.fn.self.gaps k ≡ false
      → has_gap l.self.gaps k ≡ vacant g.K.PartialEq.eq g.K.Position.at_position l.places (k + 1);
  behind : (k : ℕ) → l.k ≤ k → has_gap l.self.gaps k ≡ has_gap l.fn.self.gaps k;
  room : length l.self.gaps ≡ length l.fn.self.gaps;
}
