use Rattle.std.proofs.Common.{◌≡◌, ◌≤◌, length, ℕ, drop, None}
use Rattle.lua_pattern.specs.Ways.{close}
use Rattle.lua_pattern.proofs.mark.last_open.Given as goal

abbrev pub invariant-loop-i : goal.invariant-loop-i
invariant-loop-i l = record {
  within : l.i ≤ length l.marks;
  none_behind : (at : ℕ) → close at (drop l.i l.marks) ≡ None;
}

abbrev pub decreases-loop-i : goal.decreases-loop-i
decreases-loop-i l = l.i
