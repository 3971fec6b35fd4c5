use Rattle.std.proofs.Common.{◌≡◌, ℕ, ◌+◌, ◌-◌, ◌≤◌, ◌<◌, []}
use Rattle.lua_pattern.specs.Ways.{ways}
use Rattle.lua_pattern.proofs.pattern.Pattern.first_way.Given as goal

abbrev pub invariant-loop-start : goal.invariant-loop-start
invariant-loop-start l = record {
  from_on : l.from ≤ l.start;
  short : l.start ≤ l.last + 1;
  none : l.marks ≡ [];
  none_before : (place : ℕ) → l.from ≤ place → place < l.start → ways l.self.items l.text place [] ≡ [];
}

abbrev pub decreases-loop-start : goal.decreases-loop-start
decreases-loop-start l = l.last + 1 - l.start
