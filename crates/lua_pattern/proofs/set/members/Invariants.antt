use Rattle.std.proofs.Common.{◌≤◌, ◌-◌, drop, length, true}
use Rattle.std.specs.Prelude.{◌==◌}
use Rattle.lua_pattern.specs.Element.{SetRead, Members, with_members}
use Rattle.lua_pattern.proofs.set.members.Given as goal

abbrev pub invariant-loop-member : goal.invariant-loop-member
invariant-loop-member l = record {
  within : l.at ≤ length l.text;
  so_far : (read : SetRead) → Members (l.at == 0) (drop l.at l.text) read → Members true l.text (with_members l.members read);
}

abbrev pub decreases-loop-member : goal.decreases-loop-member
decreases-loop-member l = length l.text - l.at
