use Rattle.std.proofs.Common.{◌≡◌, ◌≤◌, ◌<◌, ◌+◌, drop}
use Rattle.lua_pattern.specs.Ways.{closing}
use Rattle.lua_pattern.proofs.matcher.closing.Given as goal

abbrev pub invariant-loop-i : goal.invariant-loop-i
invariant-loop-i l = record {
  some : 0 < l.depth;
  few : l.depth ≤ l.i + 1;
  so_far : closing l.x l.y 1 1 l.text ≡ closing l.x l.y l.depth (l.i + 1) (drop l.i l.text);
}
