use Rattle.std.proofs.Common.{◌≤◌, ◌+◌, false}
use Rattle.lua_pattern.specs.Walk.{whole}
use Rattle.lua_pattern.specs.Gsub.{expanded}
use Rattle.lua_pattern.proofs.GsubLemmas.{SoFar}
use Rattle.lua_pattern.proofs.pattern.Pattern.gsub.Given as goal

abbrev pub invariant-loop-made : goal.invariant-loop-made
invariant-loop-made l = record {
  few : l.count + l.walk.left ≤ l.limit;
  so_far : SoFar l.self l.text (expanded false l.replacement l.text) (whole l.limit) l.made.items l.count l.walk;
}

abbrev pub decreases-loop-made : goal.decreases-loop-made
decreases-loop-made l = l.walk.left
