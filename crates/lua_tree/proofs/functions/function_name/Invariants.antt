use Rattle.std.proofs.Common.{◌<◌, ◌≤◌, ◌+◌, ◌-◌, length}
use Rattle.lua_tree.specs.View.{expr_view}
use Rattle.lua_tree.specs.Answer.{Behind, counts}
use Rattle.lua_tree.proofs.FunctionSteps.{NamedSoFar}
use Rattle.lua_tree.proofs.functions.function_name.Given as goal

abbrev pub invariant-names : goal.invariant-names
invariant-names l = record {
  forth : l.fn.at < l.target.at;
  tall : 1 ≤ l.target.height;
  behind : Behind l.source.tokens.now l.scope.depth l.target;
  so_far : NamedSoFar l.source (counts l.scope) l.fn.at l.target.at (expr_view l.target.node);
}

abbrev pub decreases-names : goal.decreases-names
decreases-names l = length l.source.tokens.now - l.target.at
