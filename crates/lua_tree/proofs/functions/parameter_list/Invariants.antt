use Rattle.std.proofs.Common.{◌≤◌, ◌-◌, length, vec_len}
use Rattle.lua_tree.specs.Begins.{hidden_of}
use Rattle.lua_tree.proofs.FunctionSteps.{ReadSoFar}
use Rattle.lua_tree.proofs.functions.parameter_list.Given as goal

abbrev pub invariant-names : goal.invariant-names
invariant-names l = record {
  forth : l.fn.at ≤ l.end;
  few : vec_len l.names ≤ 200;
  so_far : ReadSoFar l.source l.fn.at l.end (hidden_of l.method) l.names.items;
}

abbrev pub decreases-names : goal.decreases-names
decreases-names l = length l.source.tokens.now - l.end
