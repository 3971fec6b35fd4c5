use Rattle.std.proofs.Common.{◌≡◌, ◌≤◌, ◌+◌, ◌-◌, ◌∷◌, List, drop, length, vec_len}
use Rattle.lua_tree.specs.Words.{Tok}
use Rattle.lua_tree.specs.Spelled.{Spelled}
use Rattle.lua_tree.proofs.TargetSteps.{NamesSoFar}
use Rattle.lua_tree.proofs.assignments.more_names.Given as goal

abbrev pub invariant-names : goal.invariant-names
invariant-names l = record {
  forth : l.fn.at ≤ l.end;
  within : l.end ≤ length l.source.tokens.now;
  few : l.locals + vec_len l.names ≤ 200;
  some : 1 ≤ vec_len l.names;
  front : l.names.items ≡ l.fn.first ∷ drop 1 l.names.items;
  so_far : (words : List Tok) → Spelled l.source.bytes.now 1 l.source.tokens.now words → NamesSoFar words (l.locals + 1) l.fn.at (l.locals + vec_len l.names) l.end l.names.items;
}

abbrev pub decreases-names : goal.decreases-names
decreases-names l = length l.source.tokens.now - l.end
