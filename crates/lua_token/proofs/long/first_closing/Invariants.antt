use Rattle.std.proofs.Common.{◌≡◌, drop, take, Some, ℕ, ◌<◌, ◌≤◌}
use Rattle.lua_token.specs.Bytes.{newlines}
use Rattle.lua_token.specs.Long.{level}
use Rattle.lua_token.proofs.long.first_closing.Given as goal

abbrev pub invariant-loop-at : goal.invariant-loop-at
invariant-loop-at l = record {
  none : (k : ℕ) → k < l.at → level 93 (drop k l.body) ≡ Some l.wanted → ⊥;
  lines : l.newlines ≡ newlines (take l.at l.body);
  few : l.newlines ≤ l.at;
}
