use Rattle.std.proofs.Common.{◌≡◌, ◌++◌, drop}
use Rattle.lua_token.specs.Value.{plain_lines}
use Rattle.lua_token.proofs.value.plain_lines.Given as goal

abbrev pub invariant-loop-at : goal.invariant-loop-at
invariant-loop-at l = l.bytes.items ++ plain_lines (drop l.at l.text) ≡ plain_lines l.text
