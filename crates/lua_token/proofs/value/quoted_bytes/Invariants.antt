use Rattle.std.proofs.Common.{◌<◌, ◌≤◌, ◌-◌, length, drop}
use Rattle.lua_token.specs.Quoted.{Characters}
use Rattle.lua_token.proofs.value.quoted_bytes.Given as goal

abbrev pub invariant-loop-byte : goal.invariant-loop-byte
invariant-loop-byte l = record {
  some : 0 < l.end;
  within : l.end ≤ length l.text;
  so_far : Characters l.quote (drop 1 l.text) l.bytes.items (drop l.end l.text);
}

abbrev pub decreases-loop-byte : goal.decreases-loop-byte
decreases-loop-byte l = length l.text - l.end
