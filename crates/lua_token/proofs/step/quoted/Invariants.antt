use Rattle.std.proofs.Common.{◌≡◌, ◌<◌, ◌≤◌, ◌-◌, length, drop, take, List, ℕ}
use Rattle.lua_token.specs.Bytes.{newlines}
use Rattle.lua_token.specs.Quoted.{Characters}
use Rattle.lua_token.proofs.step.quoted.Given as goal

abbrev pub invariant-loop-length : goal.invariant-loop-length
invariant-loop-length l = record {
  some : 0 < l.end;
  within : l.end ≤ length l.text;
  lines : l.passed ≡ newlines (take l.end l.text);
  so_far : (bytes : List ℕ) × Characters l.quote (drop 1 l.text) bytes (drop l.end l.text);
}

abbrev pub decreases-loop-length : goal.decreases-loop-length
decreases-loop-length l = length l.text - l.end
