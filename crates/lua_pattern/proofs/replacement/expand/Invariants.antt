use Rattle.std.proofs.Common.{◌≡◌, List, ℕ, ◌++◌, drop, Ok, false}
use Rattle.lua_pattern.specs.Gsub.{expanded, joined}
use Rattle.lua_pattern.proofs.replacement.expand.Given as goal

abbrev pub invariant-loop-byte : goal.invariant-loop-byte
invariant-loop-byte l =
    (bytes : List ℕ) × (l.made.items ≡ l.fn.made.items ++ bytes)
    × (expanded false l.replacement l.text l.found ≡ joined (Ok bytes) (expanded l.percent (drop l.byte-index l.replacement) l.text l.found))
