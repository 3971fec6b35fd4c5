use Rattle.std.proofs.Common.{◌≡◌, ℕ, ◌<◌, false, get_or}
use Rattle.std.specs.Prelude.{codes}
use Rattle.lua_meaning.specs.Strings.{is_one_of}
use Rattle.lua_lib.proofs.strings.is_pattern.Given as goal

abbrev pub invariant-loop-byte : goal.invariant-loop-byte
invariant-loop-byte l = (k : ℕ) → k < l.byte-index → is_one_of (codes "^$*+?.([%-") (get_or l.text k 0) ≡ false
