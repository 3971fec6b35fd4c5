use Rattle.std.proofs.Common.{◌≡◌}
use Rattle.lua_meaning.specs.Strings.{copies}
use Rattle.lua_lib.proofs.strings.copies.Given as goal

abbrev pub invariant-loop-copy : goal.invariant-loop-copy
invariant-loop-copy l = l.made.items ≡ copies l._copy l.text
