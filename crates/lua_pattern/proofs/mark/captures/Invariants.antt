use Rattle.std.proofs.Common.{◌≡◌, ◌++◌, drop}
use Rattle.lua_pattern.specs.Found.{captures_of}
use Rattle.lua_pattern.proofs.mark.captures.Given as goal

abbrev pub invariant-loop-mark : goal.invariant-loop-mark
invariant-loop-mark l = l.captures.items ++ captures_of (drop l.mark-index l.marks) ≡ captures_of l.marks
