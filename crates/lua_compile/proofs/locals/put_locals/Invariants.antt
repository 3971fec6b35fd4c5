use Rattle.std.proofs.Common.{◌≤◌, drop, length}
use Rattle.lua_code.specs.Scope.{declared}
use Rattle.lua_compile.specs.Locals.{Precedes}
use Rattle.lua_compile.proofs.locals.put_locals.Given as goal

abbrev pub invariant-names : goal.invariant-names
invariant-names l = (l.at ≤ length l.names) × Precedes (declared (drop l.at l.names) l.captured) l.fn.locals.items l.locals.items

abbrev pub decreases-names : goal.decreases-names
decreases-names l = l.at
