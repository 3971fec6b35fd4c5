use Rattle.std.proofs.Common.{◌≡◌, ◌≤◌, ◌-◌, drop, length}
use Rattle.lua_code.specs.Scope.{declared}
use Rattle.lua_compile.proofs.captures.declare.Given as goal

abbrev pub invariant-names : goal.invariant-names
invariant-names l = (l.at ≤ length l.names) × (declared l.names l.captured l.fn.scope ≡ declared (drop l.at l.names) l.captured l.scope)

abbrev pub decreases-names : goal.decreases-names
decreases-names l = length l.names - l.at
