use Rattle.std.proofs.Common.{◌≡◌, ◌+◌, ◌-◌, drop, length}
use Rattle.lua_machine.specs.Arguments.{filled}
use Rattle.lua_machine.proofs.arguments.fill.Given as goal

abbrev pub invariant-loop-n : goal.invariant-loop-n
invariant-loop-n l =
    (filled l.values.items (l.at + l.n) (l.count - l.n) (drop l.n l.more) ≡ filled l.fn.values.items l.at l.count l.more)
    × (length l.values.items ≡ length l.fn.values.items)
