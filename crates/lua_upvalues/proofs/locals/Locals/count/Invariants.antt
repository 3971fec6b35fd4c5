use Rattle.std.proofs.Common.{◌≡◌, ◌≤◌, map, take, reverse, length}
use Rattle.lua_upvalues.specs.Upvalues.{upvalues}
use Rattle.lua_upvalues.proofs.locals.Locals.count.Given as goal

abbrev pub invariant-loop-name : goal.invariant-loop-name
invariant-loop-name l =
    (l.count ≤ l.name-index)
    × (l.count ≡ length (upvalues l.self (reverse (map (λ name. name.now) (take l.name-index l.name-items)))))
