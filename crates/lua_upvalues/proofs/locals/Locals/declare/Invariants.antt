use Rattle.std.proofs.Common.{◌≡◌, ◌++◌, take, map}
use Rattle.lua_upvalues.proofs.locals.Locals.declare.Given as goal

abbrev pub invariant-loop-name : goal.invariant-loop-name
invariant-loop-name l = map (λ name. name.now) l.self-inside.names.items ≡ l.fn.self ++ take l.name-index l.names
