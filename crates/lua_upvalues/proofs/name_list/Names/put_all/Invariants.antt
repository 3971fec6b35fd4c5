use Rattle.std.proofs.Common.{◌≡◌, ◌++◌, map, take, reverse}
use Rattle.lua_upvalues.proofs.name_list.Names.put_all.Given as goal

abbrev pub invariant-loop-name : goal.invariant-loop-name
invariant-loop-name l = l.self ≡ reverse (map (λ name. name.now) (take l.name-index l.name-items)) ++ l.fn.self
