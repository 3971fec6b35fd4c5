use Rattle.std.proofs.Common.{◌≡◌, map, take, reverse}
use Rattle.lua_meaning.specs.Names.{distinct}
use Rattle.lua_upvalues.proofs.name_list.distinct.Given as goal

abbrev pub invariant-loop-name : goal.invariant-loop-name
invariant-loop-name l = l.once ≡ distinct (reverse (map (λ name. name.now) (take l.name-index l.name-items)))
