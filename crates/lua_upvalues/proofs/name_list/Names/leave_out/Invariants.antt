use Rattle.std.proofs.Common.{◌≡◌, map, take, reverse}
use Rattle.lua_meaning.specs.Names.{without}
use Rattle.lua_upvalues.proofs.name_list.Names.leave_out.Given as goal

abbrev pub invariant-loop-name : goal.invariant-loop-name
invariant-loop-name l = reverse (map (λ name. name.now) l.left.items) ≡ without l.declared (reverse (map (λ name. name.now) (take l.name-index l.name-items)))
