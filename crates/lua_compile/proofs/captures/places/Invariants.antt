use Rattle.std.proofs.Common.{◌≡◌, map, take, reverse}
use Rattle.lua_code.specs.Scope.{cell_places}
use Rattle.lua_compile.proofs.captures.places.Given as goal

abbrev pub invariant-loop-name : goal.invariant-loop-name
invariant-loop-name l = l.places.items ≡ cell_places l.scope (reverse (map (λ name. name.now) (take l.name-index l.name-items)))
