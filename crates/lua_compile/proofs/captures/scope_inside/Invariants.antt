use Rattle.std.proofs.Common.{◌≡◌, map, take, reverse}
use Rattle.lua_code.specs.Scope.{cell_names, around}
use Rattle.lua_compile.proofs.captures.scope_inside.Given as goal

abbrev pub invariant-loop-name : goal.invariant-loop-name
invariant-loop-name l = l.inside ≡ around (cell_names l.scope (reverse (map (λ name. name.now) (take l.name-index l.name-items))))
