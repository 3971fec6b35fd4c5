use Rattle.std.proofs.Common.{◌≡◌, map, ◌++◌}
use Rattle.std.specs.List.{AllByRecursion}
use Rattle.lua_state.specs.Programs.{given, IsBuilt}
use Rattle.lua_state.proofs.building.build.Given as goal

-- what was built is of the first files, in their order
abbrev pub invariant-loop-name : goal.invariant-loop-name
invariant-loop-name l =
    (map given l.built.items ++ l.name-iterator.rest.items ≡ l.fn.files.items) × AllByRecursion IsBuilt l.built.items
