use Rattle.std.proofs.Common.{◌≡◌, drop}
use Rattle.lua_table.specs.Table.{first}
use Rattle.lua_table.proofs.places.Places.first_from.Given as goal

abbrev pub invariant-loop-index : goal.invariant-loop-index
invariant-loop-index g l = first (drop l.start l.self) ≡ first (drop l.index l.self)
