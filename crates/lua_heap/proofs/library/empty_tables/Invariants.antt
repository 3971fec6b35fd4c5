use Rattle.std.proofs.Common.{◌≡◌, replicate}
use Rattle.lua_heap.specs.Library.{empty_entry}
use Rattle.lua_heap.proofs.library.empty_tables.Given as goal

abbrev pub invariant-loop-count : goal.invariant-loop-count
invariant-loop-count l = l.tables.items ≡ replicate l.count empty_entry
