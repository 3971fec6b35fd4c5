use Rattle.std.proofs.Common.{◌≡◌}
use Rattle.lua_meaning.specs.Tables.{joined}
use Rattle.lua_heap.specs.Heap.{store_of}
use Rattle.lua_lib.proofs.Joined.{joined_from}
use Rattle.lua_lib.proofs.call.joins.joined.Given as goal

-- the whole text is what is made so far, and behind it what the values from here on give
abbrev pub invariant-loop-n : goal.invariant-loop-n
invariant-loop-n l = joined l.between l.table l.from l.count (store_of l.heap) ≡ joined_from l.between l.table l.from (store_of l.heap) l.made.items l.n l.count
