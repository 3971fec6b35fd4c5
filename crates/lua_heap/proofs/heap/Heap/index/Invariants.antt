use Rattle.std.proofs.Common.{◌≡◌}
use Rattle.lua_meaning.specs.Handlers.{lookup, lookup_within}
use Rattle.lua_heap.specs.Value.{value_view}
use Rattle.lua_heap.specs.Heap.{store_of, IsMade}
use Rattle.lua_heap.proofs.heap.Heap.index.Given as goal

-- what the whole chain comes to is what it comes to from here on
abbrev pub invariant-loop-left : goal.invariant-loop-left
invariant-loop-left l =
    record {
      same : lookup (store_of l.self) (value_view l.self.texts l.fn.base) (value_view l.self.texts l.key)
          ≡ lookup_within l.left (store_of l.self) (value_view l.self.texts l.key) (value_view l.self.texts l.at);
      made : IsMade l.self l.at;
    }

abbrev pub decreases-loop-left : goal.decreases-loop-left
decreases-loop-left l = l.left
