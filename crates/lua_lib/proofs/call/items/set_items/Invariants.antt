use Rattle.std.proofs.Common.{◌≡◌}
use Rattle.lua_meaning.specs.Tables.{set_items}
use Rattle.lua_heap.specs.Heap.{store_of, Extends}
use Rattle.lua_lib.specs.Causes.{values_of}
use Rattle.lua_lib.proofs.Moved.{set_behind}
use Rattle.lua_lib.proofs.call.items.set_items.Given as goal

-- the values so far are set, and those from here on are left
abbrev pub invariant-loop-n : goal.invariant-loop-n
invariant-loop-n l =
    record {
      store : set_behind l.table l.first (values_of l.fn.heap l.values) l.n (store_of l.heap) ≡ set_items l.table l.first (values_of l.fn.heap l.values) (store_of l.fn.heap);
      texts : l.heap.texts ≡ l.fn.heap.texts;
      functions : l.heap.functions ≡ l.fn.heap.functions;
      extends : Extends l.fn.heap l.heap;
    }
