use Rattle.std.proofs.Common.{◌≡◌, length}
use Rattle.lua_meaning.specs.Basic.{items_from}
use Rattle.lua_heap.specs.Heap.{store_of}
use Rattle.lua_lib.specs.Causes.{AreMade, values_of}
use Rattle.lua_lib.proofs.Numbered.{items_behind}
use Rattle.lua_lib.proofs.call.items.items.Given as goal

-- all values are those so far, and those from here on
abbrev pub invariant-loop-n : goal.invariant-loop-n
invariant-loop-n l =
    record {
      items : items_behind (store_of l.heap) l.table l.from (values_of l.heap l.made.items) l.n l.count ≡ items_from (store_of l.heap) l.table l.from l.count;
      count : length l.made.items ≡ l.n;
      made : AreMade l.heap l.made.items;
    }
