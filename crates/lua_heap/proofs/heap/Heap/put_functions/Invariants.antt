use Rattle.std.proofs.Common.{◌≡◌, map, drop}
use Rattle.lua_heap.specs.Native.{native_view}
use Rattle.lua_heap.specs.Heap.{store_of}
use Rattle.lua_heap.specs.Library.{with_functions}
use Rattle.lua_heap.proofs.heap.Heap.put_functions.Given as goal

-- all functions on the store at first come to what the functions that are left do on the store now; none was made
abbrev pub invariant-loop-function : goal.invariant-loop-function
invariant-loop-function l =
    record {
      store : with_functions l.table (map native_view l.functions) (store_of l.fn.self)
          ≡ with_functions l.table (map native_view (drop l.function-index l.functions)) (store_of l.self);
      functions : l.self.functions ≡ l.fn.self.functions;
    }
