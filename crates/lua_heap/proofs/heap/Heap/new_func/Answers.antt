use Rattle.std.proofs.Common.{◌∙◌}
use Rattle.lua_heap.proofs.HeapLemmas.{IsHeap-with-function, AreMadeCells-same}
use Rattle.lua_heap.proofs.heap.Heap.new_func.Goals as goal

pub invariant_of-self-2 : goal.invariant_of-self-2
invariant_of-self-2 c =
    IsHeap-with-function _ c.self.invariant _ _ c.in_ok-push.ensures.items
    (AreMadeCells-same _ _ _ _ c.self.view_is (c.from_vec-cells.ensures ∙ c.in_ok-from_slice.ensures.items) c.requires.made)
