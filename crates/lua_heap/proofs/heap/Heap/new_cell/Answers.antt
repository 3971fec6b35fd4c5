use Rattle.std.proofs.Common.{sym, subst}
use Rattle.lua_heap.specs.Heap.{HeapView, IsMade}
use Rattle.lua_heap.proofs.HeapLemmas.{IsHeap-with-cell}
use Rattle.lua_heap.proofs.heap.Heap.new_cell.Goals as goal

pub invariant_of-self-2 : goal.invariant_of-self-2
invariant_of-self-2 c =
    let P : HeapView → Type 0 = λ h. IsMade h c.args.value in
    IsHeap-with-cell _ c.self.invariant _ c.args.value c.in_ok-push.ensures.items (subst P (sym c.self.view_is) c.requires.made)
