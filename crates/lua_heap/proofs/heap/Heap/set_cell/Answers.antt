use Rattle.std.proofs.Common.{sym, subst}
use Rattle.lua_heap.specs.Heap.{HeapView, IsMade}
use Rattle.lua_heap.proofs.HeapLemmas.{IsHeap-set_cell, Becomes-set_cell}
use Rattle.lua_heap.proofs.heap.Heap.set_cell.Goals as goal

pub invariant_of-self : goal.invariant_of-self
invariant_of-self c =
    let P : HeapView → Type 0 = λ h. IsMade h c.args.value in
    IsHeap-set_cell _ c.self.invariant _ c.args.value (subst P (sym c.self.view_is) c.requires.made)

pub returns-clause-store : goal.returns-clause-store
returns-clause-store c = Becomes-set_cell _ _ c.place.result c.args.id c.args.value c.self.view_is c.place.ensures
