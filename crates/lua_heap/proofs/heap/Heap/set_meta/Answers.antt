use Rattle.std.proofs.Common.{◌≡◌, slice_get, Some}
use Rattle.lua_heap.proofs.HeapLemmas.{entry-there, IsHeap-set_meta, Becomes-set_meta}
use Rattle.lua_heap.proofs.heap.Heap.set_meta.Goals as goal

there : (c : goal.After-self-1) → slice_get c.self.inside.tables.items c.place.result ≡ Some c.index_mut.result.now
there c = entry-there _ _ c.place.result c.args.id c.index_mut.result.now c.self.view_is c.place.ensures c.requires.table c.index_mut.ensures.value

pub invariant_of-self : goal.invariant_of-self
invariant_of-self c = IsHeap-set_meta _ _ c.self.invariant c.self.view_is c.place.result c.index_mut.result.now c.args.meta (there c) c.requires.made

pub returns-clause-store : goal.returns-clause-store
returns-clause-store c = Becomes-set_meta _ _ c.place.result c.args.id c.index_mut.result.now c.args.meta c.self.view_is c.place.ensures (there c)
