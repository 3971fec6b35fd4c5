use Rattle.lua_heap.proofs.HeapLemmas.{entry-there}
use Rattle.lua_heap.proofs.NextLemmas.{next-of_heap, next-made}
use Rattle.lua_heap.proofs.heap.Heap.next.Goals as goal

pub returns-clause-pair : goal.returns-clause-pair
returns-clause-pair c =
    let there = entry-there _ _ c.place.result c.args.id c.index-entry.result.now c.self.view_is c.place.ensures c.requires.table c.index-entry.ensures in
    next-of_heap _ _ c.self.invariant c.self.view_is c.place.result c.args.id c.place.ensures c.index-entry.result.now there c.args.after c.requires.key
    c.pair_behind.result c.pair_behind.ensures

pub returns-clause-made : goal.returns-clause-made
returns-clause-made c =
    let there = entry-there _ _ c.place.result c.args.id c.index-entry.result.now c.self.view_is c.place.ensures c.requires.table c.index-entry.ensures in
    next-made _ _ c.self.invariant c.self.view_is c.place.result c.index-entry.result.now there c.args.after c.pair_behind.result c.pair_behind.ensures
