use Rattle.std.proofs.Common.{sym, true≢false}
use Rattle.lua_heap.proofs.HeapLemmas.{entry-there, IsHeap-set_raw, Becomes-set_raw, has_place-raw}
use Rattle.lua_heap.proofs.heap.Heap.set_raw.Goals as goal

pub returns-in_err-put-clause-placed : goal.returns-in_err-put-clause-placed
returns-in_err-put-clause-placed c = λ placed.
    let there = entry-there _ _ c.place.result c.args.id c.index_mut-entry.result.now c.self.view_is c.place.ensures c.requires.table c.index_mut-entry.ensures.value in
    let has = has_place-raw _ _ c.self.invariant c.self.view_is c.place.result c.args.id c.place.ensures c.index_mut-entry.result.now there c.args.key c.args.value c.requires.key c.put.new.table placed in
    absurd (true≢false (sym (c.in_err-put.ensures.placed has)))

pub invariant_of-self-2 : goal.invariant_of-self-2
invariant_of-self-2 c =
    let there = entry-there _ _ c.place.result c.args.id c.index_mut-entry.result.now c.self.view_is c.place.ensures c.requires.table c.index_mut-entry.ensures.value in
    IsHeap-set_raw _ _ c.self.invariant c.self.view_is c.place.result c.args.id c.place.ensures c.index_mut-entry.result.now there c.args.key c.args.value c.requires.key c.put.new.table
    c.requires.value c.in_ok-put.ensures.ok

pub returns-clause-store : goal.returns-clause-store
returns-clause-store c =
    let there = entry-there _ _ c.place.result c.args.id c.index_mut-entry.result.now c.self.view_is c.place.ensures c.requires.table c.index_mut-entry.ensures.value in
    Becomes-set_raw _ _ c.self.invariant c.self.view_is c.place.result c.args.id c.place.ensures c.index_mut-entry.result.now there c.args.key c.args.value c.requires.key c.put.new.table
    c.in_ok-put.ensures.ok
