use Rattle.std.proofs.Common.{sym, Some, None}
use Rattle.lua_heap.proofs.HeapLemmas.{entry-there, raw_get-view, raw_get-made}
use Rattle.lua_heap.proofs.heap.Heap.get_raw.Goals as goal

pub returns-in-Some-clause-value : goal.returns-in-Some-clause-value
returns-in-Some-clause-value c =
    let there = entry-there _ _ c.place.result c.args.id c.index-entry.result.now c.self.view_is c.place.ensures c.requires.table c.index-entry.ensures in
    raw_get-view _ _ c.self.invariant c.self.view_is c.place.result c.args.id c.place.ensures c.index-entry.result.now there c.args.key c.requires.key
    (Some c.in-Some.value.now) (sym c.in-Some.ensures)

pub returns-in-Some-clause-made : goal.returns-in-Some-clause-made
returns-in-Some-clause-made c =
    let there = entry-there _ _ c.place.result c.args.id c.index-entry.result.now c.self.view_is c.place.ensures c.requires.table c.index-entry.ensures in
    raw_get-made _ _ c.self.invariant c.self.view_is c.place.result c.index-entry.result.now there c.args.key (Some c.in-Some.value.now) (sym c.in-Some.ensures)

pub returns-in-None-clause-value : goal.returns-in-None-clause-value
returns-in-None-clause-value c =
    let there = entry-there _ _ c.place.result c.args.id c.index-entry.result.now c.self.view_is c.place.ensures c.requires.table c.index-entry.ensures in
    raw_get-view _ _ c.self.invariant c.self.view_is c.place.result c.args.id c.place.ensures c.index-entry.result.now there c.args.key c.requires.key
    None (sym c.in-None.ensures)
