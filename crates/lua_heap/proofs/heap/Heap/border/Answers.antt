use Rattle.std.proofs.Common.{◌∙◌}
use Rattle.lua_heap.proofs.HeapLemmas.{entry-there, border-view}
use Rattle.lua_heap.proofs.heap.Heap.border.Goals as goal

pub returns : goal.returns
returns c =
    let there = entry-there _ _ c.place.result c.args.id c.index-entry.result.now c.self.view_is c.place.ensures c.requires c.index-entry.ensures in
    c.border.ensures.border ∙ border-view _ _ c.self.invariant c.self.view_is c.place.result c.args.id c.place.ensures c.index-entry.result.now there
