use Rattle.std.proofs.Common.{◌∙◌}
use Rattle.lua_heap.proofs.HeapLemmas.{is_same-view}
use Rattle.lua_heap.proofs.heap.Heap.is_same.Goals as goal

pub returns : goal.returns
returns c = c.eq.ensures ∙ is_same-view _ _ c.self.invariant c.self.view_is c.args.a c.args.b c.requires.a c.requires.b
