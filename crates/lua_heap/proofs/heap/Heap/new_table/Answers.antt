use Rattle.std.proofs.Common.{ap, arith, length}
use Rattle.lua_heap.proofs.HeapLemmas.{IsHeap-with-table, Extends-tables}
use Rattle.lua_heap.proofs.heap.Heap.new_table.Goals as goal

pub invariant_of-self-2 : goal.invariant_of-self-2
invariant_of-self-2 c = IsHeap-with-table _ c.self.invariant _ (cc c.in_ok-push.ensures.items)

pub returns-in_err-push-clause-extends : goal.returns-in_err-push-clause-extends
returns-in_err-push-clause-extends c =
    Extends-tables _ _ _ c.self.view_is (let same = ap length c.in_err-push.ensures.items in omega arith)
