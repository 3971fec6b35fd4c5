use Rattle.std.proofs.Common.{[], ap}
use Rattle.std.specs.Prelude.{unwrap_or}
use Rattle.lua_meaning.specs.Value.{str}
use Rattle.lua_heap.proofs.HeapLemmas.{value_view-later, put_store}
use Rattle.lua_heap.proofs.heap.Heap.put.Goals as goal

pub returns-clause-store : goal.returns-clause-store
returns-clause-store c =
    put_store _ _ _ _ _ _ _ _ _ (c.in_ok-set_raw.ensures.store.store) (c.intern.ensures.store) c.at.ensures
    (ap (λ text. str (unwrap_or text [])) c.in_ok-intern.ensures.id)
    (value_view-later _ _ c.intern.ensures.extends c.args.value c.requires.value)
