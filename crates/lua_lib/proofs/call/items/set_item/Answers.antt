use Rattle.std.proofs.Common.{ap, ◌∙◌}
use Rattle.lua_meaning.specs.Store.{raw_set}
use Rattle.lua_heap.specs.Value.{value_view}
use Rattle.lua_heap.specs.Heap.{store_of}
use Rattle.lua_lib.proofs.call.items.set_item.Goals as goal

pub set_raw-requires-clause-key : goal.set_raw-requires-clause-key
set_raw-requires-clause-key c = c.position.ensures.made c.args.heap.now

pub returns-clause-store : goal.returns-clause-store
returns-clause-store c =
    let h = c.args.heap.now in
    c.in_ok-set_raw.ensures.store.store
    ∙ ap (λ k. raw_set (store_of h) c.args.table k (value_view h.texts c.args.value.now)) (c.position.ensures.key h.texts)
