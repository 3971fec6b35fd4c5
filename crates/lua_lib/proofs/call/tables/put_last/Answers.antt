use Rattle.std.proofs.Common.{◌≡◌, ℕ, suc, ◌+◌, arith, ap, ◌∙◌}
use Rattle.lua_meaning.specs.Store.{raw_set, position_key}
use Rattle.lua_heap.specs.Value.{value_view}
use Rattle.lua_heap.specs.Heap.{store_of}
use Rattle.lua_lib.proofs.call.tables.put_last.Goals as goal

pub returns-clause-store : goal.returns-clause-store
returns-clause-store c =
    let h = c.args.heap.now in
    let next : c.border-border.result + 1 ≡ suc c.border-border.result = omega arith in
    c.in_ok-set_item.ensures.store
    ∙ ap (λ (n : ℕ). raw_set (store_of h) c.args.table (position_key n) (value_view h.texts c.args.value.now)) (next ∙ ap suc c.border-border.ensures)
