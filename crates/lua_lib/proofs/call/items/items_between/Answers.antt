use Rattle.std.proofs.Common.{ℤ, ◌+◌, ◌-◌, map, ap, sym, ◌∙◌}
use Rattle.lua_meaning.specs.Basic.{items_from}
use Rattle.lua_heap.specs.Value.{value_view}
use Rattle.lua_heap.specs.Heap.{store_of}
use Rattle.lua_lib.proofs.Moved.{items-behind, items-none}
use Rattle.lua_lib.proofs.call.items.items_between.Goals as goal

pub returns-then-first-last-clause-items : goal.returns-then-first-last-clause-items
returns-then-first-last-clause-items c =
    ap (map (value_view c.args.heap.now.texts)) c.new.ensures.items
    ∙ items-none (store_of c.args.heap.now) c.args.table c.args.first c.args.last c.requires.first c.if-first-last.true

pub returns-clause-items : goal.returns-clause-items
returns-clause-items c =
    let s = store_of c.args.heap.now in
    c.in_ok-made.ensures.items
    ∙ (ap (λ (z : ℤ). items_from s c.args.table z (c.args.last + 1 - c.args.first)) c.number_at.ensures
    ∙ sym (items-behind s c.args.table c.args.first c.args.last c.requires.first))
