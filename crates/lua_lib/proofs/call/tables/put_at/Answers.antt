use Rattle.std.proofs.Common.{◌≡◌, ◌≤◌, ◌<◌, ◌-◌, List, map, drop, arith, ap, sym, ◌∙◌}
use Rattle.std.specs.Prelude.{length}
use Rattle.lua_meaning.specs.Store.{border}
use Rattle.lua_meaning.specs.Tables.{items}
use Rattle.lua_heap.specs.declared.value.Value.{Value}
use Rattle.lua_heap.specs.Value.{value_view}
use Rattle.lua_heap.specs.Heap.{store_of}
use Rattle.lua_heap.proofs.Callers.{Extends-trans}
use Rattle.lua_lib.specs.Causes.{values_of}
use Rattle.lua_lib.proofs.Moved.{inserted-behind, inserted-within}
use Rattle.lua_lib.proofs.Numbered.{AreMade-later}
use Rattle.lua_lib.proofs.call.tables.put_at.Goals as goal

pub returns-then-place-border-clause-store : goal.returns-then-place-border-clause-store
returns-then-place-border-clause-store c =
    let h = c.args.heap.now in
    let s = store_of h in
    let past : border s c.args.table < c.args.place = let e = c.border-border.ensures in let b = c.if-place-border.true in omega arith in
    c.in_ok-set_item.ensures.store ∙ sym (inserted-behind c.args.table s (value_view h.texts c.args.value.now) c.args.place past)

pub set_items-requires : goal.set_items-requires
set_items-requires c =
    let h = c.args.heap.now in
    let k = c.set_item-2.new.heap in
    let grown = c.set_item-2.ensures.extends.tables in
    let table = c.requires.table in
    let count = c.in_ok-moved.ensures.count in
    let same : c.in_ok-moved.moved.items ≡ c.as_slice.result.now = cc in
    let size : length c.in_ok-moved.moved.items ≡ length c.as_slice.result.now = ap (λ (vs : List Value). length vs) same in
    let e = c.border-border.ensures in
    record {
      table = omega arith;
      first = omega arith;
      last = omega arith;
      values = rw (sym same) (AreMade-later h k c.set_item-2.ensures.extends c.in_ok-moved.moved.items c.in_ok-moved.ensures.made);
    }

pub returns-clause-store : goal.returns-clause-store
returns-clause-store c =
    let h = c.args.heap.now in
    let k = c.set_item-2.new.heap in
    let s = store_of h in
    let t = c.args.table in
    let n = c.args.place in
    let same : c.as_slice.result.now ≡ c.in_ok-moved.moved.items = cc in
    let within : n ≤ border s t = let e = c.border-border.ensures in let b = c.if-place-border.false in omega arith in
    let moved : values_of k c.as_slice.result.now ≡ drop (n - 1) (items s t (border s t)) =
    ap (λ ts. map (value_view ts) c.as_slice.result.now) c.set_item-2.ensures.texts
    ∙ (ap (λ (vs : List Value). values_of h vs) same
    ∙ (c.in_ok-moved.ensures.items ∙ ap (λ b. drop (n - 1) (items s t b)) c.border-border.ensures)) in
    c.in_ok-set_items.ensures.store
    ∙ inserted-within t s (value_view h.texts c.args.value.now) n (values_of k c.as_slice.result.now) (store_of k) within moved c.in_ok-set_item-2.ensures.store

pub returns-clause-extends : goal.returns-clause-extends
returns-clause-extends c = Extends-trans c.args.heap.now c.set_item-2.new.heap c.set_items.new.heap c.set_item-2.ensures.extends c.set_items.ensures.extends

pub returns-clause-functions : goal.returns-clause-functions
returns-clause-functions c = c.set_items.ensures.functions ∙ c.set_item-2.ensures.functions

pub returns-in_err-set_items-clause-extends : goal.returns-in_err-set_items-clause-extends
returns-in_err-set_items-clause-extends c = Extends-trans c.args.heap.now c.set_item-2.new.heap c.set_items.new.heap c.set_item-2.ensures.extends c.set_items.ensures.extends

pub returns-in_err-set_items-clause-functions : goal.returns-in_err-set_items-clause-functions
returns-in_err-set_items-clause-functions c = c.set_items.ensures.functions ∙ c.set_item-2.ensures.functions
