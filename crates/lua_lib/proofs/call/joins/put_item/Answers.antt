use Rattle.std.proofs.Common.{pos, ◌+ℤ◌, refl}
use Rattle.lua_heap.specs.Value.{value_view}
use Rattle.lua_heap.specs.Heap.{store_of}
use Rattle.lua_lib.proofs.Joined.{item-text, item-no_text}
use Rattle.lua_lib.proofs.call.joins.put_item.Goals as goal

pub returns-in_ok-extend_from_slice-in-Some : goal.returns-in_ok-extend_from_slice-in-Some
returns-in_ok-extend_from_slice-in-Some c =
    let h = c.args.heap.now in (
      c.in-Some.text.now,
      c.in_ok-extend_from_slice-in-Some.ensures.items,
      item-text (store_of h) c.args.table (c.args.from +ℤ pos c.args.n) (value_view h.texts c.item.result) c.in-Some.text.now c.item.ensures.value c.in-Some.ensures,
    )

pub returns-in-None : goal.returns-in-None
returns-in-None c =
    let h = c.args.heap.now in
    (item-no_text (store_of h) c.args.table (c.args.from +ℤ pos c.args.n) c.number.result (value_view h.texts c.item.result) c.number.ensures c.item.ensures.value c.in-None.ensures, refl)

pub as_text-requires : goal.as_text-requires
as_text-requires c = c.item.ensures.made
