use Rattle.std.proofs.Common.{◌+◌, List, drop, ap, sym, subst, refl, ◌∙◌, map, Ok}
use Rattle.variant.specs.declared.message.Variant.{Variant}
use Rattle.lua_meaning.specs.MessageView.{message_view}
use Rattle.lua_heap.specs.declared.value.Value.{Value}
use Rattle.lua_meaning.specs.Packing.{pack_all}
use Rattle.lua_heap.specs.Value.{value_view}
use Rattle.lua_heap.specs.Heap.{store_of}
use Rattle.crossing.proofs.Items.{at_item, at_end}
use Rattle.crossing.proofs.Packed.{AreBegun, begun-next, next-refused, all-begun, handed_on}
use Rattle.crossing.proofs.packing.pack_all.Goals as goal

pub returns-in_err-pack : goal.returns-in_err-pack
returns-in_err-pack c =
    let values = c.args.values.now in
    let item = c.value-item.result in
    let store = store_of c.args.heap.now in
    let texts = c.args.heap.now.texts in
    let rest = drop (c.loop-value.value-index + 1) values in
    let next = at_item values values c.loop-value.value-index item refl c.loop-value-test.true c.value-item.is in
    let begun = subst (λ (left : List Value). AreBegun store texts c.loop-value.messages.items left values) next c.loop-value.invariant in
    handed_on (map message_view) (pack_all store (map (value_view texts) values)) c.in_err-pack.field-0.0 c.from_residual.result
    (next-refused store texts c.loop-value.messages.items item rest values begun c.in_err-pack.field-0.0 c.in_err-pack.ensures) c.from_residual.ensures.1

pub loop-value-preserved : goal.loop-value-preserved
loop-value-preserved c =
    let values = c.args.values.now in
    let item = c.value-item.result in
    let store = store_of c.args.heap.now in
    let texts = c.args.heap.now.texts in
    let rest = drop (c.loop-value.value-index + 1) values in
    let next = at_item values values c.loop-value.value-index item refl c.loop-value-test.true c.value-item.is in
    let begun = subst (λ (left : List Value). AreBegun store texts c.loop-value.messages.items left values) next c.loop-value.invariant in
    let step = begun-next store texts c.loop-value.messages.items item rest values begun c.in_ok-pack.field-0 c.in_ok-pack.ensures in
    subst (λ (messages : List Variant). AreBegun store texts messages rest values) (sym c.in_ok-push.ensures.items) step

pub returns : goal.returns
returns c =
    let values = c.args.values.now in
    let store = store_of c.args.heap.now in
    let texts = c.args.heap.now.texts in
    let none = at_end values values c.loop-value.value-index refl c.loop-value-test.false in
    let begun = subst (λ (left : List Value). AreBegun store texts c.loop-value.messages.items left values) none c.loop-value.invariant in
    all-begun store texts c.loop-value.messages.items values begun ∙ ap (λ messages. Ok (map message_view messages)) (sym c.from_vec.ensures)
