use Rattle.std.proofs.Common.{◌+◌, List, drop, sym, subst}
use Rattle.lua_heap.specs.declared.value.Value.{Value}
use Rattle.crossing.proofs.Items.{at_item, at_end}
use Rattle.crossing.proofs.Unpacked.{IsBegun, begun-step, begun-end}
use Rattle.crossing.proofs.unpacking.unpack_all.Goals as goal

pub loop-message-preserved : goal.loop-message-preserved
loop-message-preserved c =
    let messages = c.args.messages.now in
    let now = c.loop-message.heap in
    let so_far = c.loop-message.values.items in
    let next = at_item messages c.as_slice-message-items.result.now c.loop-message.message-index c.message-item.result c.as_slice-message-items.ensures c.loop-message-test.true c.message-item.is in
    let begun = subst (λ xs. IsBegun c.args.heap.now now so_far xs messages) next c.loop-message.invariant in
    let step = begun-step c.args.heap.now now c.unpack.new.heap so_far c.message-item.result (drop (c.loop-message.message-index + 1) messages) messages begun c.in_ok-unpack.ensures.kept
    c.in_ok-unpack.field-0 c.in_ok-unpack.ensures.unpacked in
    subst (λ (vs : List Value). IsBegun c.args.heap.now c.unpack.new.heap vs (drop (c.loop-message.message-index + 1) messages) messages) (sym c.in_ok-push.ensures.items) step

pub returns : goal.returns
returns c =
    let messages = c.args.messages.now in
    let none = at_end messages c.as_slice-message-items.result.now c.loop-message.message-index c.as_slice-message-items.ensures c.loop-message-test.false in
    let begun = subst (λ xs. IsBegun c.args.heap.now c.loop-message.heap c.loop-message.values.items xs messages) none c.loop-message.invariant in
    record { unpacked = begun-end c.args.heap.now c.loop-message.heap c.loop-message.values.items messages begun; kept = c.loop-message.invariant.kept }
