use Rattle.std.proofs.Common.{◌≡◌, ℕ, suc, ◌+◌, ◌-◌, List, drop, length, ap, sym, subst, ◌∙◌, refl, arith, true, false, Ok, Err}
use Rattle.std.specs.Prelude.{reverse}
use Rattle.variant.specs.declared.message.Variant.{Variant}
use Rattle.variant.specs.declared.message.Variant.TheVariants as variant
use Rattle.lua_meaning.specs.Message.{Message}
use Rattle.lua_meaning.specs.MessageView.{message_view}
use Rattle.lua_meaning.specs.Value as meant
use Rattle.lua_meaning.specs.Packing.{pack_within}
use Rattle.lua_heap.specs.declared.value.Value.{Value}
use Rattle.lua_heap.specs.declared.value.Value.TheVariants.{Nil, Bool, Num, Str, Table, Func, Native, Channel, Thread, Data}
use Rattle.lua_heap.specs.Native.{native_view}
use Rattle.lua_heap.specs.Value.{value_view, text_at}
use Rattle.lua_heap.specs.Heap.{store_of}
use Rattle.crossing.specs.declared.fault.PackFault.TheVariants.{Kind, Depth}
use Rattle.crossing.specs.declared.fault.SentType.TheVariants as sent
use Rattle.crossing.specs.Fault.{Answers}
use Rattle.crossing.specs.Pairs.{pairs_view, ArePairsMade}
use Rattle.crossing.proofs.Items.{at_item, at_end}
use Rattle.crossing.proofs.Packed.{nil_answers, flag_answers, num_answers, channel_answers, func_answers, native_answers, thread_answers, at_value, at_text, at_data, cycle_answers, depth_answers, stack-holds, pairs-made, opened_refused, opened_answers, popped, IsBegun, begun-more, begun-all, key-refused, value-refused, packed_of, handed_on}
use Rattle.crossing.proofs.packing.+pack.Goals as goal

pub pack_within-returns-in-Nil-clause-packed : goal.pack_within-returns-in-Nil-clause-packed
pack_within-returns-in-Nil-clause-packed t c = at_value c.args.left (store_of c.args.heap.now) (reverse c.args.inside.now.items) c.args.heap.now.texts c.args.value.now Nil (Ok variant.Nil) c.in-Nil.is (nil_answers c.args.left (store_of c.args.heap.now) (reverse c.args.inside.now.items))

pub pack_within-returns-in-Bool-clause-packed : goal.pack_within-returns-in-Bool-clause-packed
pack_within-returns-in-Bool-clause-packed t c = at_value c.args.left (store_of c.args.heap.now) (reverse c.args.inside.now.items) c.args.heap.now.texts c.args.value.now (Bool c.in-Bool.truth) (Ok (variant.Bool c.in-Bool.truth)) c.in-Bool.is (flag_answers c.args.left (store_of c.args.heap.now) (reverse c.args.inside.now.items) c.in-Bool.truth)

pub pack_within-returns-in-Num-clause-packed : goal.pack_within-returns-in-Num-clause-packed
pack_within-returns-in-Num-clause-packed t c = at_value c.args.left (store_of c.args.heap.now) (reverse c.args.inside.now.items) c.args.heap.now.texts c.args.value.now (Num c.in-Num.number) (Ok (variant.Num c.in-Num.number)) c.in-Num.is (num_answers c.args.left (store_of c.args.heap.now) (reverse c.args.inside.now.items) c.in-Num.number)

pub pack_within-returns-in-Channel-clause-packed : goal.pack_within-returns-in-Channel-clause-packed
pack_within-returns-in-Channel-clause-packed t c = at_value c.args.left (store_of c.args.heap.now) (reverse c.args.inside.now.items) c.args.heap.now.texts c.args.value.now (Channel c.in-Channel.channel) (Ok (variant.Channel c.in-Channel.channel)) c.in-Channel.is (channel_answers c.args.left (store_of c.args.heap.now) (reverse c.args.inside.now.items) c.in-Channel.channel)

pub pack_within-returns-in-Str-clause-packed : goal.pack_within-returns-in-Str-clause-packed
pack_within-returns-in-Str-clause-packed t c = at_value c.args.left (store_of c.args.heap.now) (reverse c.args.inside.now.items) c.args.heap.now.texts c.args.value.now (Str c.in-Str.id) c.pack_text.result c.in-Str.is (at_text c.args.left (store_of c.args.heap.now) (reverse c.args.inside.now.items) (text_at c.args.heap.now.texts c.in-Str.id) c.pack_text.result c.pack_text.ensures)

pub pack_within-returns-in-Data-clause-packed : goal.pack_within-returns-in-Data-clause-packed
pack_within-returns-in-Data-clause-packed t c = at_value c.args.left (store_of c.args.heap.now) (reverse c.args.inside.now.items) c.args.heap.now.texts c.args.value.now (Data c.in-Data.id) c.pack_data.result c.in-Data.is (at_data c.args.left (store_of c.args.heap.now) (reverse c.args.inside.now.items) c.in-Data.id c.pack_data.result c.pack_data.ensures)

pub pack_within-returns-in-Table-clause-packed : goal.pack_within-returns-in-Table-clause-packed
pack_within-returns-in-Table-clause-packed t c = at_value c.args.left (store_of c.args.heap.now) (reverse c.args.inside.now.items) c.args.heap.now.texts c.args.value.now (Table c.in-Table.id) c.pack_table.result c.in-Table.is c.pack_table.ensures.packed

pub pack_within-returns-in-Table-clause-inside : goal.pack_within-returns-in-Table-clause-inside
pack_within-returns-in-Table-clause-inside t c = c.pack_table.ensures.inside

pub pack_within-returns-in-Func-clause-packed : goal.pack_within-returns-in-Func-clause-packed
pack_within-returns-in-Func-clause-packed t c =
    at_value c.args.left (store_of c.args.heap.now) (reverse c.args.inside.now.items) c.args.heap.now.texts c.args.value.now (Func c.in-Func.field-0) (Err (Kind sent.Function)) c.in-Func.is
    (func_answers c.args.left (store_of c.args.heap.now) (reverse c.args.inside.now.items) c.in-Func.field-0)

pub pack_within-returns-in-Native-clause-packed : goal.pack_within-returns-in-Native-clause-packed
pack_within-returns-in-Native-clause-packed t c =
    at_value c.args.left (store_of c.args.heap.now) (reverse c.args.inside.now.items) c.args.heap.now.texts c.args.value.now (Native c.in-Native.field-0) (Err (Kind sent.Function)) c.in-Native.is
    (native_answers c.args.left (store_of c.args.heap.now) (reverse c.args.inside.now.items) (native_view c.in-Native.field-0))

pub pack_within-returns-in-Thread-clause-packed : goal.pack_within-returns-in-Thread-clause-packed
pack_within-returns-in-Thread-clause-packed t c =
    at_value c.args.left (store_of c.args.heap.now) (reverse c.args.inside.now.items) c.args.heap.now.texts c.args.value.now (Thread c.in-Thread.field-0) (Err (Kind sent.Thread)) c.in-Thread.is
    (thread_answers c.args.left (store_of c.args.heap.now) (reverse c.args.inside.now.items) c.in-Thread.field-0)

-- ---- pack_table

pub pack_table-returns-then-contains-clause-packed : goal.pack_table-returns-then-contains-clause-packed
pack_table-returns-then-contains-clause-packed t c =
    cycle_answers c.args.left (store_of c.args.heap.now) (reverse c.args.inside.now.items) c.args.id
    (stack-holds c.args.inside.now.items c.deref.result.now c.args.id c.contains.result true c.deref.ensures.value c.contains.ensures.value c.if-contains.true)

pub pack_table-returns-then-left-eq0-clause-packed : goal.pack_table-returns-then-left-eq0-clause-packed
pack_table-returns-then-left-eq0-clause-packed t c =
    let out = stack-holds c.args.inside.now.items c.deref.result.now c.args.id c.contains.result false c.deref.ensures.value c.contains.ensures.value c.if-contains.false in
    subst (λ (left : ℕ). Answers {M = Message} {V = Variant} message_view (pack_within left (store_of c.args.heap.now) (reverse c.args.inside.now.items) (meant.table c.args.id)) (Err Depth)) (sym c.if-left-eq0.true)
    (depth_answers (store_of c.args.heap.now) (reverse c.args.inside.now.items) c.args.id out)

pub pack_table-pack_pairs-requires : goal.pack_table-pack_pairs-requires
pack_table-pack_pairs-requires t c =
    let some = c.if-left-eq0.false in
    let measure = c.decreases in (
      omega (arith, some, measure),
      subst (λ (pairs : List (Value × Value)). ArePairsMade c.args.heap.now pairs) (sym (c.deref-2.ensures.value ∙ c.in_ok-pairs.ensures))
          (pairs-made c.args.heap.now c.table.result.now c.table.ensures.made),
    )

pub pack_table-returns-in_err-packed-clause-packed : goal.pack_table-returns-in_err-packed-clause-packed
pack_table-returns-in_err-packed-clause-packed t c =
    let below = c.args.inside.now.items in
    let stack = c.push.new.self.items in
    let out = stack-holds below c.deref.result.now c.args.id c.contains.result false c.deref.ensures.value c.contains.ensures.value c.if-contains.false in
    let some = c.if-left-eq0.false in
    let less : c.args.left ≡ suc (c.args.left - 1) = omega (arith, some) in
    handed_on message_view (pack_within c.args.left (store_of c.args.heap.now) (reverse below) (meant.table c.args.id)) c.in_err-packed.field-0.0 c.from_residual-in_err-packed.result
    (opened_refused c.args.left (c.args.left - 1) (store_of c.args.heap.now) below stack c.args.id c.args.heap.now.texts c.table.result.now c.deref-2.result.now less c.in_ok-push.ensures.items out c.table.ensures.places
    (c.deref-2.ensures.value ∙ c.in_ok-pairs.ensures) c.in_err-packed.field-0.0 c.in_err-packed.ensures.packed)
    c.from_residual-in_err-packed.ensures.1

pub pack_table-returns : goal.pack_table-returns
pack_table-returns t c =
    let below = c.args.inside.now.items in
    let stack = c.push.new.self.items in
    let out = stack-holds below c.deref.result.now c.args.id c.contains.result false c.deref.ensures.value c.contains.ensures.value c.if-contains.false in
    let some = c.if-left-eq0.false in
    let less : c.args.left ≡ suc (c.args.left - 1) = omega (arith, some) in
    let packed_stack = c.pack_pairs.new.inside in
    let size : packed_stack.len ≡ length packed_stack.items = omega (arith, packed_stack.ok.0) in
    record {
      packed =
          opened_answers c.args.left (c.args.left - 1) (store_of c.args.heap.now) below stack c.args.id c.args.heap.now.texts c.table.result.now c.deref-2.result.now less c.in_ok-push.ensures.items out c.table.ensures.places
          (c.deref-2.ensures.value ∙ c.in_ok-pairs.ensures) c.in_ok-packed.packed c.in_ok-packed.ensures.packed;
      inside = c.pop-id.ensures.rest ∙ popped below packed_stack.items c.args.id packed_stack.len (c.in_ok-packed.ensures.inside ∙ c.in_ok-push.ensures.items) size;
    }

-- ---- pack_pairs

pub pack_pairs-returns-in_err-key-clause-packed : goal.pack_pairs-returns-in_err-key-clause-packed
pack_pairs-returns-in_err-key-clause-packed t c =
    let pairs = c.args.pairs.now in
    let pair = c.loop-key-item.result in
    let packing = λ (v : meant.Value). pack_within c.args.left (store_of c.args.heap.now) (reverse c.args.inside.now.items) v in
    let rest = drop (c.loop-key.key-index + 1) pairs in
    let next = at_item pairs pairs c.loop-key.key-index pair refl c.loop-key-test.true c.loop-key-item.is in
    let begun = subst (λ (left : List (Value × Value)). IsBegun packing c.args.heap.now.texts c.loop-key.packed.items left pairs) next c.loop-key.invariant.begun in
    handed_on pairs_view (packed_of packing c.args.heap.now.texts pairs) c.in_err-key.field-0.0 c.from_residual.result
    (key-refused packing c.args.heap.now.texts c.loop-key.packed.items pair.0 pair.1 rest pairs begun c.in_err-key.field-0.0 c.in_err-key.ensures) c.from_residual.ensures.1

pub pack_pairs-returns-in_err-value-clause-packed : goal.pack_pairs-returns-in_err-value-clause-packed
pack_pairs-returns-in_err-value-clause-packed t c =
    let pairs = c.args.pairs.now in
    let pair = c.loop-key-item.result in
    let packing = λ (v : meant.Value). pack_within c.args.left (store_of c.args.heap.now) (reverse c.args.inside.now.items) v in
    let rest = drop (c.loop-key.key-index + 1) pairs in
    let next = at_item pairs pairs c.loop-key.key-index pair refl c.loop-key-test.true c.loop-key-item.is in
    let begun = subst (λ (left : List (Value × Value)). IsBegun packing c.args.heap.now.texts c.loop-key.packed.items left pairs) next c.loop-key.invariant.begun in
    let refused = subst (λ (inside : List ℕ). Answers {M = Message} {V = Variant} message_view (pack_within c.args.left (store_of c.args.heap.now) (reverse inside) (value_view c.args.heap.now.texts pair.1)) (Err c.in_err-value.field-0.0))
    c.loop-key.invariant.inside c.in_err-value.ensures.packed in
    handed_on pairs_view (packed_of packing c.args.heap.now.texts pairs) c.in_err-value.field-0.0 c.from_residual-in_err-value.result
    (value-refused packing c.args.heap.now.texts c.loop-key.packed.items pair.0 pair.1 rest pairs begun (message_view c.in_ok-key.key) c.in_ok-key.ensures c.in_err-value.field-0.0 refused)
    c.from_residual-in_err-value.ensures.1

pub pack_pairs-loop-key-preserved : goal.pack_pairs-loop-key-preserved
pack_pairs-loop-key-preserved t c =
    let pairs = c.args.pairs.now in
    let pair = c.loop-key-item.result in
    let packing = λ (v : meant.Value). pack_within c.args.left (store_of c.args.heap.now) (reverse c.args.inside.now.items) v in
    let rest = drop (c.loop-key.key-index + 1) pairs in
    let next = at_item pairs pairs c.loop-key.key-index pair refl c.loop-key-test.true c.loop-key-item.is in
    let begun = subst (λ (left : List (Value × Value)). IsBegun packing c.args.heap.now.texts c.loop-key.packed.items left pairs) next c.loop-key.invariant.begun in
    let value_is = subst (λ (inside : List ℕ). Answers message_view (pack_within c.args.left (store_of c.args.heap.now) (reverse inside) (value_view c.args.heap.now.texts pair.1)) (Ok c.in_ok-value.value))
    c.loop-key.invariant.inside c.in_ok-value.ensures.packed in
    record {
      begun = subst (λ (packed : List (Variant × Variant)). IsBegun packing c.args.heap.now.texts packed rest pairs) (sym c.in_ok-push.ensures.items)
          (begun-more packing c.args.heap.now.texts c.loop-key.packed.items pair.0 pair.1 rest pairs begun c.in_ok-key.key c.in_ok-value.value c.in_ok-key.ensures value_is);
      inside = c.in_ok-value.ensures.inside ∙ c.loop-key.invariant.inside;
    }

pub pack_pairs-returns-clause-packed : goal.pack_pairs-returns-clause-packed
pack_pairs-returns-clause-packed t c =
    let pairs = c.args.pairs.now in
    let packing = λ (v : meant.Value). pack_within c.args.left (store_of c.args.heap.now) (reverse c.args.inside.now.items) v in
    let none = at_end pairs pairs c.loop-key.key-index refl c.loop-key-test.false in
    let begun = subst (λ (left : List (Value × Value)). IsBegun packing c.args.heap.now.texts c.loop-key.packed.items left pairs) none c.loop-key.invariant.begun in
    begun-all packing c.args.heap.now.texts c.loop-key.packed.items pairs begun ∙ ap (λ ps. Ok (pairs_view ps)) (sym c.from_vec.ensures)
