use Rattle.std.proofs.Common.{◌+◌, List, drop, ap, subst, ◌∙◌, refl}
use Rattle.variant.specs.declared.message.Variant.{Variant}
use Rattle.variant.specs.declared.message.Variant.TheVariants as variant
use Rattle.lua_meaning.specs.Message.{Message}
use Rattle.lua_meaning.specs.MessageView.{message_view}
use Rattle.lua_heap.proofs.Callers.{IsMade-later}
use Rattle.crossing.specs.Pairs.{pairs_view}
use Rattle.crossing.proofs.Seen.{seen-Bytes, seen-Data, seen-Table}
use Rattle.crossing.proofs.Keeping.{Keeps-same}
use Rattle.crossing.proofs.Items.{at_item, at_end}
use Rattle.crossing.proofs.Unpacked.{IsFilled, fill-start, fill-key, fill-nil, fill-value, fill-value_made, fill-set, fill-pair, fill-end, unpacked-Nil, unpacked-Bool, unpacked-Num, unpacked-Channel, at_message, seen_as}
use Rattle.crossing.proofs.unpacking.+unpack.Goals as goal

-- ---- unpack

pub unpack-returns-in-Nil-clause-unpacked : goal.unpack-returns-in-Nil-clause-unpacked
unpack-returns-in-Nil-clause-unpacked t c = at_message c.args.message.now variant.Nil c.args.heap.now c.args.heap.now _ c.in-Nil.is (unpacked-Nil c.args.heap.now)

pub unpack-returns-in-Nil-clause-kept : goal.unpack-returns-in-Nil-clause-kept
unpack-returns-in-Nil-clause-kept t c = Keeps-same _ c.args.heap.now c.args.heap.now refl

pub unpack-returns-in-Bool-clause-unpacked : goal.unpack-returns-in-Bool-clause-unpacked
unpack-returns-in-Bool-clause-unpacked t c = at_message c.args.message.now (variant.Bool c.in-Bool.truth) c.args.heap.now c.args.heap.now _ c.in-Bool.is (unpacked-Bool c.args.heap.now c.in-Bool.truth)

pub unpack-returns-in-Bool-clause-kept : goal.unpack-returns-in-Bool-clause-kept
unpack-returns-in-Bool-clause-kept t c = Keeps-same _ c.args.heap.now c.args.heap.now refl

pub unpack-returns-in-Num-clause-unpacked : goal.unpack-returns-in-Num-clause-unpacked
unpack-returns-in-Num-clause-unpacked t c = at_message c.args.message.now (variant.Num c.in-Num.number) c.args.heap.now c.args.heap.now _ c.in-Num.is (unpacked-Num c.args.heap.now c.in-Num.number)

pub unpack-returns-in-Num-clause-kept : goal.unpack-returns-in-Num-clause-kept
unpack-returns-in-Num-clause-kept t c = Keeps-same _ c.args.heap.now c.args.heap.now refl

pub unpack-returns-in-Channel-clause-unpacked : goal.unpack-returns-in-Channel-clause-unpacked
unpack-returns-in-Channel-clause-unpacked t c = at_message c.args.message.now (variant.Channel c.in-Channel.channel) c.args.heap.now c.args.heap.now _ c.in-Channel.is (unpacked-Channel c.args.heap.now c.in-Channel.channel)

pub unpack-returns-in-Channel-clause-kept : goal.unpack-returns-in-Channel-clause-kept
unpack-returns-in-Channel-clause-kept t c = Keeps-same _ c.args.heap.now c.args.heap.now refl

pub unpack-returns-in-Bytes-clause-unpacked : goal.unpack-returns-in-Bytes-clause-unpacked
unpack-returns-in-Bytes-clause-unpacked t c =
    seen_as c.args.message.now (Message.str c.in-Bytes.text) c.args.heap.now c.unpack_text.new.heap c.unpack_text.result (ap message_view c.in-Bytes.is ∙ seen-Bytes c.in-Bytes.text) c.unpack_text.ensures.unpacked

pub unpack-returns-in-Bytes-clause-kept : goal.unpack-returns-in-Bytes-clause-kept
unpack-returns-in-Bytes-clause-kept t c = c.unpack_text.ensures.kept

pub unpack-returns-in-Data-clause-unpacked : goal.unpack-returns-in-Data-clause-unpacked
unpack-returns-in-Data-clause-unpacked t c =
    seen_as c.args.message.now (Message.datum c.in-Data.content) c.args.heap.now c.unpack_data.new.heap c.unpack_data.result (ap message_view c.in-Data.is ∙ seen-Data c.in-Data.content) c.unpack_data.ensures.unpacked

pub unpack-returns-in-Data-clause-kept : goal.unpack-returns-in-Data-clause-kept
unpack-returns-in-Data-clause-kept t c = c.unpack_data.ensures.kept

pub unpack-returns-in-Table-clause-unpacked : goal.unpack-returns-in-Table-clause-unpacked
unpack-returns-in-Table-clause-unpacked t c =
    seen_as c.args.message.now (Message.table (pairs_view c.in-Table.pairs)) c.args.heap.now c.unpack_table.new.heap c.unpack_table.result (ap message_view c.in-Table.is ∙ seen-Table c.in-Table.pairs) c.unpack_table.ensures.unpacked

pub unpack-returns-in-Table-clause-kept : goal.unpack-returns-in-Table-clause-kept
unpack-returns-in-Table-clause-kept t c = c.unpack_table.ensures.kept

-- ---- unpack_table

pub unpack_table-returns-in_err-table-clause-kept : goal.unpack_table-returns-in_err-table-clause-kept
unpack_table-returns-in_err-table-clause-kept t c = Keeps-same _ c.args.heap.now c.new_table.new.self c.in_err-table.ensures.refused

pub unpack_table-loop-key-init : goal.unpack_table-loop-key-init
unpack_table-loop-key-init t c =
    fill-start c.args.heap.now c.new_table.new.self c.in_ok-table.table c.args.pairs.now c.in_ok-table.ensures.id c.in_ok-table.ensures.made c.in_ok-table.ensures.store c.in_ok-table.ensures.extends

pub unpack_table-returns-in_err-key-clause-kept : goal.unpack_table-returns-in_err-key-clause-kept
unpack_table-returns-in_err-key-clause-kept t c =
    let pairs = c.args.pairs.now in
    let pair = c.loop-key-item.result in
    let next = at_item pairs c.as_slice-key-items.result.now c.loop-key.key-index pair c.as_slice-key-items.ensures c.loop-key-test.true c.loop-key-item.is in
    let filled = subst (λ xs. IsFilled c.args.heap.now c.loop-key.heap c.in_ok-table.table xs pairs) next c.loop-key.invariant in
    fill-key c.args.heap.now c.loop-key.heap c.unpack.new.heap c.in_ok-table.table pair.0 pair.1 (drop (c.loop-key.key-index + 1) pairs) pairs filled c.unpack.ensures.kept

pub unpack_table-loop-key-preserved-in-Nil : goal.unpack_table-loop-key-preserved-in-Nil
unpack_table-loop-key-preserved-in-Nil t c =
    let pairs = c.args.pairs.now in
    let pair = c.loop-key-item.result in
    let rest = drop (c.loop-key.key-index + 1) pairs in
    let next = at_item pairs c.as_slice-key-items.result.now c.loop-key.key-index pair c.as_slice-key-items.ensures c.loop-key-test.true c.loop-key-item.is in
    let filled = subst (λ (left : List (Variant × Variant)). IsFilled c.args.heap.now c.loop-key.heap c.in_ok-table.table left pairs) next c.loop-key.invariant in
    fill-nil c.args.heap.now c.loop-key.heap c.unpack.new.heap c.in_ok-table.table pair.0 pair.1 rest pairs filled c.in_ok-key.ensures.kept c.in_ok-key.key c.in_ok-key.ensures.unpacked c.in-Nil.is

pub unpack_table-returns-in_err-value-clause-kept : goal.unpack_table-returns-in_err-value-clause-kept
unpack_table-returns-in_err-value-clause-kept t c =
    let pairs = c.args.pairs.now in
    let pair = c.loop-key-item.result in
    let rest = drop (c.loop-key.key-index + 1) pairs in
    let next = at_item pairs c.as_slice-key-items.result.now c.loop-key.key-index pair c.as_slice-key-items.ensures c.loop-key-test.true c.loop-key-item.is in
    let filled = subst (λ (left : List (Variant × Variant)). IsFilled c.args.heap.now c.loop-key.heap c.in_ok-table.table left pairs) next c.loop-key.invariant in
    fill-value c.args.heap.now c.loop-key.heap c.unpack.new.heap c.in_ok-table.table pair.0 pair.1 rest pairs filled c.in_ok-key.ensures.kept
    c.unpack-in-loop-key.new.heap c.in_err-value.ensures.kept

pub unpack_table-set-requires : goal.unpack_table-set-requires
unpack_table-set-requires t c =
    let pairs = c.args.pairs.now in
    let pair = c.loop-key-item.result in
    let rest = drop (c.loop-key.key-index + 1) pairs in
    let next = at_item pairs c.as_slice-key-items.result.now c.loop-key.key-index pair c.as_slice-key-items.ensures c.loop-key-test.true c.loop-key-item.is in
    let filled = subst (λ (left : List (Variant × Variant)). IsFilled c.args.heap.now c.loop-key.heap c.in_ok-table.table left pairs) next c.loop-key.invariant in
    record {
      table = fill-value_made c.args.heap.now c.loop-key.heap c.unpack.new.heap c.in_ok-table.table pair.0 pair.1 rest pairs filled c.in_ok-key.ensures.kept
          c.unpack-in-loop-key.new.heap c.in_ok-value.ensures.kept;
      key = IsMade-later c.unpack.new.heap c.unpack-in-loop-key.new.heap c.in_ok-value.ensures.kept.extends c.in_ok-key.key c.in_ok-key.ensures.unpacked.made;
      is_key = c.in_default.not-Nil;
      value = c.in_ok-value.ensures.unpacked.made;
    }

pub unpack_table-returns-in_err-set-clause-kept : goal.unpack_table-returns-in_err-set-clause-kept
unpack_table-returns-in_err-set-clause-kept t c =
    let pairs = c.args.pairs.now in
    let pair = c.loop-key-item.result in
    let rest = drop (c.loop-key.key-index + 1) pairs in
    let next = at_item pairs c.as_slice-key-items.result.now c.loop-key.key-index pair c.as_slice-key-items.ensures c.loop-key-test.true c.loop-key-item.is in
    let filled = subst (λ (left : List (Variant × Variant)). IsFilled c.args.heap.now c.loop-key.heap c.in_ok-table.table left pairs) next c.loop-key.invariant in
    fill-set c.args.heap.now c.loop-key.heap c.unpack.new.heap c.in_ok-table.table pair.0 pair.1 rest pairs filled c.in_ok-key.ensures.kept
    c.unpack-in-loop-key.new.heap c.in_ok-value.ensures.kept c.set.new.heap c.set.ensures.kept

pub unpack_table-loop-key-preserved : goal.unpack_table-loop-key-preserved
unpack_table-loop-key-preserved t c =
    let pairs = c.args.pairs.now in
    let pair = c.loop-key-item.result in
    let rest = drop (c.loop-key.key-index + 1) pairs in
    let next = at_item pairs c.as_slice-key-items.result.now c.loop-key.key-index pair c.as_slice-key-items.ensures c.loop-key-test.true c.loop-key-item.is in
    let filled = subst (λ (left : List (Variant × Variant)). IsFilled c.args.heap.now c.loop-key.heap c.in_ok-table.table left pairs) next c.loop-key.invariant in
    fill-pair c.args.heap.now c.loop-key.heap c.unpack.new.heap c.in_ok-table.table pair.0 pair.1 rest pairs filled c.in_ok-key.ensures.kept
    c.unpack-in-loop-key.new.heap c.in_ok-value.ensures.kept c.set.new.heap c.set.ensures.kept c.in_ok-key.key c.in_ok-value.value c.in_ok-key.ensures.unpacked c.in_default.not-Nil
    c.in_ok-value.ensures.unpacked c.in_ok-set.ensures.store

pub unpack_table-returns-clause-unpacked : goal.unpack_table-returns-clause-unpacked
unpack_table-returns-clause-unpacked t c =
    let pairs = c.args.pairs.now in
    let none = at_end pairs c.as_slice-key-items.result.now c.loop-key.key-index c.as_slice-key-items.ensures c.loop-key-test.false in
    fill-end c.args.heap.now c.loop-key.heap c.in_ok-table.table pairs (subst (λ xs. IsFilled c.args.heap.now c.loop-key.heap c.in_ok-table.table xs pairs) none c.loop-key.invariant)

pub unpack_table-returns-clause-kept : goal.unpack_table-returns-clause-kept
unpack_table-returns-clause-kept t c = c.loop-key.invariant.kept
