use Rattle.std.proofs.Common.{ℕ, ◌+◌, List, [], ◌∷◌, length, drop, Ok, sym, ap, ◌∙◌, subst, inr, arith, length-append}
use Rattle.std.specs.Prelude.{count_by}
use Rattle.lua_pattern.proofs.ReadsLemmas.{count_by-append}
use Rattle.lua_pattern.specs.Tree.{begins_capture}
use Rattle.lua_pattern.specs.Reading.{Read, Reads, ItemAt, captures_after, with_items}
use Rattle.lua_pattern.specs.declared.item.Item.{Item}
use Rattle.lua_pattern.specs.declared.mark.Mark.{Mark}
use Rattle.lua_pattern.proofs.SetLemmas.{rest_is}
use Rattle.lua_pattern.proofs.ReadsLemmas.{length-captures_after, few_before, room_for, one_more, fault_read, open_at_end, closed_at_end}
use Rattle.lua_pattern.proofs.reader.items.Goals as goal

pub note-requires : goal.note-requires
note-requires c =
    let text = c.in-Some.text.now in
    room_for c.loop-byte.captures c.len.result c.in-Some.byte.now text c.in-Ok.item (drop c.in-Ok.size text) c.in-Ok.ensures.ok c.loop-byte.invariant.room

pub loop-byte-preserved : goal.loop-byte-preserved
loop-byte-preserved c =
    let source = c.args.source.now in
    let captures = c.loop-byte.captures in
    let before = c.loop-byte.items in
    let item = c.in-Ok.item in
    let text = c.in-Some.text.now in
    let behind = drop c.in-Ok.size text in
    let stands = subst (λ (count : ℕ). ItemAt captures count c.in-Some.byte.now text (Ok (item, behind))) c.len.ensures c.in-Ok.ensures.ok in
    let pushed = c.in_ok-push-in-Ok.ensures.ok in
    let room = room_for captures (length before) c.in-Some.byte.now text item behind stands c.loop-byte.invariant.room in
    let few = few_before captures (length before) c.in-Some.byte.now text item behind stands in
    let noted = ap length c.note.ensures ∙ length-captures_after item captures in
    let longer = ap length pushed ∙ length-append before (item ∷ []) in
    let so_far = λ (read : Read) (h : Reads captures (length before) (c.in-Some.byte.now ∷ text) read). c.loop-byte.invariant.so_far read (subst (λ (t : List ℕ). Reads captures (length before) t read) (sym c.in-Some.ensures.cases.0) h) in
    record {
      few = omega (arith, few, longer);
      room = omega (arith, room, noted);
      counted = noted ∙ ap (λ (n : ℕ). n + count_by begins_capture (item ∷ [])) c.loop-byte.invariant.counted ∙ sym (count_by-append begins_capture before (item ∷ [])) ∙ sym (ap (count_by begins_capture) pushed);
      so_far = λ read h.
          let rest = subst (λ (t : List ℕ). Reads c.note.new.captures (length c.push.new.self) t read) (rest_is c.in-Ok.size text) h in
          let caps = subst (λ (ms : List Mark). Reads ms (length c.push.new.self) behind read) c.note.ensures rest in
          let more = subst (λ (all : List Item). Reads (captures_after item captures) (length all) behind read) pushed caps in
          subst (λ (all : List Item). Reads [] 0 source (with_items all read)) (sym pushed) (one_more source captures before c.in-Some.byte.now text item behind stands so_far read more);
    }

pub returns-in-Err-clause-fault : goal.returns-in-Err-clause-fault
returns-in-Err-clause-fault c =
    fault_read c.args.source.now c.loop-byte.captures c.loop-byte.items c.len.result c.in-Some.byte.now c.in-Some.text.now c.loop-byte.rest.now c.in-Err.fault c.in-Some.ensures.cases.0 c.len.ensures c.loop-byte.invariant.so_far c.in-Err.ensures.fault

pub returns-then-has_open-clause-fault : goal.returns-then-has_open-clause-fault
returns-then-has_open-clause-fault c =
    inr (open_at_end c.args.source.now c.loop-byte.captures c.loop-byte.items c.loop-byte.rest.now c.in_default.ensures.cases c.loop-byte.invariant.so_far (sym (c.has_open.ensures 0) ∙ c.if-has_open.true))

pub returns-clause-ok : goal.returns-clause-ok
returns-clause-ok c =
    closed_at_end c.args.source.now c.loop-byte.captures c.loop-byte.items c.loop-byte.rest.now c.in_default.ensures.cases c.loop-byte.invariant.so_far (sym (c.has_open.ensures 0) ∙ c.if-has_open.false)
