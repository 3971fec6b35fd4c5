use Rattle.std.proofs.Common.{◌+◌, ◌∷◌, ◌++◌, [], Some, map, get_or, sym, subst, refl, ap, ◌∙◌, arith, false}
use Rattle.std.proofs.lemmas.List.{map-append, get_or-set_other}
use Rattle.std.specs.Option.{IsSome}
use Rattle.std.specs.Slots.{slots_counts}
use mathlib.Core.Option.{some, some-injective}
use lib.ListN.{get_elem?}
use Rattle.turn_desk.proofs.Settled.{take_next, emptied_more}
use Rattle.turn_desk.proofs.closing.take_all.Goals as goal

pub unwrap-requires : goal.unwrap-requires
unwrap-requires g c = let so_far = c.loop-object.invariant in let long = (slots_counts c.args.closed.slots).0 in let len = so_far.len in
    let h = c.requires.home c.loop-object.object (omega arith) in
    subst IsSome (some-injective _ _ (sym h.1 ∙ (ap (λ l. get_elem? l c.loop-object.object) (sym so_far.items) ∙ c.take.ensures.value))) refl

pub loop-object-preserved : goal.loop-object-preserved
loop-object-preserved g c = let so_far = c.loop-object.invariant in let o = c.loop-object.object in let others = c.take.ensures.others in let long = (slots_counts c.args.closed.slots).0 in let len = so_far.len in let flags = (slots_counts c.loop-object.closed.slots).1 in
    let value = ap (λ l. get_elem? l o) (sym so_far.items) ∙ (c.take.ensures.value ∙ ap some c.unwrap.ensures) in record {
      filled = λ k low high. ap (λ l. get_or l k false) others.1 ∙ (get_or-set_other _ o k false false (λ e. omega arith) ∙ so_far.filled k (omega arith) (omega (arith, others.2)));
      emptied = emptied_more _ _ o others.1 (omega arith) so_far.emptied;
      items = others.0 ∙ so_far.items;
      len = others.2 ∙ so_far.len;
      taken = ap (map Some) c.push_reserved.ensures.items ∙ (map-append Some c.loop-object.objects.items (c.unwrap.result ∷ []) ∙ (ap (λ l. l ++ Some c.unwrap.result ∷ []) so_far.taken ∙ sym (take_next _ o (Some c.unwrap.result) value)));
      count = c.push_reserved.ensures.len ∙ ap (λ n. n + 1) so_far.count;
      room = c.push_reserved.ensures.capacity ∙ so_far.room;
    }
