use Rattle.std.proofs.Common.{rules, ◌≡◌, ◌≢◌, ◌<◌, ◌+◌, ◌-◌, ◌++◌, suc, set, get_or, take, drop, length, None, sym, refl, subst, ap, ◌∙◌, arith}
use Rattle.atomic_table.specs.Table.{rest}
use Rattle.turn_desk.specs.declared.view.Phase.TheVariants.{Free, Taken}
use Rattle.turn_desk.specs.View.{spot, published, freed}
use Rattle.turn_desk.specs.Grew.{Grew, released_at}
use Rattle.turn_desk.proofs.Callers.{released_grew}
use Rattle.turn_desk.proofs.Gives.{can_give, published_spot}
use Rattle.turn_desk.proofs.Keeping.{desk_kept, keeps_released, keeps_same, keeps_member}
use Rattle.turn_desk.proofs.Rows.{turned_to, turned_back, left_over, first_of}
use Rattle.love_base.specs.Prefix.{IsPrefix}
use Rattle.turn_desk.proofs.Views.{at_spot, published_is_busy}
use Rattle.turn_desk.proofs.desk.Desk.release.Goals as goal

pub exchange-requires : goal.exchange-requires
exchange-requires g c = let k = c.pass.invariant in let o = c.args.held.object in let out = c.publish.ensures.published in let row = ap (λ m. m.1) out ∙ k.slots in
    (search rules, (None, first_of _ _ _ (c.turn_by.ensures.turned ∙ turned_to c.pass.inside.kept.items c.publish.new.seat.me.1 c.place_of-place.result o row (search rules) (search rules))))

pub swap-requires : goal.swap-requires
swap-requires g c = let l = g.O.Logged in let k = c.pass.invariant in let o = c.args.held.object in let value = c.args.held.value in let old = c.pass.inside.seat.me.0 in let me = c.exchange.new.seat.me in
    let put_in = c.exchange.ensures.3 in let log = l.history value in
    let now : me.0 ≡ published o log old = ap (λ m. m.0) put_in ∙ (c.turn_by.ensures.same.2 ∙ ap (λ m. m.0) c.publish.ensures.published) in
    let inside : o < length old.spots = search rules in
    let here = ap (λ v. spot v o) now ∙ at_spot old o (published_spot o log old) inside in
    let ready : me.0.awaited ≡ 0 = ap (λ v. v.awaited) now ∙ k.ready in
    let kind : l.fixed_number value ≡ get_or old.fixed o 0 = search rules in (
      search rules,
      (let e = c.turn_word-word.ensures in let words = c.self.invariant.0 in let within = c.requires.object in let slots = ap (λ d. d.table.slots) c.self.view_is in omega arith),
      rw c.turn_word-word.ensures (can_give l.history l.fixed_number l.summed l.between _ o c.exchange.new.seat.id value _ me (search rules)
          (subst (λ x. x.phase ≢ Free) (sym here) published_is_busy) (omega arith) (ap (λ m. m.1) put_in) (sym (ap (λ x. x.known) here)) (kind ∙ ap (λ v. get_or v.fixed o 0) (sym now))),
    )

pub turn_by-requires-2 : goal.turn_by-requires-2
turn_by-requires-2 g c = let k = c.pass.invariant in let o = c.args.held.object in let out = c.publish.ensures.published in let row = ap (λ m. m.1) out ∙ k.slots in let kept = c.pass.inside.kept.items in let before = c.publish.new.seat.me.1 in let place = c.place_of-place.result in
    let within : place < length kept = search rules in let there : get_or kept place 0 ≡ o = search rules in
    let after = ap (λ m. m.1) (c.swap.ensures.2 o c.turn_word-word.ensures) ∙ (ap (λ m. rest m.1) c.exchange.ensures.3 ∙ ap rest (c.turn_by.ensures.turned ∙ turned_to kept before place o row within there)) in
    let long = ap length after in let left = left_over kept before place o row within there in let removed = c.forget.ensures.len in let len = c.len.ensures in omega arith

pub invariant_of-pass : goal.invariant_of-pass
invariant_of-pass g c = let l = g.O.Logged in let k = c.pass.invariant in let o = c.args.held.object in let log = l.history c.args.held.value in let old = c.pass.inside.seat.me in let out = c.publish.ensures.published in let row = ap (λ m. m.1) out ∙ k.slots in let kept = c.pass.inside.kept.items in let before = c.publish.new.seat.me.1 in let place = c.place_of-place.result in
    let within : place < length kept = search rules in let there : get_or kept place 0 ≡ o = search rules in let inside : o < c.pass.inside.seat.table_id.slots = search rules in
    let put_in = c.exchange.ensures.3 in let gave = (c.swap.ensures.2 o c.turn_word-word.ensures) in
    let now = ap (λ m. m.0) put_in ∙ (c.turn_by.ensures.same.2 ∙ ap (λ m. m.0) out) in
    let view = c.turn_by-2.ensures.same.2 ∙ (ap (λ m. m.0) gave ∙ ap (freed o) now) in
    let after = ap (λ m. m.1) gave ∙ (ap (λ m. rest m.1) put_in ∙ ap rest (c.turn_by.ensures.turned ∙ turned_to kept before place o row within there)) in
    let n = c.len.result - place in let removed = c.forget.ensures.len in let len = c.len.ensures in let enough : n + suc place ≡ length kept = omega arith in
    let slots = c.turn_by-2.ensures.turned ∙ (ap (λ r. drop n r ++ take n r) after ∙ (turned_back kept before place o row within there n enough ∙ ap (λ r. take place r ++ drop (suc place) r) (ap (λ m. m.1) out))) in
    let phase : (spot old.0 o).phase ≡ Taken = search rules in
    keeps_same c.pass.inside.number _ _ _ _ _ _ _ _ _ _ (ap (λ n. set c.pass.inside.fronts.items o n) (sym c.length.ensures.length)) (sym c.forget.ensures.items) (sym c.forget.ensures.capacity)
    (sym (c.turn_by-2.ensures.same.0 ∙ (c.swap.ensures.0 ∙ (c.exchange.ensures.0 ∙ (c.turn_by.ensures.same.0 ∙ c.publish.ensures.own.0))))) (λ i. (sym view i, sym slots i))
    (keeps_released c.pass.inside.number c.pass.inside.fronts.items kept _ c.pass.inside.seat.table_id old o place log inside phase c.publish.ensures.front within there k)

pub returns-clause-own : goal.returns-clause-own
returns-clause-own g c = let o = c.args.held.object in let now = ap (λ m. m.0) c.exchange.ensures.3 ∙ (c.turn_by.ensures.same.2 ∙ ap (λ m. m.0) c.publish.ensures.published) in
    let view = c.turn_by-2.ensures.same.2 ∙ (ap (λ m. m.0) (c.swap.ensures.2 o c.turn_word-word.ensures) ∙ ap (freed o) now) in
    desk_kept _ _ _ _ _ (c.turn_by-2.ensures.same.0 ∙ (c.swap.ensures.0 ∙ (c.exchange.ensures.0 ∙ (c.turn_by.ensures.same.0 ∙ c.publish.ensures.own.0)))) (ap (λ v. v.seats) view) (ap (λ p. p.desk) c.pass.view_is)

pub returns-clause-member : goal.returns-clause-member
returns-clause-member g c = keeps_member _ _ _ _ _ _ _ _ (invariant_of-pass g c) refl (returns-clause-own g c ∙ c.requires.own)

pub returns-clause-was_member : goal.returns-clause-was_member
returns-clause-was_member g c = keeps_member _ _ _ _ _ _ _ _ c.pass.invariant c.pass.view_is c.requires.own

pub returns-clause-grew : goal.returns-clause-grew
returns-clause-grew g c = let l = g.O.Logged in let o = c.args.held.object in let log = l.history c.args.held.value in let old = c.pass.inside.seat.me.0 in let is = ap (λ p. p.view) c.pass.view_is in
    let now = ap (λ m. m.0) c.exchange.ensures.3 ∙ (c.turn_by.ensures.same.2 ∙ ap (λ m. m.0) c.publish.ensures.published) in
    let view = c.turn_by-2.ensures.same.2 ∙ (ap (λ m. m.0) (c.swap.ensures.2 o c.turn_word-word.ensures) ∙ ap (freed o) now) in
    let busy : (spot old o).phase ≡ Taken = search rules in let grown = subst (λ v. IsPrefix (spot v o).known log) (sym is) c.requires.grown in
    subst (λ v. Grew (released_at o log v) v c.turn_by-2.new.seat.me.0) is (released_grew old c.turn_by-2.new.seat.me.0 o log busy grown c.publish.ensures.front view)
