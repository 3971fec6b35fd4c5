use Rattle.std.proofs.Common.{◌≡◌, ◌++◌, length, sym, refl, subst, ap, ◌∙◌, arith, append-nil}
use lib.ListN.{get_elem?}
use mathlib.Core.Option.{some}
use Rattle.crossbeam_queue.proofs.Lists.{at_last}
use Rattle.crossbeam_queue.specs.SegTies.{IsSegPassOf}
use Rattle.event_queue.proofs.Delivery.{number_there}
use Rattle.event_queue.proofs.Joining.{Gathers, gathers_first, gathers_more, passes_of, ruled_of}
use Rattle.event_queue.proofs.Lists.{all_at, at_below, or_at}
use Rattle.event_queue.proofs.Rule.{can_join}
use Rattle.event_queue.proofs.event_queue.EventQueue.join_all.Goals as goal

pub place_of_first-place-requires : goal.place_of_first-place-requires
place_of_first-place-requires c = let some_pass = c.self.invariant in let count = ap (λ q. q.passes) c.self.view_is in let h = number_there c.args.passes.items 1 (c.requires.all 1 (omega arith) (omega arith)) in
    (h.0, h.1, ap (λ l. get_elem? l h.0) c.as_slice.ensures.value ∙ h.2, h.3)

pub remove-first-requires : goal.remove-first-requires
remove-first-requires c = let h = c.place_of_first-place.ensures in let inside = at_below c.as_slice.result.now c.place_of_first-place.result h.0 h.1 in let len = c.as_slice.ensures.len in omega arith

pub loop-pass-init : goal.loop-pass-init
loop-pass-init c =
    let all = c.args.passes.items in let queue = c.args.self.now in let place = c.place_of_first-place.result in let first = c.remove-first.result in let inside = c.first.inside in let v = inside.seat.me.view.client in let is = c.first.view_is in let k = c.first.invariant in
    let h = c.place_of_first-place.ensures in
    let there : get_elem? all place ≡ some h.0 = ap (λ l. get_elem? l place) (sym c.as_slice.ensures.value) ∙ h.1 in
    let same : first ≡ h.0 = c.remove-first.ensures.value ∙ or_at all place first h.0 there in
    let at : get_elem? all place ≡ some first = there ∙ ap some (sym same) in
    let number : first.number ≡ 1 = ap (λ p. p.number) same ∙ h.2 in
    let own = all_at (λ p. p.queue ≡ queue) all c.requires.own in
    let mine = own place first at in
    let ruled = ruled_of _ first queue is mine in let count = passes_of _ first queue is mine in (
      ((ap (λ r. r.web) ruled, ap (λ r. r.heap) ruled), k.1, k.2),
      subst (λ l. Gathers all l queue inside.kept.items v) (sym c.remove-first.ensures.items)
          (gathers_first all queue place inside.kept.items v first at own (k.0.named ∙ (ap (λ p. p.number) is ∙ number)) (let m = k.0.made in omega arith) number (sym (ap (λ p. p.kept) is)) (sym (ap (λ p. p.sent) is)) (sym (ap (λ p. p.polled) is))),
    )

pub absorb-requires-clause-queue : goal.absorb-requires-clause-queue
absorb-requires-clause-queue c =
    let queue = c.args.self.now in let pass = c.in-Some.pass in let rest = c.pop.new.self.items in let k = c.pass.invariant in
    let mine = c.loop-pass.invariant.1.own (length rest) pass (ap (λ l. get_elem? l (length rest)) c.in-Some.ensures.items ∙ at_last rest pass (length rest) refl) in
    let ruled = ruled_of _ pass queue c.pass.view_is mine ∙ sym (ap (λ q. q.ruled) c.self.view_is) in (
      subst (λ q. IsSegPassOf q c.loop-pass.seat) (sym (ap (λ q. q.ruled) c.self.view_is)) c.loop-pass.invariant.0,
      ((ap (λ r. r.web) ruled, ap (λ r. r.heap) ruled), k.1, k.2),
    )

pub absorb-requires-clause-rule : goal.absorb-requires-clause-rule
absorb-requires-clause-rule c = let k = c.pass.invariant.0 in can_join _ _ _ _ c.loop-pass.invariant.1.first (let a = k.named in let b = k.real in omega arith)

pub loop-pass-preserved : goal.loop-pass-preserved
loop-pass-preserved c =
    let all = c.args.passes.items in let queue = c.args.self.now in let pass = c.in-Some.pass in let rest = c.pop.new.self.items in let w = c.pass.inside.seat.me.view.client in let is = c.pass.view_is in let k = c.pass.invariant.0 in let number = ap (λ p. p.number) is in let joined = c.absorb.ensures in (
      subst (λ q. IsSegPassOf q c.absorb.new.pass) (ap (λ q. q.ruled) c.self.view_is) joined.queue.0,
      subst (Gathers all rest queue c.first.inside.kept.items) (sym joined.rule)
          (gathers_more all c.loop-pass.passes.items rest queue c.first.inside.kept.items c.loop-pass.seat.me.view.client w pass c.in-Some.ensures.items (k.named ∙ number)
          (λ ne. sym (ap (λ p. p.sent) is) ∙ (ap (λ l. w.sent ++ l) (k.keeps (λ e. ne (sym number ∙ e))) ∙ append-nil w.sent)) c.loop-pass.invariant.1),
    )
