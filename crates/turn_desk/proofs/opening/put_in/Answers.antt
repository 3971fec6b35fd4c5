use Rattle.std.proofs.Common.{rules, ℕ, ◌≢◌, ◌<◌, [], get_or, get_or-set_same, length, sym, subst, ap, ◌∙◌, arith}
use Rattle.turn_desk.specs.declared.view.Phase.TheVariants.{Free}
use Rattle.turn_desk.specs.View.{spot, brought}
use Rattle.turn_desk.proofs.Gives.{can_give}
use Rattle.turn_desk.proofs.SetUp.{can_bring_number}
use Rattle.turn_desk.proofs.Takes.{can_take_vacant, taken_spot}
use Rattle.turn_desk.proofs.Views.{at_spot, taken_is_busy}
use Rattle.turn_desk.proofs.opening.put_in.Goals as goal

pub compare_exchange-requires : goal.compare_exchange-requires
compare_exchange-requires g c = let l = g.O.Logged in let seat = c.args.seat.now in let q = c.requires in
    (q.own, (let e = c.turn_word-word.ensures in omega arith), rw c.turn_word-word.ensures (can_take_vacant l.history l.fixed_number l.summed l.between _ 1 c.args.object seat.id seat.me q.object.0 (sym q.first.0) (omega arith) q.first.1 (omega arith) q.free))

pub load-requires : goal.load-requires
load-requires g c = let l = g.O.Logged in let q = c.requires in let o = c.args.object in let v = c.args.seat.now.me.0 in let seat = c.compare_exchange.new.seat in let took = (c.compare_exchange.ensures.2 o c.turn_word-word.ensures).1 in
    let inside : o < length v.spots = omega arith in
    let here = ap (λ m. spot m.0 o) took ∙ at_spot v o (taken_spot o [] v) inside in (
      search rules,
      omega arith,
      rw (q.said.0, q.said.1) (can_bring_number l.history l.fixed_number l.summed l.between _ o (l.fixed_number c.args.value) seat.id seat.me q.object.0
          (subst (λ x. x.phase ≢ Free) (sym here) taken_is_busy) (ap (λ m. m.0.next) took ∙ q.first.1) (ap (λ m. m.0.awaited) took ∙ q.first.2) (ap (λ m. m.0.handed) took ∙ q.first.3)),
    )

pub swap-requires : goal.swap-requires
swap-requires g c = let l = g.O.Logged in let q = c.requires in let o = c.args.object in let value = c.args.value in let v = c.args.seat.now.me.0 in let seat = c.exchange.new.seat in
    let took = (c.compare_exchange.ensures.2 o c.turn_word-word.ensures).1 in let bring = c.load.ensures.2 in let put = c.exchange.ensures.3 in
    let now = ap (λ m. m.0) put ∙ (ap (λ m. m.0) bring ∙ (ap (λ (p : ℕ × ℕ). brought p.0 p.1 c.compare_exchange.new.seat.me.0) (λ i. (q.said.0 i, q.said.1 i)) ∙ ap (λ m. brought o (l.fixed_number value) m.0) took)) in
    let inside : o < length v.spots = omega arith in let kinds : o < length v.fixed = omega arith in
    let here = ap (λ w. spot w o) now ∙ at_spot v o (taken_spot o [] v) inside in
    let awaited = ap (λ w. w.awaited) now in (
      search rules,
      (let e = c.turn_word-word.ensures in omega arith),
      rw c.turn_word-word.ensures (can_give l.history l.fixed_number l.summed l.between _ o seat.id value _ seat.me q.object.0
          (subst (λ x. x.phase ≢ Free) (sym here) taken_is_busy) (omega arith) (ap (λ m. m.1) put) (q.fresh ∙ sym (ap (λ x. x.known) here))
          (sym (ap (λ w. get_or w.fixed o 0) now ∙ get_or-set_same v.fixed o (l.fixed_number value) 0 kinds))),
    )
