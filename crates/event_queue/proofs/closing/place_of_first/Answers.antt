use Rattle.std.proofs.Common.{rules, ◌≡◌, get_or, sym, ap, ◌∙◌, arith}
use mathlib.Core.Logic.{dite}
use native.Mathlib.Decide.{ℕ_discrete}
use Rattle.crossbeam_queue.proofs.Lists.{at_index}
use Rattle.event_queue.proofs.Lists.{at_below, or_at}
use Rattle.event_queue.proofs.closing.place_of_first.Goals as goal

pub returns-then-number-eq1 : goal.returns-then-number-eq1
returns-then-number-eq1 c = let pass = c.index-passes-place.result in let here : pass ≡ get_or c.args.passes.now c.loop-place.place pass = search rules in
    (pass, at_index c.args.passes.now c.loop-place.place pass c.loop-place-test.true here, sym c.number.ensures.number ∙ c.if-number-eq1.true)

pub loop-place-preserved : goal.loop-place-preserved
loop-place-preserved c = let passes = c.args.passes.now in let place = c.loop-place.place in let pass = c.index-passes-place.result in let here : pass ≡ get_or passes place pass = search rules in λ k p at lt one. dite (ℕ_discrete k place)
    (λ is. let same : pass ≡ p = here ∙ (ap (λ i. get_or passes i pass) (sym is) ∙ or_at passes k pass p at) in c.if-number-eq1.false (c.number.ensures.number ∙ (ap (λ q. q.number) same ∙ one)))
    (λ ne. c.loop-place.invariant k p at (omega arith) one)

pub unreachable-requires : goal.unreachable-requires
unreachable-requires c = let q = c.requires in let inside = at_below c.args.passes.now q.0 q.1 q.2 in let past = c.loop-place-test.false in c.loop-place.invariant q.0 q.1 q.2 (omega arith) q.3
