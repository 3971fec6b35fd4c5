use Rattle.std.proofs.Common.{get_or, ◌-◌, ap, ◌∙◌, sym, arith}
use Rattle.std.proofs.lemmas.List.{get_or_default}
use mathlib.Core.Logic.{dite}
use native.Mathlib.Decide.{ℕ_discrete}
use Rattle.turn_desk.proofs.kept.place_of.Goals as goal

pub unreachable-requires : goal.unreachable-requires
unreachable-requires c = let q = c.requires in let over = c.loop-place-test.false in
    c.loop-place.invariant.1 q.0 (omega arith) q.1 (get_or_default c.args.kept.now q.0 0 c.args.object q.1 ∙ q.2)

pub loop-place-preserved : goal.loop-place-preserved
loop-place-preserved c = let so_far = c.loop-place.invariant in let low = so_far.0 in let test = c.loop-place-test.true in (
  omega arith,
  λ k above inside is. dite (ℕ_discrete k (c.loop-place.place - 1)) (λ e. c.if-kept-place.false (ap (λ n. get_or c.args.kept.now n 0) (sym e) ∙ is)) (λ ne. so_far.1 k (omega arith) inside is),
)
