use Rattle.std.proofs.Common.{rules, ◌≡◌, ◌+◌, ◌*◌, ℕ, replicate, length, get_or, set, ap, ◌∙◌, arith, length-set, get_or-set_other, get_or-set_same}
use Rattle.std.proofs.lemmas.List.{length-replicate, get_or-replicate}
use mathlib.Core.Logic.{dite}
use native.Mathlib.Decide.{ℕ_discrete}
use Rattle.turn_desk.proofs.opening.free_words.Goals as goal

pub loop-object-init : goal.loop-object-init
loop-object-init c = let n = c.args.objects in let is : c.in_ok-words.words.items ≡ replicate (n * 8) 0 = search rules in record {
  wide = let a = ap length is in let b : length (replicate {A = ℕ} (n * 8) 0) ≡ n * 8 = length-replicate (n * 8) 0 in omega arith;
  turns = λ o lt. ap (λ l. get_or l (8 * o) 0) is ∙ get_or-replicate (n * 8) (8 * o) 0 0 (omega arith);
  tallies = λ o lt. absurd (omega arith);
}

pub loop-object-preserved : goal.loop-object-preserved
loop-object-preserved c = let words = c.loop-object.words.items in let so_far = c.loop-object.invariant in let n = c.turn_word.result + 1 in let at = c.turn_word.ensures in let s = c.args.summary in let long : length words ≡ 8 * c.args.objects = so_far.wide in record {
  wide = length-set words n s ∙ so_far.wide;
  turns = λ o lt. get_or-set_other words n (8 * o) s 0 (λ q. omega arith) ∙ so_far.turns o lt;
  tallies = λ o lt. dite (ℕ_discrete o c.loop-object.object)
      (λ e. let here : 8 * o + 1 ≡ n = omega arith in ap (λ k. get_or (set words n s) k 0) here ∙ get_or-set_same words n s 0 (omega arith))
      (λ ne. get_or-set_other words n (8 * o + 1) s 0 (λ q. ne (omega arith)) ∙ so_far.tallies o (omega arith));
}

pub returns : goal.returns
returns c = let so_far = c.loop-object.invariant in record { wide = so_far.wide; turns = so_far.turns; tallies = λ o lt. so_far.tallies o (omega arith) }
