-- For callers, who cite no other module of proofs of this crate: of the passes of a queue that was just made, and of those that are given back.
use Rattle.std.proofs.Common.{◌≡◌, ℕ, ◌+◌, ◌-◌, ◌<◌, zero, suc, All, List, [], ◌∷◌, ◌++◌, length, map, get_or, sym, refl, ap, ◌∙◌, subst, arith, length-append}
use Rattle.std.specs.Prelude.{remove}
use Rattle.std.specs.List.{range_with_len}
use Rattle.std.proofs.lemmas.List.Elements.{All-cons}
use Rattle.std.proofs.Math.Seq.{get_or-append_seam}
use Rattle.std.proofs.lemmas.List.{length-map, get_or_append_left}
use Rattle.std.proofs.lemmas.List.FromFn.{length-range_with_len}
use Rattle.event_queue.specs.Closing.{numbers_of, AreAllBack}
use Rattle.event_queue.specs.Passes.{QueueId, PassView, new_pass, new_passes, AreNumbered}

own_at : (queue : QueueId) (a n : ℕ) → All (λ (p : PassView). p.queue ≡ queue) (map (new_pass queue) (range_with_len a n))
own_at queue a zero k d lt = absurd (omega arith)
own_at queue a (suc n) zero d lt = refl
own_at queue a (suc n) (suc k) d lt = own_at queue (a + 1) n k d (omega arith)

numbered_at : (queue : QueueId) (a n : ℕ) → AreNumbered a (map (new_pass queue) (range_with_len a n))
numbered_at queue a zero k d lt = absurd (omega arith)
numbered_at queue a (suc n) zero d lt = let e : a ≡ 0 + a = omega arith in e
numbered_at queue a (suc n) (suc k) d lt = let e : k + (a + 1) ≡ suc k + a = omega arith in numbered_at queue (a + 1) n k d (omega arith) ∙ e

-- the passes of a new queue are its own, numbered from 1, and as many as it has
pub new_own : (queue : QueueId) (passes : List PassView) → passes ≡ new_passes queue → All (λ p. p.queue ≡ queue) passes
new_own queue passes e = subst (All (λ p. p.queue ≡ queue)) (sym e) (own_at queue 1 queue.passes)

pub new_numbered : (queue : QueueId) (passes : List PassView) → passes ≡ new_passes queue → AreNumbered 1 passes
new_numbered queue passes e = subst (AreNumbered 1) (sym e) (numbered_at queue 1 queue.passes)

pub new_count : (queue : QueueId) (passes : List PassView) → passes ≡ new_passes queue → length passes ≡ queue.passes
new_count queue passes e = ap length e ∙ (length-map (range_with_len 1 queue.passes) (new_pass queue) ∙ length-range_with_len 1 queue.passes)

number_or : (passes : List PassView) (k n : ℕ) (d : PassView) → k < length passes → (get_or passes k d).number ≡ n → get_or (numbers_of passes) k n ≡ n
number_or [] k n d lt e = absurd (omega arith)
number_or (p ∷ ps) zero n d lt e = e
number_or (p ∷ ps) (suc k) n d lt e = number_or ps k n d (omega arith) e

some_pass : (passes : List PassView) → 0 < length passes → PassView
some_pass [] lt = absurd (omega arith)
some_pass (p ∷ ps) lt = p

-- passes that are numbered from 1, and as many as there are, are all
pub all_back : (queue : QueueId) (passes : List PassView) → AreNumbered 1 passes → length passes ≡ queue.passes → AreAllBack queue passes
all_back queue passes numbered long n low high =
    let d = some_pass passes (omega arith) in let e : n - 1 + 1 ≡ n = omega arith in
    (n - 1, omega (arith, length-map passes (λ (p : PassView). p.number)), number_or passes (n - 1) n d (omega arith) (numbered (n - 1) d (omega arith) ∙ e))

module _ {A : Type 0} where
  -- what holds of all of a list holds of its last and of all before it
  pub all_front : (P : A → Type 0) (xs : List A) (x : A) → All P (xs ++ x ∷ []) → All P xs
  all_front P xs x h k d lt = subst P (get_or_append_left xs (x ∷ []) d k lt) (h k d (omega (arith, length-append xs (x ∷ []))))

  pub all_last : (P : A → Type 0) (xs : List A) (x : A) → All P (xs ++ x ∷ []) → P x
  all_last P xs x h = subst P (get_or-append_seam xs x [] x) (h (length xs) x (omega (arith, length-append xs (x ∷ []))))

-- pass 1 and the others, out of one list and into one
pub own_first : (queue : QueueId) (passes : List PassView) (p : PassView) → 0 < length passes → p ≡ get_or passes 0 p → All (λ q. q.queue ≡ queue) passes → p.queue ≡ queue
own_first queue passes p lt e own = subst (λ (q : PassView). q.queue ≡ queue) (sym e) (own 0 p lt)

pub own_rest : (queue : QueueId) (passes rest : List PassView) → rest ≡ remove passes 0 → All (λ q. q.queue ≡ queue) passes → All (λ q. q.queue ≡ queue) rest
own_rest queue [] rest e own = subst (All (λ q. q.queue ≡ queue)) (sym e) own
own_rest queue (p ∷ ps) rest e own = subst (All (λ q. q.queue ≡ queue)) (sym e) (λ k d lt. own (suc k) d (omega arith))

pub own_both : (queue : QueueId) (p : PassView) (rest passes : List PassView) → passes ≡ p ∷ rest → p.queue ≡ queue → All (λ q. q.queue ≡ queue) rest → All (λ q. q.queue ≡ queue) passes
own_both queue p rest passes e first own = subst (All (λ q. q.queue ≡ queue)) (sym e) (All-cons (λ q. q.queue ≡ queue) p rest first own)

pub numbered_first : (a : ℕ) (passes : List PassView) (p : PassView) → 0 < length passes → p ≡ get_or passes 0 p → AreNumbered a passes → p.number ≡ a
numbered_first a passes p lt e numbered = let z : 0 + a ≡ a = omega arith in subst (λ (q : PassView). q.number ≡ a) (sym e) (numbered 0 p lt ∙ z)

pub numbered_rest : (a : ℕ) (passes rest : List PassView) → rest ≡ remove passes 0 → AreNumbered a passes → AreNumbered (a + 1) rest
numbered_rest a [] rest e numbered = subst (AreNumbered (a + 1)) (sym e) (λ k d lt. absurd (omega arith))
numbered_rest a (p ∷ ps) rest e numbered = subst (AreNumbered (a + 1)) (sym e) (λ k d lt. let s : suc k + a ≡ k + (a + 1) = omega arith in numbered (suc k) d (omega arith) ∙ s)

cons_numbered : (a : ℕ) (p : PassView) (rest : List PassView) → p.number ≡ a → AreNumbered (a + 1) rest → AreNumbered a (p ∷ rest)
cons_numbered a p rest first numbered zero d lt = let z : a ≡ 0 + a = omega arith in first ∙ z
cons_numbered a p rest first numbered (suc k) d lt = let s : k + (a + 1) ≡ suc k + a = omega arith in numbered k d (omega arith) ∙ s

pub numbered_both : (a : ℕ) (p : PassView) (rest passes : List PassView) → passes ≡ p ∷ rest → p.number ≡ a → AreNumbered (a + 1) rest → AreNumbered a passes
numbered_both a p rest passes e first numbered = subst (AreNumbered a) (sym e) (cons_numbered a p rest first numbered)

-- one pass by itself, and the last of some
pub own_one : (queue : QueueId) (p : PassView) (passes : List PassView) → passes ≡ p ∷ [] → p.queue ≡ queue → All (λ q. q.queue ≡ queue) passes
own_one queue p passes e own = own_both queue p [] passes e own (λ k d lt. absurd (omega arith))

pub numbered_one : (a : ℕ) (p : PassView) (passes : List PassView) → passes ≡ p ∷ [] → p.number ≡ a → AreNumbered a passes
numbered_one a p passes e number = numbered_both a p [] passes e number (λ k d lt. absurd (omega arith))

pub number_last : (a : ℕ) (passes others : List PassView) (p : PassView) → passes ≡ others ++ p ∷ [] → AreNumbered a passes → p.number ≡ length others + a
number_last a passes others p e numbered = let h : AreNumbered a (others ++ p ∷ []) = subst (AreNumbered a) e numbered in
    sym (ap (λ (q : PassView). q.number) (get_or-append_seam others p [] p)) ∙ h (length others) p (omega (arith, length-append others (p ∷ [])))
