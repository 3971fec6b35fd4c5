-- The passes of a queue as they are made, one after another.
use Rattle.std.proofs.Common.{◌≡◌, ℕ, ◌+◌, ◌≤◌, zero, suc, List, [], ◌∷◌, ◌++◌, map, sym, ap, ◌∙◌, arith}
use Rattle.std.proofs.lemmas.List.{map-append}
use Rattle.std.specs.List.{range_with_len}
use Rattle.event_queue.specs.declared.view.View.{View}
use Rattle.event_queue.specs.Passes.{QueueId, PassView, new_pass, new_passes}
use Rattle.event_queue.specs.Ready.{IsNew}
use Rattle.event_queue.specs.Views.{view, newcomer, makes_one}

-- one number more
range_more : (a n : ℕ) → range_with_len a (n + 1) ≡ range_with_len a n ++ (n + a) ∷ []
range_more a zero = let e : a ≡ 0 + a = omega arith in ap (λ (k : ℕ). k ∷ []) e
range_more a (suc n) = let e : suc n + 1 ≡ suc (n + 1) = omega arith in let f : n + (a + 1) ≡ suc n + a = omega arith in
    ap (range_with_len a) e ∙ ap (λ (l : List ℕ). a ∷ l) (range_more (a + 1) n ∙ ap (λ (k : ℕ). range_with_len (a + 1) n ++ k ∷ []) f)

-- the first pass, once it made so many others
abbrev pub maker : ℕ → View
maker others = view 1 [] [] (others + 1) []

pub makes_more : (others : ℕ) (v : View) → v ≡ maker others → makes_one v ≡ maker (others + 1)
makes_more others v e = ap makes_one e

pub is_new : (queue : QueueId) (others : ℕ) (v w : View) → v ≡ maker others → w ≡ newcomer v → others + 2 ≤ queue.passes → IsNew (others + 2) queue.passes w
is_new queue others v w e f low =
    let is = f ∙ ap newcomer e in let two : others + 1 + 1 ≡ others + 2 = omega arith in record {
      named = ap (λ (y : View). y.number) is ∙ two;
      real = omega arith;
      within = low;
      sent = ap (λ (y : View). y.sent) is;
      polled = ap (λ (y : View). y.polled) is;
      made = let z = ap (λ (y : View). y.made) is in omega arith;
      alone = ap (λ (y : View). y.joined) is;
    }

pub maker_is_new : (queue : QueueId) (others : ℕ) (v : View) → v ≡ maker others → others + 1 ≤ queue.passes → IsNew 1 queue.passes v
maker_is_new queue others v is low = record {
  named = ap (λ (y : View). y.number) is;
  real = omega arith;
  within = omega arith;
  sent = ap (λ (y : View). y.sent) is;
  polled = ap (λ (y : View). y.polled) is;
  made = let z = ap (λ (y : View). y.made) is in omega arith;
  alone = ap (λ (y : View). y.joined) is;
}

-- one pass more
pub deal_one : (queue : QueueId) (others : ℕ) (pass : PassView) (passes passes' : List PassView) → pass ≡ new_pass queue (others + 2) → passes ≡ map (new_pass queue) (range_with_len 2 others) → passes' ≡ passes ++ pass ∷ []
    → passes' ≡ map (new_pass queue) (range_with_len 2 (others + 1))
deal_one queue others pass passes passes' is so_far more =
    more ∙ ((λ i. so_far i ++ is i ∷ []) ∙ sym (ap (map (new_pass queue)) (range_more 2 others) ∙ map-append (new_pass queue) (range_with_len 2 others) ((others + 2) ∷ [])))

-- with the first, they are all
pub deal_all : (queue : QueueId) (others : ℕ) (pass : PassView) (passes passes' : List PassView) → others + 1 ≡ queue.passes → pass ≡ new_pass queue 1 → passes ≡ map (new_pass queue) (range_with_len 2 others) → passes' ≡ pass ∷ passes
    → passes' ≡ new_passes queue
deal_all queue others pass passes passes' all is so_far more =
    let count : suc others ≡ queue.passes = omega arith in more ∙ ((λ i. is i ∷ so_far i) ∙ ap (λ (n : ℕ). map (new_pass queue) (range_with_len 1 n)) count)
