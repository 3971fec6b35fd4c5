-- Elements of lists found by place, and sums over the views of a table.
use Rattle.std.proofs.Common.{◌≡◌, ◌≢◌, ◌⊎◌, ℕ, ◌+◌, ◌<◌, ◌≤◌, zero, suc, List, [], ◌∷◌, ◌++◌, length, set, sym, refl, ap, ◌∙◌, inl, inr, ⊎_elim, arith, length-append, sum_by, All, subst, map, get_or}
use Rattle.std.proofs.Math.Seq.{get_or-append_seam}
use Rattle.std.proofs.lemmas.List.{get_or_append_left}
use Rattle.std.proofs.lemmas.List.Sums.{sum_by-cons}
use mathlib.Core.Option.{some, some-injective, some-ne-none}
use lib.ListN.{get_elem?}

module _ {A : Type 0} where
  -- what holds of all of a list holds of its last and of all before it
  pub all_front : (P : A → Type 0) (xs : List A) (x : A) → All P (xs ++ x ∷ []) → All P xs
  all_front P xs x h k d lt = subst P (get_or_append_left xs (x ∷ []) d k lt) (h k d (omega (arith, length-append xs (x ∷ []))))

  pub all_last : (P : A → Type 0) (xs : List A) (x : A) → All P (xs ++ x ∷ []) → P x
  all_last P xs x h = subst P (get_or-append_seam xs x [] x) (h (length xs) x (omega (arith, length-append xs (x ∷ []))))

  pub set_there : (l : List A) (i : ℕ) (a b : A) → get_elem? l i ≡ some a → get_elem? (set l i b) i ≡ some b
  set_there [] i a b e = absurd (some-ne-none a (sym e))
  set_there (x ∷ xs) zero a b e = refl
  set_there (x ∷ xs) (suc i) a b e = set_there xs i a b e

  pub at_below : (l : List A) (j : ℕ) (a : A) → get_elem? l j ≡ some a → j < length l
  at_below [] j a e = absurd (some-ne-none a (sym e))
  at_below (x ∷ xs) zero a e = omega arith
  at_below (x ∷ xs) (suc j) a e = let h = at_below xs j a e in omega arith

  -- what stands in two lists put together stands in one of them
  pub at_either : (l m : List A) (k : ℕ) (a : A) → get_elem? (l ++ m) k ≡ some a → (get_elem? l k ≡ some a) ⊎ ((i : ℕ) × (get_elem? m i ≡ some a))
  at_either [] m k a e = inr (k, e)
  at_either (x ∷ xs) m zero a e = inl e
  at_either (x ∷ xs) m (suc k) a e = at_either xs m k a e

  -- the last of a list stands at the length of the others
  pub at_end : (l : List A) (a b : A) (j : ℕ) → get_elem? (l ++ a ∷ []) j ≡ some b → (get_elem? l j ≡ some b) ⊎ ((j ≡ length l) × (a ≡ b))
  at_end [] a b zero e = inr (refl, some-injective a b e)
  at_end [] a b (suc j) e = absurd (some-ne-none b (sym e))
  at_end (x ∷ xs) a b zero e = inl e
  at_end (x ∷ xs) a b (suc j) e = ⊎_elim inl (λ t. inr (ap suc t.0, t.1)) (at_end xs a b j e)

  -- the sum after one element was put in place of another
  pub sum_set : (f : A → ℕ) (l : List A) (i : ℕ) (a b : A) → get_elem? l i ≡ some a → sum_by f (set l i b) + f a ≡ sum_by f l + f b
  sum_set f [] i a b e = absurd (some-ne-none a (sym e))
  sum_set f (x ∷ xs) zero a b e = let same : f x ≡ f a = ap f (some-injective x a e) in omega (arith, sum_by-cons f b xs, sum_by-cons f x xs)
  sum_set f (x ∷ xs) (suc i) a b e = let h = sum_set f xs i a b e in omega (arith, sum_by-cons f x (set xs i b), sum_by-cons f x xs)

  pub sum_at : (f : A → ℕ) (l : List A) (i : ℕ) (a : A) → get_elem? l i ≡ some a → f a ≤ sum_by f l
  sum_at f [] i a e = absurd (some-ne-none a (sym e))
  sum_at f (x ∷ xs) zero a e = let same : f x ≡ f a = ap f (some-injective x a e) in omega (arith, sum_by-cons f x xs)
  sum_at f (x ∷ xs) (suc i) a e = let h = sum_at f xs i a e in omega (arith, sum_by-cons f x xs)

  -- two elements at different places are both in the sum
  pub sum_two : (f : A → ℕ) (l : List A) (i j : ℕ) (a b : A) → i ≢ j → get_elem? l i ≡ some a → get_elem? l j ≡ some b → f a + f b ≤ sum_by f l
  sum_two f [] i j a b ne e g = absurd (some-ne-none a (sym e))
  sum_two f (x ∷ xs) zero zero a b ne e g = absurd (ne refl)
  sum_two f (x ∷ xs) zero (suc j) a b ne e g = let same : f x ≡ f a = ap f (some-injective x a e) in let h = sum_at f xs j b g in omega (arith, sum_by-cons f x xs)
  sum_two f (x ∷ xs) (suc i) zero a b ne e g = let same : f x ≡ f b = ap f (some-injective x b g) in let h = sum_at f xs i a e in omega (arith, sum_by-cons f x xs)
  sum_two f (x ∷ xs) (suc i) (suc j) a b ne e g = let h = sum_two f xs i j a b (λ q. ne (ap suc q)) e g in omega (arith, sum_by-cons f x xs)

  sum_none : (f : A → ℕ) (l : List A) → ((j : ℕ) (b : A) → get_elem? l j ≡ some b → f b ≡ 0) → sum_by f l ≡ 0
  sum_none f [] nil = refl
  sum_none f (x ∷ xs) nil = let h = sum_none f xs (λ j b g. nil (suc j) b g) in let z : f x ≡ 0 = nil zero x refl in omega (arith, sum_by-cons f x xs)

  -- the sum is one element's, where all others have nothing
  pub sum_alone : (f : A → ℕ) (l : List A) (i : ℕ) (a : A) → get_elem? l i ≡ some a → ((j : ℕ) (b : A) → j ≢ i → get_elem? l j ≡ some b → f b ≡ 0) → sum_by f l ≡ f a
  sum_alone f [] i a e nil = absurd (some-ne-none a (sym e))
  sum_alone f (x ∷ xs) zero a e nil = let same : f x ≡ f a = ap f (some-injective x a e) in let h = sum_none f xs (λ j b g. nil (suc j) b (λ q. omega arith) g) in omega (arith, sum_by-cons f x xs)
  sum_alone f (x ∷ xs) (suc i) a e nil = let h = sum_alone f xs i a e (λ j b ne g. nil (suc j) b (λ q. ne (omega arith)) g) in let z : f x ≡ 0 = nil zero x (λ q. omega arith) refl in omega (arith, sum_by-cons f x xs)

  -- the default of a list of values of a function is the function's value at the default
  pub map_default : {B : Type 0} (f : A → B) (xs : List A) (k : ℕ) (d : A) → get_or (map f xs) k (f d) ≡ f (get_or xs k d)
  map_default f [] k d = refl
  map_default f (x ∷ xs) zero d = refl
  map_default f (x ∷ xs) (suc k) d = map_default f xs k d

  -- the one element of a list
  pub at_only : (a b : A) (j : ℕ) → get_elem? (a ∷ []) j ≡ some b → a ≡ b
  at_only a b zero e = some-injective a b e
  at_only a b (suc j) e = absurd (some-ne-none b (sym e))

  -- what stands behind a list stands in both together
  pub at_behind : (l m : List A) (k : ℕ) (a : A) → get_elem? m k ≡ some a → get_elem? (l ++ m) (length l + k) ≡ some a
  at_behind [] m k a e = let z : 0 + k ≡ k = omega arith in ap (get_elem? m) z ∙ e
  at_behind (x ∷ xs) m k a e = let z : suc (length xs) + k ≡ suc (length xs + k) = omega arith in ap (get_elem? (x ∷ (xs ++ m))) z ∙ at_behind xs m k a e
