-- What stands in a list of passes at its places.
use Rattle.std.proofs.Common.{◌≡◌, ◌≢◌, ℕ, ◌<◌, zero, suc, List, [], ◌∷◌, length, get_or, sym, refl, ap, subst, arith, All}
use Rattle.std.specs.Prelude.{remove}
use mathlib.Core.Option.{some, some-injective, some-ne-none}
use lib.ListN.{get_elem?}

module _ {A : Type 0} where
  pub at_below : (l : List A) (k : ℕ) (a : A) → get_elem? l k ≡ some a → k < length l
  at_below [] k a e = absurd (some-ne-none a (sym e))
  at_below (x ∷ xs) zero a e = omega arith
  at_below (x ∷ xs) (suc k) a e = let h = at_below xs k a e in omega arith

  pub or_at : (l : List A) (k : ℕ) (d a : A) → get_elem? l k ≡ some a → get_or l k d ≡ a
  or_at [] k d a e = absurd (some-ne-none a (sym e))
  or_at (x ∷ xs) zero d a e = some-injective x a e
  or_at (x ∷ xs) (suc k) d a e = or_at xs k d a e

  -- what holds of all of a list holds at each of its places
  pub all_at : (P : A → Type 0) (l : List A) → All P l → (k : ℕ) (a : A) → get_elem? l k ≡ some a → P a
  all_at P l h k a e = subst P (or_at l k a a e) (h k a (at_below l k a e))

  -- one element is taken out of a list
  pub still_there : (l : List A) (i k : ℕ) (a : A) → get_elem? l k ≡ some a → k ≢ i → (m : ℕ) × (get_elem? (remove l i) m ≡ some a)
  still_there [] i k a e ne = absurd (some-ne-none a (sym e))
  still_there (x ∷ xs) zero zero a e ne = absurd (ne refl)
  still_there (x ∷ xs) zero (suc k) a e ne = (k, e)
  still_there (x ∷ xs) (suc i) zero a e ne = (zero, e)
  still_there (x ∷ xs) (suc i) (suc k) a e ne = let h = still_there xs i k a e (λ q. ne (ap suc q)) in (suc h.0, h.1)

  pub was_there : (l : List A) (i m : ℕ) (a : A) → get_elem? (remove l i) m ≡ some a → (k : ℕ) × (get_elem? l k ≡ some a)
  was_there [] zero m a e = absurd (some-ne-none a (sym e))
  was_there [] (suc i) m a e = absurd (some-ne-none a (sym e))
  was_there (x ∷ xs) zero m a e = (suc m, e)
  was_there (x ∷ xs) (suc i) zero a e = (zero, e)
  was_there (x ∷ xs) (suc i) (suc m) a e = let h = was_there xs i m a e in (suc h.0, h.1)
