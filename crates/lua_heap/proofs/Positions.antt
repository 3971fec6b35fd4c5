-- Items of a list by their places.
use Rattle.std.proofs.Common.{◌≡◌, ℕ, zero, suc, List, [], ◌∷◌, ◌++◌, length, Some, refl, ap, slice_get, ◌⊎◌, inl, inr}
use Rattle.std.proofs.lemmas.Option.{none-some, same_Some}

module _ {X : Type 0} where
  -- an item stays where it is when the list gets longer
  pub slice_get-append_left : (xs ys : List X) (n : ℕ) (x : X) → slice_get xs n ≡ Some x → slice_get (xs ++ ys) n ≡ Some x
  slice_get-append_left [] ys n x e = absurd (none-some x e)
  slice_get-append_left (y ∷ xs) ys zero x e = e
  slice_get-append_left (y ∷ xs) ys (suc n) x e = slice_get-append_left xs ys n x e

  pub slice_get-append_last : (xs : List X) (y : X) → slice_get (xs ++ y ∷ []) (length xs) ≡ Some y
  slice_get-append_last [] y = refl
  slice_get-append_last (x ∷ xs) y = slice_get-append_last xs y

  -- an item of a longer list is an earlier one or the last one
  pub slice_get-append_by : (xs : List X) (y : X) (n : ℕ) (x : X) → slice_get (xs ++ y ∷ []) n ≡ Some x
      → (slice_get xs n ≡ Some x) ⊎ ((n ≡ length xs) × (y ≡ x))
  slice_get-append_by [] y zero x e = inr (refl, same_Some y x e)
  slice_get-append_by [] y (suc n) x e = absurd (none-some x e)
  slice_get-append_by (z ∷ xs) y zero x e = inl e
  slice_get-append_by (z ∷ xs) y (suc n) x e = later (slice_get-append_by xs y n x e)
    where
      later : (slice_get xs n ≡ Some x) ⊎ ((n ≡ length xs) × (y ≡ x)) → (slice_get xs n ≡ Some x) ⊎ ((suc n ≡ suc (length xs)) × (y ≡ x))
      later (inl there) = inl there
      later (inr last) = inr (ap suc last.0, last.1)
