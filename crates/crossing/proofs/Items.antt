-- The items of a list, one after the other.
use Rattle.std.proofs.Common.{◌≡◌, ℕ, zero, suc, ◌+◌, ◌<◌, ◌≤◌, List, [], ◌∷◌, ◌++◌, length, map, drop, get_or, refl, sym, ap, subst, ◌∙◌, arith}
use Rattle.std.specs.List.{AllByRecursion}
use Rattle.std.proofs.lemmas.List.{drop_more, at_drop_all}

-- ---- a loop's item

pub at_item : {X : Type 0} → (xs ys : List X) (i : ℕ) (x : X) → ys ≡ xs → i < length ys → x ≡ get_or ys i x → drop i xs ≡ x ∷ drop (i + 1) xs
at_item {X} xs ys i x same within is = subst (λ zs. drop i zs ≡ x ∷ drop (i + 1) zs) same (drop_more ys i x within ∙ ap (λ y. y ∷ drop (i + 1) ys) (sym is))

pub at_end : {X : Type 0} → (xs ys : List X) (i : ℕ) → ys ≡ xs → length ys ≤ i → drop i xs ≡ []
at_end xs ys i same past = subst (λ zs. drop i zs ≡ []) same (at_drop_all (λ zs. zs) ys i past)

-- ---- one more item

pub all-more : {X : Type 0} → (P : X → Type 0) (xs : List X) (x : X) → AllByRecursion P xs → P x → AllByRecursion P (xs ++ x ∷ [])
all-more P [] x all own = (own, tt)
all-more P (y ∷ xs) x all own = (all.0, all-more P xs x all.1 own)

pub map-more : {X Y : Type 0} → (f : X → Y) (xs : List X) (x : X) → map f (xs ++ x ∷ []) ≡ map f xs ++ f x ∷ []
map-more f [] x = refl
map-more f (y ∷ xs) x = ap (λ ys. f y ∷ ys) (map-more f xs x)
