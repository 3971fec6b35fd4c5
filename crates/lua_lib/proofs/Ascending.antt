-- A list in ascending order is the one that insertion makes of the same items.
use Rattle.std.proofs.Common.{◌≡◌, ℕ, suc, ◌+◌, ◌<◌, Bool, true, false, cond, ◌&&◌, List, [], ◌∷◌, length, get_or, arith, ap, refl, sym, ◌∙◌}
use Rattle.std.proofs.lemmas.Bool.{and_parts, and_from, cond-true, cond-false, true_from_ne_false, false≢true}
use Rattle.std.proofs.lemmas.List.Sums.{sum_by-cons}
use Rattle.std.proofs.lemmas.List.Sorted.{sum_by-IsPermutation}
use Rattle.std.specs.List.{sum_by}
use Rattle.std.specs.List.Sorted.{IsPermutation}

-- an item among items that ascend
abbrev pub placed : {K : Type 0} → (K → K → Bool) → K → List K → List K
placed up v [] = v ∷ []
placed up v (w ∷ ws) = cond (up v w) (v ∷ w ∷ ws) (w ∷ placed up v ws)

abbrev pub in_order : {K : Type 0} → (K → K → Bool) → List K → List K
in_order up [] = []
in_order up (v ∷ vs) = placed up v (in_order up vs)

-- an item is up to each of a list
abbrev pub IsLeast : {K : Type 0} → (K → K → Bool) → K → List K → Type 0
IsLeast up v [] = Unit {0}
IsLeast up v (w ∷ ws) = (up v w ≡ true) × IsLeast up v ws

abbrev pub Ascends : {K : Type 0} → (K → K → Bool) → List K → Type 0
Ascends up [] = Unit {0}
Ascends up (v ∷ vs) = IsLeast up v vs × Ascends up vs

-- an order: of two items one is up to the other, and two that are up to each other are one
module _ {K : Type 0} (up : K → K → Bool)
    (total : (a b : K) → up a b ≡ false → up b a ≡ true)
    (trans : (a b c : K) → up a b ≡ true → up b c ≡ true → up a c ≡ true)
    (antisym : (a b : K) → up a b ≡ true → up b a ≡ true → a ≡ b) where
  up_itself : (a : K) → up a a ≡ true
  up_itself a = true_from_ne_false (up a a) (λ e. false≢true (sym e ∙ total a a e))

  least_below : (a b : K) (ws : List K) → up a b ≡ true → IsLeast up b ws → IsLeast up a ws
  least_below a b [] e h = tt
  least_below a b (w ∷ ws) e h = (trans a b w e h.0, least_below a b ws e h.1)

  -- from neighbours
  pub ascends_from : (ys : List K) → ((k : ℕ) (d : K) → suc k < length ys → up (get_or ys k d) (get_or ys (suc k) d) ≡ true) → Ascends up ys
  ascends_from [] h = tt
  ascends_from (y ∷ []) h = (tt, tt)
  ascends_from (y ∷ z ∷ zs) h =
      let rest = ascends_from (z ∷ zs) (λ k d l. h (suc k) d (omega arith)) in
      let first : up y z ≡ true = h 0 y (omega arith) in
      ((first, least_below y z zs first rest.0), rest)

  least_placed : (m v : K) (ws : List K) → up m v ≡ true → IsLeast up m ws → IsLeast up m (placed up v ws)
  least_placed m v [] e h = (e, tt)
  least_placed m v (w ∷ ws) e h = from (up v w) (least_placed m v ws e h.1)
    where
      from : (b : Bool) → IsLeast up m (placed up v ws) → IsLeast up m (cond b (v ∷ w ∷ ws) (w ∷ placed up v ws))
      from true later = (e, h)
      from false later = (h.0, later)

  ascends_placed : (v : K) (ws : List K) → Ascends up ws → Ascends up (placed up v ws)
  ascends_placed v [] h = (tt, tt)
  ascends_placed v (w ∷ ws) h = from (up v w) refl (ascends_placed v ws h.1)
    where
      from : (b : Bool) → up v w ≡ b → Ascends up (placed up v ws) → Ascends up (cond b (v ∷ w ∷ ws) (w ∷ placed up v ws))
      from true e later = ((e, least_below v w ws e h.0), h)
      from false e later = (least_placed w v ws (total v w e) h.0, later)

  ascends-in_order : (vs : List K) → Ascends up (in_order up vs)
  ascends-in_order [] = tt
  ascends-in_order (v ∷ vs) = ascends_placed v (in_order up vs) (ascends-in_order vs)

  -- ---- how often an item stands in a list

  abbrev eq : K → K → Bool
  eq a b = up a b && up b a

  one_if : K → K → ℕ
  one_if a b = cond (eq a b) 1 0

  count : K → List K → ℕ
  count w vs = sum_by (λ (x : K). cond (eq w x) 1 0) vs

  count-cons : (w v : K) (vs : List K) → count w (v ∷ vs) ≡ one_if w v + count w vs
  unfolding count one_if
  count-cons w v vs = sum_by-cons (λ (x : K). cond (eq w x) 1 0) v vs

  count-nil : (w : K) → count w [] ≡ 0
  unfolding count
  count-nil w = refl

  one_itself : (w : K) → one_if w w ≡ 1
  unfolding one_if
  one_itself w = cond-true (eq w w) 1 0 (and_from (up w w) (up w w) (up_itself w) (up_itself w))

  not_one : (a b : K) → eq a b ≡ false → one_if a b ≡ 0
  unfolding one_if
  not_one a b e = cond-false (eq a b) 1 0 e

  eq_is : (a b : K) → eq a b ≡ true → a ≡ b
  eq_is a b e = let parts = and_parts (up a b) (up b a) e in antisym a b parts.0 parts.1

  count_placed : (w v : K) (ws : List K) → count w (placed up v ws) ≡ one_if w v + count w ws
  count_placed w v [] = count-cons w v []
  count_placed w v (x ∷ xs) = from (up v x) (count_placed w v xs)
    where
      from : (b : Bool) → count w (placed up v xs) ≡ one_if w v + count w xs →
          count w (cond b (v ∷ x ∷ xs) (x ∷ placed up v xs)) ≡ one_if w v + count w (x ∷ xs)
      from true later = count-cons w v (x ∷ xs)
      from false later =
          let rest = count-cons w x xs in
          let all = count-cons w x (placed up v xs) in
          omega arith

  count-in_order : (w : K) (vs : List K) → count w (in_order up vs) ≡ count w vs
  count-in_order w [] = refl
  count-in_order w (v ∷ vs) =
      let rest = count-in_order w vs in
      let whole = count-cons w v vs in
      let made = count_placed w v (in_order up vs) in
      omega arith

  least_counted : (b : K) (vs : List K) (w : K) → IsLeast up b vs → 0 < count w vs → up b w ≡ true
  least_counted b [] w h some = absurd (omega (arith, count-nil w))
  least_counted b (v ∷ vs) w h some = from (eq w v) refl (least_counted b vs w h.1)
    where
      from : (c : Bool) → eq w v ≡ c → (0 < count w vs → up b w ≡ true) → up b w ≡ true
      from true e later = ap (λ (x : K). up b x) (eq_is w v e) ∙ h.0
      from false e later =
          let none = not_one w v e in
          let parts = count-cons w v vs in
          later (omega arith)

  -- two ascending lists with the same items are one
  unique : (us bs : List K) → Ascends up us → Ascends up bs → ((w : K) → count w us ≡ count w bs) → us ≡ bs
  unique [] [] p q same = refl
  unique [] (b ∷ bs) p q same =
      let none = same b in
      let parts = count-cons b b bs in
      let one = one_itself b in
      let nothing = count-nil b in
      absurd (omega arith)
  unique (a ∷ us) [] p q same =
      let none = same a in
      let parts = count-cons a a us in
      let one = one_itself a in
      let nothing = count-nil a in
      absurd (omega arith)
  unique (a ∷ us) (b ∷ bs) p q same =
      let first : a ≡ b = antisym a b
      (least_counted a (a ∷ us) b (up_itself a, p.0) (counted b (a ∷ us) (b ∷ bs) (same b) (one_at b bs)))
      (least_counted b (b ∷ bs) a (up_itself b, q.0) (counted a (b ∷ bs) (a ∷ us) (sym (same a)) (one_at a us))) in
      ap (λ (x : K). x ∷ us) first ∙ ap (λ (l : List K). b ∷ l) (unique us bs p.1 q.1 (λ w. tails first w (same w)))
    where
      one_at : (w : K) (vs : List K) → 0 < count w (w ∷ vs)
      one_at w vs = let parts = count-cons w w vs in let one = one_itself w in omega arith

      counted : (w : K) (vs xs : List K) → count w vs ≡ count w xs → 0 < count w xs → 0 < count w vs
      counted w vs xs e some = omega arith

      tails : a ≡ b → (w : K) → count w (a ∷ us) ≡ count w (b ∷ bs) → count w us ≡ count w bs
      tails e w same =
          let left = count-cons w a us in
          let right = count-cons w b bs in
          let head : one_if w a ≡ one_if w b = ap (λ (x : K). one_if w x) e in
          omega arith

  -- what has the items of xs and ascends is xs in order
  pub is_in_order : (xs ys : List K) → IsPermutation xs ys → Ascends up ys → ys ≡ in_order up xs
  unfolding count
  is_in_order xs ys p h =
      unique ys (in_order up xs) h (ascends-in_order xs)
      (λ w. sum_by-IsPermutation (λ (x : K). cond (eq w x) 1 0) xs ys p ∙ sym (count-in_order w xs))
