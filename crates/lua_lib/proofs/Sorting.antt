-- What a sort of numbers and of texts makes is what `sorted` gives.
use Rattle.std.proofs.Common.{◌≡◌, ◌≢◌, ℕ, suc, ◌<◌, ◌⊎◌, inl, inr, ℤ, pos, negsuc, Bool, true, false, not, cond, nat_eq, nat_lt, List, [], ◌∷◌, get_or, map, arith, ap, refl, sym, ◌∙◌, add-one}
use Rattle.std.proofs.lemmas.Bool.{eqb-true, eqb-false, eq-eqb, ne_eqb, lt-ltb, ltb-true, ltb-false, leb-true, leb-false, le-leb, cond-true, cond-false, not-false}
use Rattle.std.proofs.lemmas.Bool.Decides.{nat_tests}
use Rattle.std.proofs.lemmas.Cmp.{same_from_slice_cmp}
use Rattle.std.specs.Cmp.Lexicographic.{slice_cmp}
use Rattle.std.specs.List.Sorted.{IsPermutation, IsSorted}
use Rattle.std.specs.Ordering.{nat_cmp, int_cmp, is_lt}
use Rattle.std.specs.declared.cmp.Ordering.TheVariants.{Less, Equal, Greater}
use Rattle.std.specs.Prelude.{int_le, int_lt}
use Rattle.lua_meaning.specs.Value.{Value, num, str}
use Rattle.lua_meaning.specs.Tables.{is_text_up_to, placed_among, sorted}
use Rattle.lua_lib.proofs.Ascending.{placed, in_order, ascends_from, is_in_order}

-- ---- the order of numbers

int_total : (a b : ℤ) → int_le a b ≡ false → int_le b a ≡ true
int_total (pos a) (pos b) e = let less = leb-false a b e in le-leb b a (omega arith)
int_total (pos a) (negsuc b) e = refl
int_total (negsuc a) (pos b) e = cc
int_total (negsuc a) (negsuc b) e = let less = leb-false b a e in le-leb a b (omega arith)

int_trans : (a b c : ℤ) → int_le a b ≡ true → int_le b c ≡ true → int_le a c ≡ true
int_trans (pos a) (pos b) (pos c) p q = let first = leb-true a b p in let second = leb-true b c q in le-leb a c (omega arith)
int_trans (pos a) (pos b) (negsuc c) p q = cc
int_trans (pos a) (negsuc b) c p q = cc
int_trans (negsuc a) (pos b) (pos c) p q = refl
int_trans (negsuc a) (pos b) (negsuc c) p q = cc
int_trans (negsuc a) (negsuc b) (pos c) p q = refl
int_trans (negsuc a) (negsuc b) (negsuc c) p q =
    let first = leb-true b a p in
    let second = leb-true c b q in
    le-leb c a (omega arith)

int_antisym : (a b : ℤ) → int_le a b ≡ true → int_le b a ≡ true → a ≡ b
int_antisym (pos a) (pos b) p q =
    let first = leb-true a b p in
    let second = leb-true b a q in
    let same : a ≡ b = omega arith in
    ap (λ (n : ℕ). pos n) same
int_antisym (pos a) (negsuc b) p q = cc
int_antisym (negsuc a) (pos b) p q = cc
int_antisym (negsuc a) (negsuc b) p q =
    let first = leb-true b a p in
    let second = leb-true a b q in
    let same : a ≡ b = omega arith in
    ap (λ (n : ℕ). negsuc n) same

-- ---- the order of texts

-- two texts that begin with these bytes are in order
abbrev InOrder : ℕ → List ℕ → ℕ → List ℕ → Type 0
InOrder x a y b = ((x ≡ y) × (is_text_up_to a b ≡ true)) ⊎ (x < y)

order_of : (x y : ℕ) (a b : List ℕ) → is_text_up_to (x ∷ a) (y ∷ b) ≡ true → InOrder x a y b
order_of x y a b e = from (nat_eq x y) refl e
  where
    from : (p : Bool) → nat_eq x y ≡ p → cond p (is_text_up_to a b) (nat_lt x y) ≡ true → InOrder x a y b
    from true p e = inl (eqb-true x y p, e)
    from false p e = inr (ltb-true x y e)

from_order : (x y : ℕ) (a b : List ℕ) → InOrder x a y b → is_text_up_to (x ∷ a) (y ∷ b) ≡ true
from_order x y a b (inl (same, rest)) = cond-true (nat_eq x y) (is_text_up_to a b) (nat_lt x y) (eq-eqb x y same) ∙ rest
from_order x y a b (inr less) =
    cond-false (nat_eq x y) (is_text_up_to a b) (nat_lt x y) (ne_eqb x y (λ e. omega arith)) ∙ lt-ltb x y less

text_total : (a b : List ℕ) → is_text_up_to a b ≡ false → is_text_up_to b a ≡ true
text_total [] b e = cc
text_total (x ∷ a) [] e = refl
text_total (x ∷ a) (y ∷ b) e = from_order y x b a (from (nat_eq x y) refl (text_total a b) e)
  where
    from : (p : Bool) → nat_eq x y ≡ p → (is_text_up_to a b ≡ false → is_text_up_to b a ≡ true) →
        cond p (is_text_up_to a b) (nat_lt x y) ≡ false → InOrder y b x a
    from true p later e = inl (sym (eqb-true x y p), later e)
    from false p later e =
        let no_less = ltb-false x y e in
        let differs : x ≢ y = eqb-false x y p in
        inr (omega arith)

text_trans : (a b c : List ℕ) → is_text_up_to a b ≡ true → is_text_up_to b c ≡ true → is_text_up_to a c ≡ true
text_trans [] b c p q = refl
text_trans (x ∷ a) [] c p q = cc
text_trans (x ∷ a) (y ∷ b) [] p q = cc
text_trans (x ∷ a) (y ∷ b) (z ∷ c) p q =
    from_order x z a c (both (order_of x y a b p) (order_of y z b c q) (text_trans a b c))
  where
    both : InOrder x a y b → InOrder y b z c →
        (is_text_up_to a b ≡ true → is_text_up_to b c ≡ true → is_text_up_to a c ≡ true) → InOrder x a z c
    both (inl (e, h)) (inl (f, k)) later = inl (e ∙ f, later h k)
    both (inl (e, h)) (inr k) later = inr (omega arith)
    both (inr h) (inl (f, k)) later = inr (omega arith)
    both (inr h) (inr k) later = inr (omega arith)

text_antisym : (a b : List ℕ) → is_text_up_to a b ≡ true → is_text_up_to b a ≡ true → a ≡ b
text_antisym [] [] p q = refl
text_antisym [] (y ∷ b) p q = cc
text_antisym (x ∷ a) [] p q = cc
text_antisym (x ∷ a) (y ∷ b) p q = both (order_of x y a b p) (order_of y x b a q) (text_antisym a b)
  where
    both : InOrder x a y b → InOrder y b x a → (is_text_up_to a b ≡ true → is_text_up_to b a ≡ true → a ≡ b) → x ∷ a ≡ y ∷ b
    both (inl (e, h)) (inl (f, k)) later = ap (λ (n : ℕ). n ∷ a) e ∙ ap (λ (l : List ℕ). y ∷ l) (later h k)
    both (inl (e, h)) (inr k) later = absurd (omega arith)
    both (inr h) (inl (f, k)) later = absurd (omega arith)
    both (inr h) (inr k) later = absurd (omega arith)

-- ---- `sorted` is insertion

sorted_numbers : (zs : List ℤ) → sorted (map num zs) ≡ map num (in_order int_le zs)
sorted_numbers [] = refl
sorted_numbers (z ∷ zs) = ap (placed_among (num z)) (sorted_numbers zs) ∙ among z (in_order int_le zs)
  where
    among : (v : ℤ) (ws : List ℤ) → placed_among (num v) (map num ws) ≡ map num (placed int_le v ws)
    among v [] = refl
    among v (w ∷ ws) = from (int_le v w) (among v ws)
      where
        from : (b : Bool) → placed_among (num v) (map num ws) ≡ map num (placed int_le v ws) →
            cond b (num v ∷ num w ∷ map num ws) (num w ∷ placed_among (num v) (map num ws))
            ≡ map num (cond b (v ∷ w ∷ ws) (w ∷ placed int_le v ws))
        from true later = refl
        from false later = ap (λ (l : List Value). num w ∷ l) later

sorted_texts : (ts : List (List ℕ)) → sorted (map str ts) ≡ map str (in_order is_text_up_to ts)
sorted_texts [] = refl
sorted_texts (t ∷ ts) = ap (placed_among (str t)) (sorted_texts ts) ∙ among t (in_order is_text_up_to ts)
  where
    among : (v : List ℕ) (ws : List (List ℕ)) → placed_among (str v) (map str ws) ≡ map str (placed is_text_up_to v ws)
    among v [] = refl
    among v (w ∷ ws) = from (is_text_up_to v w) (among v ws)
      where
        from : (b : Bool) → placed_among (str v) (map str ws) ≡ map str (placed is_text_up_to v ws) →
            cond b (str v ∷ str w ∷ map str ws) (str w ∷ placed_among (str v) (map str ws))
            ≡ map str (cond b (v ∷ w ∷ ws) (w ∷ placed is_text_up_to v ws))
        from true later = refl
        from false later = ap (λ (l : List Value). str w ∷ l) later

-- ---- what a sort ensures

int_step : (a b : ℤ) → is_lt (int_cmp b a) ≡ false → int_le a b ≡ true
int_step a b e = at_most a b (not_less (int_lt b a) (int_lt a b) e)
  where
    not_less : (p q : Bool) → is_lt (cond p Less (cond q Greater Equal)) ≡ false → p ≡ false
    not_less true q e = cc
    not_less false q e = refl

    at_most : (a b : ℤ) → int_lt b a ≡ false → int_le a b ≡ true
    at_most (pos a) (pos b) e = le-leb a b (ltb-false b a e)
    at_most (pos a) (negsuc b) e = cc
    at_most (negsuc a) (pos b) e = refl
    at_most (negsuc a) (negsuc b) e = le-leb b a (ltb-false a b e)

pub numbers-sorted : (xs ys : List ℤ) → IsPermutation xs ys → IsSorted int_cmp ys → map num ys ≡ sorted (map num xs)
numbers-sorted xs ys p up =
    ap (map num) (is_in_order int_le int_total int_trans int_antisym xs ys p
    (ascends_from int_le int_total int_trans int_antisym ys
    (λ k d l. int_step (get_or ys k d) (get_or ys (suc k) d) (rw add-one at (up k d (omega arith) (omega arith))))))
    ∙ sym (sorted_numbers xs)

text_lt : (xs ys : List ℕ) → is_lt (slice_cmp nat_cmp xs ys) ≡ not (is_text_up_to ys xs)
text_lt xs ys =
    same_from_slice_cmp nat_cmp is_lt (λ a b. not (is_text_up_to b a)) refl (λ _ _. refl) (λ _ _. refl)
    (λ x y a b o h. grind (arith, nat_tests)) xs ys (slice_cmp nat_cmp xs ys) refl

text_step : (a b : List ℕ) → is_lt (slice_cmp nat_cmp b a) ≡ false → is_text_up_to a b ≡ true
text_step a b e = not-false (is_text_up_to a b) (sym (text_lt b a) ∙ e)

pub texts-sorted : (xs ys : List (List ℕ)) → IsPermutation xs ys → IsSorted (slice_cmp nat_cmp) ys → map str ys ≡ sorted (map str xs)
texts-sorted xs ys p up =
    ap (map str) (is_in_order is_text_up_to text_total text_trans text_antisym xs ys p
    (ascends_from is_text_up_to text_total text_trans text_antisym ys
    (λ k d l. text_step (get_or ys k d) (get_or ys (suc k) d) (rw add-one at (up k d (omega arith) (omega arith))))))
    ∙ sym (sorted_texts xs)
