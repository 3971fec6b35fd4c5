-- The row of slots that a seat keeps, turned until one of them is the first.
use Rattle.std.proofs.Common.{◌-◌, map, None, length-append, ◌≡◌, ℕ, ◌+◌, ◌<◌, zero, suc, List, [], ◌∷◌, ◌++◌, length, take, drop, sym, refl, ap, ◌∙◌, arith, append_assoc, get_or, Option, Some}
use Rattle.std.proofs.lemmas.List.{drop-map, length-drop, length-map, length-take-le}
use Rattle.std.proofs.Math.Seq.{drop-cons, drop-append_seam, take-append_seam}
use Rattle.atomic_table.specs.Table.{turned, rest}
use Rattle.turn_desk.specs.Passes.{empty_slot}

module _ {A : Type 0} where
  -- the element at a place parts the list
  pub parted : (l : List A) (k : ℕ) → k < length l → (x : A) × (drop k l ≡ x ∷ drop (suc k) l) × (take (suc k) l ≡ take k l ++ x ∷ [])
  parted [] k lt = absurd (omega arith)
  parted (x ∷ xs) zero lt = (x, refl, refl)
  parted (x ∷ xs) (suc k) lt = let h = parted xs k (omega arith) in (h.0, h.1, ap (λ (l : List A). x ∷ l) h.2)

-- one turn more
pub turned_once : {S : Type 0} (row : List (ℕ × S)) (k : ℕ) → k < length row → turned (drop k row ++ take k row) ≡ drop (k + 1) row ++ take (k + 1) row
turned_once {S} row k lt =
    let h = parted row k lt in let e : k + 1 ≡ suc k = omega arith in let x : ℕ × S = h.0 in
    ap (λ (l : List (ℕ × S)). turned (l ++ take k row)) h.1
    ∙ (append_assoc (drop (suc k) row) (take k row) (x ∷ [])
    ∙ (ap (λ (l : List (ℕ × S)). drop (suc k) row ++ l) (sym h.2) ∙ ap (λ (n : ℕ). drop n row ++ take n row) (sym e)))

-- the first of a row, with what is behind it
pub first_of : {S : Type 0} (row : List (ℕ × S)) (x : ℕ × S) (others : List (ℕ × S)) → row ≡ x ∷ others → row ≡ x ∷ rest row
first_of {S} row x others e = e ∙ ap (λ (l : List (ℕ × S)). x ∷ l) (sym (ap (λ (l : List (ℕ × S)). rest l) e))

-- what is read from the first slot is what was taken
pub read_first : {O : Type 0} (o : ℕ) (x value : O) (found : Option O) (row others rest' : List (ℕ × Option O)) → row ≡ (o, Some x) ∷ others → row ≡ (o, found) ∷ rest' → found ≡ Some value → x ≡ value
read_first {O} o x value found row others rest' a b e = let s : Some x ≡ found = ap (λ (l : List (ℕ × Option O)). (get_or l 0 (o, found)).1) (sym a ∙ b) in cc

module _ {O : Type 0} (kept : List ℕ) (row : List (ℕ × Option O)) (place o : ℕ) (is : row ≡ map empty_slot kept) (lt : place < length kept) (there : get_or kept place 0 ≡ o) where
  -- the slot at a place is the first once the row was turned so far
  pub turned_to : drop place row ++ take place row ≡ (o, None) ∷ (drop (suc place) row ++ take place row)
  turned_to = let E : ℕ → ℕ × Option O = empty_slot in
      let first : drop place row ≡ (o, None) ∷ drop (suc place) row = ap (drop place) is ∙ (drop-map E place kept ∙ (ap (map E) (drop-cons kept place 0 lt) ∙ (ap (λ (k : ℕ). E k ∷ map E (drop (suc place) kept)) there ∙ ap (λ (l : List (ℕ × Option O)). (o, None) ∷ l) (sym (ap (drop (suc place)) is ∙ drop-map E (suc place) kept))))) in
      ap (λ (l : List (ℕ × Option O)). l ++ take place row) first

  long : length row ≡ length kept
  long = ap length is ∙ length-map kept empty_slot

  behind : length (drop (suc place) row) ≡ length row - suc place
  behind = length-drop (suc place) row

  pub left_over : length (drop (suc place) row ++ take place row) + 1 ≡ length kept
  left_over = let a = long in let b = behind in let c = length-take-le place row (omega arith) in omega (arith, length-append (drop (suc place) row) (take place row))

  -- turned on by as many as lie behind, the others lie as before
  pub turned_back : (n : ℕ) → n + suc place ≡ length kept → drop n (drop (suc place) row ++ take place row) ++ take n (drop (suc place) row ++ take place row) ≡ take place row ++ drop (suc place) row
  turned_back n e = let a = long in let b = behind in let same : n ≡ length (drop (suc place) row) = omega arith in let A : List (ℕ × Option O) = drop (suc place) row in let B : List (ℕ × Option O) = take place row in
      ap (λ (k : ℕ). drop k (A ++ B) ++ take k (A ++ B)) same ∙ (ap (λ (l : List (ℕ × Option O)). l ++ take (length A) (A ++ B)) (drop-append_seam A B) ∙ ap (λ (l : List (ℕ × Option O)). B ++ l) (take-append_seam A B))
