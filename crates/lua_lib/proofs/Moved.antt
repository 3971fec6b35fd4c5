-- Items of a table that move, as the definitions read and set them.
use Rattle.std.proofs.Common.{◌≡◌, ℕ, zero, suc, ◌+◌, ◌-◌, ◌<◌, ◌≤◌, ℤ, pos, ◌+ℤ◌, ◌≤ℤ◌, List, [], ◌∷◌, length, drop, Option, arith, ap, refl, sym, ◌∙◌}
use Rattle.std.specs.Prelude.{unwrap_or, nat_le, negsuc, codes}
use Rattle.std.proofs.lemmas.Bool.{cond-true, cond-false, le-leb, lt-leb}
use Rattle.std.proofs.lemmas.Int.{ints}
use Rattle.lua_meaning.specs.Value.{Value, nil, num}
use Rattle.lua_meaning.specs.Store.{Store, raw_get, raw_set, border, position_key}
use Rattle.lua_meaning.specs.Fault.{improper}
use Rattle.lua_meaning.specs.Arguments.{argument, answer, number_argument, look, change, answer_one, fault, ◌>>=◌, ◌>>◌}
use Rattle.lua_meaning.specs.Basic.{items_from}
use Rattle.lua_meaning.specs.Tables.{set_items, inserted, items, insert_by, insert_at, removed, remove_at}

-- the key of a position is its number
pub position_key-is : (n : ℕ) → 1 ≤ n → n ≤ 99999999999999 → position_key n ≡ num (pos n)
position_key-is zero first last = absurd (omega arith)
position_key-is (suc n) first last = ap (λ (o : Option Value). unwrap_or o nil) (cond-true (nat_le (suc n) 99999999999999) _ _ (le-leb (suc n) 99999999999999 last))

-- the items from a number on, without the first ones
pub drop-items : (s : Store) (t k : ℕ) (i : ℤ) (count : ℕ) → drop k (items_from s t i count) ≡ items_from s t (i +ℤ pos k) (count - k)
drop-items s t zero i count =
    let number : i ≡ i +ℤ pos 0 = omega (arith, ints) in
    let all : count ≡ count - 0 = omega arith in
    ap (λ (z : ℤ). items_from s t z count) number ∙ ap (λ (n : ℕ). items_from s t (i +ℤ pos 0) n) all
drop-items s t (suc k) i zero =
    let none : 0 ≡ 0 - suc k = omega arith in
    ap (λ (n : ℕ). items_from s t (i +ℤ pos (suc k)) n) none
drop-items s t (suc k) i (suc count) =
    let number : (i +ℤ pos 1) +ℤ pos k ≡ i +ℤ pos (suc k) = omega (arith, ints) in
    let left : count - k ≡ suc count - suc k = omega arith in
    drop-items s t k (i +ℤ pos 1) count
    ∙ (ap (λ (z : ℤ). items_from s t z (count - k)) number ∙ ap (λ (n : ℕ). items_from s t (i +ℤ pos (suc k)) n) left)

-- the same from a position on
pub items-behind : (s : Store) (t first last : ℕ) → 1 ≤ first → drop (first - 1) (items s t last) ≡ items_from s t (pos first) (last + 1 - first)
items-behind s t first last some =
    let number : pos 1 +ℤ pos (first - 1) ≡ pos first = omega (arith, ints) in
    let left : last - (first - 1) ≡ last + 1 - first = omega arith in
    drop-items s t (first - 1) (pos 1) last
    ∙ (ap (λ (z : ℤ). items_from s t z (last - (first - 1))) number ∙ ap (λ (n : ℕ). items_from s t (pos first) n) left)

-- none are behind the last one
pub items-none : (s : Store) (t first last : ℕ) → 1 ≤ first → last < first → [] ≡ drop (first - 1) (items s t last)
items-none s t first last some past =
    let none : 0 ≡ last + 1 - first = omega arith in
    ap (λ (n : ℕ). items_from s t (pos first) n) none ∙ sym (items-behind s t first last some)

-- ---- values set one after the other

drop-argument : (n : ℕ) (vs : List Value) → n < length vs → drop n vs ≡ argument n vs ∷ drop (suc n) vs
drop-argument n [] within = absurd (omega arith)
drop-argument zero (v ∷ vs) within = refl
drop-argument (suc n) (v ∷ vs) within = drop-argument n vs (omega arith)

module _ (t first : ℕ) (vs : List Value) where
  -- the values so far are set; what setting those from here on makes of the store
  abbrev pub set_behind : ℕ → Store → Store
  set_behind n s = set_items t (first + n) (drop n vs) s

  pub set-start : (s : Store) → set_behind 0 s ≡ set_items t first vs s
  set-start s = let e : first + 0 ≡ first = omega arith in ap (λ (n : ℕ). set_items t n vs s) e

  pub set-next : (n : ℕ) (v : Value) (s next : Store) → n < length vs → v ≡ argument n vs → next ≡ raw_set s t (position_key (first + n)) v
      → set_behind (n + 1) next ≡ set_behind n s
  set-next n v s next within is set =
      let place : first + (n + 1) ≡ suc (first + n) = omega arith in
      let one : n + 1 ≡ suc n = omega arith in
      ap (λ (r : Store). set_items t (first + (n + 1)) (drop (n + 1) vs) r) (set ∙ ap (raw_set s t (position_key (first + n))) is)
      ∙ (ap (λ (p : ℕ). set_items t p (drop (n + 1) vs) (raw_set s t (position_key (first + n)) (argument n vs))) place
      ∙ (ap (λ (m : ℕ). set_items t (suc (first + n)) (drop m vs) (raw_set s t (position_key (first + n)) (argument n vs))) one
      ∙ ap (λ (ws : List Value). set_items t (first + n) ws s) (sym (drop-argument n vs within))))

  pub set-end : (n : ℕ) (s : Store) → length vs ≤ n → set_behind n s ≡ s
  set-end n s past = ap (λ (ws : List Value). set_items t (first + n) ws s) (none n vs past)
    where
      none : (n : ℕ) (ws : List Value) → length ws ≤ n → drop n ws ≡ []
      none zero [] past = refl
      none (suc n) [] past = refl
      none zero (w ∷ ws) past = absurd (omega arith)
      none (suc n) (w ∷ ws) past = none n ws (omega arith)

-- ---- insert

module _ (t : ℕ) (s : Store) (v : Value) where
  pub inserted-behind : (n : ℕ) → border s t < n → inserted t n v s ≡ raw_set s t (position_key n) v
  inserted-behind n past = cond-false (nat_le n (border s t)) _ _ (lt-leb n (border s t) past)

  -- a value is set, and the items from there on behind it
  pub inserted-within : (n : ℕ) (moved : List Value) (next : Store) → n ≤ border s t → moved ≡ drop (n - 1) (items s t (border s t))
      → next ≡ raw_set s t (position_key n) v → set_items t (n + 1) moved next ≡ inserted t n v s
  inserted-within n moved next within is set =
      let one : n + 1 ≡ suc n = omega arith in
      ap (λ (m : ℕ). set_items t m moved next) one
      ∙ (ap (λ (r : Store). set_items t (suc n) moved r) set
      ∙ (ap (λ (ws : List Value). set_items t (suc n) ws (raw_set s t (position_key n) v)) is
      ∙ sym (cond-true (nat_le n (border s t)) _ _ (le-leb n (border s t) within))))

pub insert-few : (t count : ℕ) (vs : List Value) → count < 3
    → insert_by t count vs ≡ (change (λ s. raw_set s t (position_key (suc (border s t))) (argument 1 vs)) >> answer [])
insert-few t zero vs few = refl
insert-few t (suc zero) vs few = refl
insert-few t (suc (suc zero)) vs few = refl
insert-few t (suc (suc (suc n))) vs few = absurd (omega arith)

pub insert-many : (t count : ℕ) (vs : List Value) → 3 ≤ count → insert_by t count vs ≡ (number_argument 1 vs >>= λ n. insert_at t n (argument 2 vs))
insert-many t zero vs many = absurd (omega arith)
insert-many t (suc zero) vs many = absurd (omega arith)
insert-many t (suc (suc zero)) vs many = absurd (omega arith)
insert-many t (suc (suc (suc n))) vs many = refl

-- ---- a number that is a position, or none

pub insert_at-place : (t place : ℕ) (n : ℤ) (v : Value) → n ≡ pos place → 1 ≤ place → insert_at t n v ≡ (change (λ s. inserted t place v s) >> answer [])
insert_at-place t zero n v is some = absurd (omega arith)
insert_at-place t (suc place) n v is some = ap (λ (z : ℤ). insert_at t z v) is

pub insert_at-none : (t : ℕ) (n : ℤ) (v : Value) → n ≤ℤ pos 0 → insert_at t n v ≡ fault (improper 1 (codes "position out of bounds"))
insert_at-none t (pos zero) v low = refl
insert_at-none t (pos (suc n)) v low = absurd (omega (arith, ints))
insert_at-none t (negsuc n) v low = refl

pub remove_at-none : (t size : ℕ) (n : ℤ) → n ≤ℤ pos 0 → remove_at t size n ≡ answer []
remove_at-none t size (pos zero) low = refl
remove_at-none t size (pos (suc n)) low = absurd (omega (arith, ints))
remove_at-none t size (negsuc n) low = refl

module _ (t size : ℕ) (n : ℤ) where
  pub remove_at-behind : (place : ℕ) → n ≡ pos place → size < place → remove_at t size n ≡ answer []
  remove_at-behind zero is past = ap (λ (z : ℤ). remove_at t size z) is
  remove_at-behind (suc k) is past = ap (λ (z : ℤ). remove_at t size z) is ∙ cond-false (nat_le (suc k) size) _ _ (lt-leb (suc k) size past)

  pub remove_at-place : (place : ℕ) → n ≡ pos place → 1 ≤ place → place ≤ size
      → remove_at t size n ≡ (look (λ s. raw_get s t (position_key place)) >>= λ v. change (λ s. removed t place s) >> answer_one v)
  remove_at-place zero is some within = absurd (omega arith)
  remove_at-place (suc k) is some within = ap (λ (z : ℤ). remove_at t size z) is ∙ cond-true (nat_le (suc k) size) _ _ (le-leb (suc k) size within)
