-- Walking a table by `next` passes its keys with values, each once and in order.
use Rattle.std.proofs.Common.{◌≡◌, ℕ, suc, ◌+◌, ◌<◌, ◌≤◌, ℤ, pos, Bool, true, false, cond, List, [], ◌∷◌, ◌++◌, length, Option, None, Some, Ok, Bor, refl, sym, ap, subst, ◌∙◌, append_assoc, arith}
use Rattle.std.specs.Prelude.{max, negsuc, IsSomeAnd, IsFalse}
use Rattle.std.specs.List.{AllByRecursion, IsDistinct}
use Rattle.std.specs.Map.{keys_of}
use Rattle.std.specs.Option.{option_map, option_copied}
use Rattle.std.proofs.lemmas.Bool.{cond-true, cond-false}
use Rattle.std.proofs.lemmas.Int.{ints}
use Rattle.std.proofs.lemmas.List.{length-append}
use Rattle.std.proofs.lemmas.Option.{same_Some}
use Rattle.lua_table.specs.Table.{Places, first, has_place, next, next_after}
use Rattle.lua_tree.specs.Tree.{Bytes}
use Rattle.lua_meaning.specs.Value as meant
use Rattle.lua_meaning.specs.Tables.{greater_key, greatest_key}
use Rattle.lua_heap.specs.declared.value.Value.{Value}
use Rattle.lua_heap.specs.Alike.{value_eq, alike, alike_same}
use Rattle.lua_heap.specs.Value.{value_view, places_view}
use Rattle.lua_lib.specs.Keys.{key_found}

-- ---- the place of a key

other_way : (a b : Value) → value_eq a b ≡ false → value_eq b a ≡ false
other_way a b e = by (value_eq b a) refl
  where
    by : (c : Bool) → value_eq b a ≡ c → value_eq b a ≡ false
    by true is = let P : Value → Type 0 = λ v. value_eq a v ≡ false in let same : value_eq a a ≡ false = subst P (alike b a is) e in absurd (cc (same, alike_same a))
    by false is = is

-- how many places there are from a key's on
abbrev left_from : Places Value Value → Value → ℕ
left_from [] key = 0
left_from (place ∷ rest) key = cond (value_eq key place.0) (suc (length rest)) (left_from rest key)

abbrev pub left : Places Value Value → Option Value → ℕ
left places None = 0
left places (Some key) = left_from places key

module _ (key value : Value) (rest : Places Value Value) where
  apart : (place : Value × Option Value) (before : Places Value Value)
      → AllByRecursion (λ other. value_eq place.0 other ≡ false) (keys_of (before ++ (key, Some value) ∷ rest)) → value_eq key place.0 ≡ false
  apart place [] all = other_way place.0 key all.0
  apart place (p ∷ before) all = apart place before all.1

  -- no key stands twice, so behind the place of a key are the places behind it
  next-behind : (before : Places Value Value) → IsDistinct value_eq (keys_of (before ++ (key, Some value) ∷ rest))
      → next_after value_eq (before ++ (key, Some value) ∷ rest) key ≡ Ok (first rest)
  unfolding IsDistinct
  next-behind [] distinct = cond-true (value_eq key key) _ _ (alike_same key)
  next-behind (place ∷ before) distinct = cond-false (value_eq key place.0) _ _ (apart place before distinct.0) ∙ next-behind before distinct.1

  left-behind : (before : Places Value Value) → IsDistinct value_eq (keys_of (before ++ (key, Some value) ∷ rest))
      → left_from (before ++ (key, Some value) ∷ rest) key ≡ suc (length rest)
  unfolding IsDistinct
  left-behind [] distinct = cond-true (value_eq key key) _ _ (alike_same key)
  left-behind (place ∷ before) distinct = cond-false (value_eq key place.0) _ _ (apart place before distinct.0) ∙ left-behind before distinct.1

-- behind the place of a key that was never set nothing is found
after-unknown : (places : Places Value Value) (key : Value) → has_place value_eq places key ≡ false → None ≡ key_found (next_after value_eq places key)
after-unknown [] key e = refl
after-unknown (place ∷ rest) key e = by (value_eq key place.0) (after-unknown rest key) e
  where
    by : (b : Bool) → (has_place value_eq rest key ≡ false → None ≡ key_found (next_after value_eq rest key)) → cond b true (has_place value_eq rest key) ≡ false
        → None ≡ key_found (cond b (Ok (first rest)) (next_after value_eq rest key))
    by true later e = cc
    by false later e = later e

pub none-unknown : (places : Places Value Value) (after : Option (Bor Value)) → IsSomeAnd after (λ key. IsFalse (has_place value_eq places key.now))
    → None ≡ key_found (next value_eq places (option_copied after))
none-unknown places None h = absurd h
none-unknown places (Some key) h = after-unknown places key.now h

-- ---- the greatest key

max-along : (v : meant.Value) (n g : ℕ) → max n (greater_key v g) ≡ max (greater_key v n) g
max-along meant.nil n g = refl
max-along (meant.flag b) n g = refl
max-along (meant.num (pos m)) n g = omega arith
max-along (meant.num (negsuc m)) n g = refl
max-along (meant.str t) n g = refl
max-along (meant.table t) n g = refl
max-along (meant.func t) n g = refl
max-along (meant.native t) n g = refl
max-along (meant.channel t) n g = refl
max-along (meant.thread t) n g = refl
max-along (meant.datum t) n g = refl

-- places from the first pair on
record FoundAt (places : Places Value Value) (key : Value) : Type 0 where
  passed : Places Value Value
  value : Value
  rest : Places Value Value
  split : places ≡ passed ++ (key, Some value) ∷ rest
  same : (texts : List Bytes) → greatest_key (places_view texts places) ≡ greater_key (value_view texts key) (greatest_key (places_view texts rest))

found_at : (places : Places Value Value) (key : Value) → option_map (λ p. p.0) (first places) ≡ Some key → FoundAt places key
found_at [] key e = absurd (cc e)
found_at ((k, Some v) ∷ rest) key e =
    let is : k ≡ key = same_Some k key e in
    record {
      passed = [];
      value = v;
      rest = rest;
      split = ap (λ (o : Value). (o, Some v) ∷ rest) is;
      same = λ texts. ap (λ (o : Value). greater_key (value_view texts o) (greatest_key (places_view texts rest))) is;
    }
found_at ((k, None) ∷ rest) key e =
    let found = found_at rest key e in
    record {
      passed = (k, None) ∷ found.passed;
      value = found.value;
      rest = found.rest;
      split = ap (λ ps. (k, None) ∷ ps) found.split;
      same = found.same;
    }

none_found : (places : Places Value Value) → option_map (λ p. p.0) (first places) ≡ None → (texts : List Bytes) → greatest_key (places_view texts places) ≡ 0
none_found [] e texts = refl
none_found ((k, Some v) ∷ rest) e texts = absurd (cc e)
none_found ((k, None) ∷ rest) e texts = none_found rest e texts

-- ---- the walk

-- some places were passed, and the next key is the first one of the rest
pub record IsWalked (places : Places Value Value) (greatest : ℤ) (next : Option Value) : Type 0 where
  pub done : Places Value Value
  pub rest : Places Value Value
  pub so_far : ℕ
  pub split : places ≡ done ++ rest
  pub here : next ≡ option_map (λ p. p.0) (first rest)
  pub is : greatest ≡ pos so_far
  pub whole : (texts : List Bytes) → greatest_key (places_view texts places) ≡ max so_far (greatest_key (places_view texts rest))

pub walk-start : (places : Places Value Value) (greatest : ℤ) (first_key : Option Value) → greatest ≡ pos 0
    → first_key ≡ key_found (next value_eq places None) → IsWalked places greatest first_key
walk-start places greatest first_key none gives =
    record { done = []; rest = places; so_far = 0; split = refl; here = gives; is = none; whole = λ texts. omega arith }

module _ (places done rest : Places Value Value) (key : Value) (distinct : IsDistinct value_eq (keys_of places)) (split : places ≡ done ++ rest)
    (found : FoundAt rest key) where
  abbrev before : Places Value Value
  before = done ++ found.passed

  split-found : places ≡ before ++ (key, Some found.value) ∷ found.rest
  split-found = split ∙ (ap (λ ps. done ++ ps) found.split ∙ sym (append_assoc done found.passed ((key, Some found.value) ∷ found.rest)))

  distinct-found : IsDistinct value_eq (keys_of (before ++ (key, Some found.value) ∷ found.rest))
  distinct-found = let P : Places Value Value → Type 0 = λ ps. IsDistinct value_eq (keys_of ps) in subst P split-found distinct

  next-found : key_found (next_after value_eq places key) ≡ option_map (λ p. p.0) (first found.rest)
  next-found = ap (λ ps. key_found (next_after value_eq ps key)) split-found ∙ ap key_found (next-behind key found.value found.rest before distinct-found)

  left-found : left places (Some key) ≡ suc (length found.rest)
  left-found = ap (λ ps. left_from ps key) split-found ∙ left-behind key found.value found.rest before distinct-found

  found-within : suc (length found.rest) ≤ length rest
  found-within =
      let whole : length rest ≡ length found.passed + length ((key, Some found.value) ∷ found.rest) = ap length found.split ∙ length-append found.passed ((key, Some found.value) ∷ found.rest) in
      let one : length ((key, Some found.value) ∷ found.rest) ≡ suc (length found.rest) = refl in
      omega (arith, whole, one)

-- no more places are left than stand behind those that were passed
left-few : (places done rest : Places Value Value) (key : Option Value) → IsDistinct value_eq (keys_of places) → places ≡ done ++ rest
    → key ≡ option_map (λ p. p.0) (first rest) → left places key ≤ length rest
left-few places done rest None distinct split here = omega arith
left-few places done rest (Some key) distinct split here =
    let found = found_at rest key (sym here) in
    let is = left-found places done rest key distinct split found in
    let within = found-within places done rest key distinct split found in
    omega (arith, is, within)

module _ (places : Places Value Value) (greatest : ℤ) (key : Value) (distinct : IsDistinct value_eq (keys_of places)) (walked : IsWalked places greatest (Some key))
    (greater : ℤ) (behind : Option Value) (gives : behind ≡ key_found (next_after value_eq places key)) where
  abbrev found : FoundAt walked.rest key
  found = found_at walked.rest key (sym walked.here)

  abbrev passed : Places Value Value
  passed = before places walked.done walked.rest key distinct walked.split found ++ (key, Some found.value) ∷ []

  split-behind : places ≡ passed ++ found.rest
  split-behind =
      split-found places walked.done walked.rest key distinct walked.split found
      ∙ sym (append_assoc (before places walked.done walked.rest key distinct walked.split found) ((key, Some found.value) ∷ []) found.rest)

  here-behind : behind ≡ option_map (λ p. p.0) (first found.rest)
  here-behind = gives ∙ next-found places walked.done walked.rest key distinct walked.split found

  pub walk-step : ((texts : List Bytes) (n : ℕ) → greatest ≡ pos n → greater ≡ pos (greater_key (value_view texts key) n)) → IsWalked places greater behind
  walk-step grows =
      let n = walked.so_far in
      record {
        done = passed;
        rest = found.rest;
        so_far = greater_key (value_view [] key) n;
        split = split-behind;
        here = here-behind;
        is = grows [] n walked.is;
        whole =
            λ texts.
            let more = greatest_key (places_view texts found.rest) in
            let one = grows [] n walked.is in
            let other = grows texts n walked.is in
            let same : greater_key (value_view texts key) n ≡ greater_key (value_view [] key) n = omega (arith, ints, one, other) in
            walked.whole texts ∙ (ap (λ k. max n k) (found.same texts) ∙ (max-along (value_view texts key) n more ∙ ap (λ k. max k more) same));
      }

  pub walk-smaller : left places behind < left places (Some key)
  walk-smaller =
      let few = left-few places passed found.rest behind distinct split-behind here-behind in
      let is = left-found places walked.done walked.rest key distinct walked.split found in
      omega (arith, few, is)

pub walk-end : (places : Places Value Value) (greatest : ℤ) → IsWalked places greatest None → (texts : List Bytes) → greatest ≡ pos (greatest_key (places_view texts places))
walk-end places greatest walked texts =
    let none = none_found walked.rest (sym walked.here) texts in
    let whole = walked.whole texts in
    let is = walked.is in
    let all : greatest_key (places_view texts places) ≡ walked.so_far = whole ∙ (ap (λ k. max walked.so_far k) none ∙ omega arith) in
    is ∙ ap (λ (n : ℕ). pos n) (sym all)
