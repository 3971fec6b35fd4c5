-- Walking a table by `next` passes its pairs, each once and in order.
use Rattle.std.proofs.Common.{◌≡◌, ℕ, ◌+◌, ◌-◌, ◌<◌, ◌≤◌, Bool, true, false, cond, List, [], ◌∷◌, ◌++◌, length, Option, None, Some, Ok, Bor, refl, sym, ap, subst, ◌∙◌, append-nil, append_assoc, arith}
use Rattle.std.specs.List.{AllByRecursion, IsDistinct}
use Rattle.std.specs.Map.{keys_of}
use Rattle.std.specs.Prelude.{IsSomeAnd, IsFalse}
use Rattle.std.specs.Option.{option_copied}
use Rattle.std.proofs.lemmas.List.{length-append}
use Rattle.std.proofs.lemmas.Option.{same_Some}
use Rattle.lua_table.specs.Table.{Places, first, has_place, next, next_after}
use Rattle.lua_heap.specs.declared.value.Value.{Value}
use Rattle.lua_heap.specs.Alike.{value_eq, alike, alike_same}
use Rattle.crossing.proofs.Tests.{then_first, else_second}
use Rattle.crossing.specs.Pairs.{with_pair, pairs_in, pair_found}

-- ---- the place of a key

other_way : (a b : Value) → value_eq a b ≡ false → value_eq b a ≡ false
other_way a b e = by (value_eq b a) refl
  where
    by : (c : Bool) → value_eq b a ≡ c → value_eq b a ≡ false
    by true is = let P : Value → Type 0 = λ v. value_eq a v ≡ false in let same : value_eq a a ≡ false = subst P (alike b a is) e in absurd (cc (same, alike_same a))
    by false is = is

-- no key stands twice, so behind the place of a key are the places behind it
next-behind : (done : Places Value Value) (key value : Value) (rest : Places Value Value)
    → IsDistinct value_eq (keys_of (done ++ (key, Some value) ∷ rest)) → next_after value_eq (done ++ (key, Some value) ∷ rest) key ≡ Ok (first rest)
unfolding IsDistinct
next-behind [] key value rest distinct = then_first (value_eq key key) _ _ (alike_same key)
next-behind (place ∷ done) key value rest distinct =
    else_second (value_eq key place.0) _ _ (other_way place.0 key (at done distinct.0)) ∙ next-behind done key value rest distinct.1
  where
    at : (before : Places Value Value) → AllByRecursion (λ other. value_eq place.0 other ≡ false) (keys_of (before ++ (key, Some value) ∷ rest)) → value_eq place.0 key ≡ false
    at [] all = all.0
    at (p ∷ before) all = at before all.1

-- behind the place of a key that was never set nothing is found
after-unknown : (places : Places Value Value) (key : Value) → has_place value_eq places key ≡ false → None ≡ pair_found (next_after value_eq places key)
after-unknown [] key e = refl
after-unknown (place ∷ rest) key e = by (value_eq key place.0) (after-unknown rest key) e
  where
    by : (b : Bool) → (has_place value_eq rest key ≡ false → None ≡ pair_found (next_after value_eq rest key)) → cond b true (has_place value_eq rest key) ≡ false
        → None ≡ pair_found (cond b (Ok (first rest)) (next_after value_eq rest key))
    by true later e = cc
    by false later e = later e

pub none-unknown : (places : Places Value Value) (after : Option (Bor Value)) → IsSomeAnd after (λ key. IsFalse (has_place value_eq places key.now))
    → None ≡ pair_found (next value_eq places (option_copied after))
none-unknown places None h = absurd h
none-unknown places (Some key) h = after-unknown places key.now h

-- ---- pairs

pairs_in-append : {K V : Type 0} → (xs ys : Places K V) → pairs_in (xs ++ ys) ≡ pairs_in xs ++ pairs_in ys
pairs_in-append [] ys = refl
pairs_in-append {K} {V} (place ∷ xs) ys = ap (λ ps. with_pair place.0 place.1 ps) (pairs_in-append xs ys) ∙ by place.1
  where
    by : (o : Option V) → with_pair place.0 o (pairs_in xs ++ pairs_in ys) ≡ with_pair place.0 o (pairs_in xs) ++ pairs_in ys
    by None = refl
    by (Some v) = refl

few-more : {K V : Type 0} → (key : K) (o : Option V) (pairs : List (K × V)) (n : ℕ) → length pairs ≤ n → length (with_pair key o pairs) ≤ n + 1
few-more key None pairs n few = omega (arith, few)
few-more key (Some v) pairs n few = omega (arith, few)

pairs_in-few : {K V : Type 0} → (xs : Places K V) → length (pairs_in xs) ≤ length xs
pairs_in-few [] = omega arith
pairs_in-few (place ∷ xs) = let more = few-more place.0 place.1 (pairs_in xs) (length xs) (pairs_in-few xs) in omega (arith, more)

-- places from the first pair on
record FoundAt {K V : Type 0} (places : Places K V) (pair : K × V) : Type 0 where
  passed : Places K V
  rest : Places K V
  split : places ≡ passed ++ (pair.0, Some pair.1) ∷ rest
  none : pairs_in passed ≡ []

found_at : {K V : Type 0} → (places : Places K V) (pair : K × V) → first places ≡ Some pair → FoundAt places pair
found_at [] pair e = absurd (cc e)
found_at {K} {V} ((key, Some value) ∷ rest) pair e =
    record { passed = []; rest = rest; split = ap (λ (p : K × V). (p.0, Some p.1) ∷ rest) (same_Some (key, value) pair e); none = refl }
found_at ((key, None) ∷ rest) pair e =
    let found = found_at rest pair e in
    record { passed = (key, None) ∷ found.passed; rest = found.rest; split = ap (λ ps. (key, None) ∷ ps) found.split; none = found.none }

none_found : {K V : Type 0} → (places : Places K V) → first places ≡ None → pairs_in places ≡ []
none_found [] e = refl
none_found ((key, Some value) ∷ rest) e = absurd (cc e)
none_found ((key, None) ∷ rest) e = none_found rest e

-- ---- the walk

-- some places were passed, whose pairs were taken, and the next pair is the first one of the rest
pub record IsWalked (places : Places Value Value) (pairs : List (Value × Value)) (next : Option (Value × Value)) : Type 0 where
  pub done : Places Value Value
  pub rest : Places Value Value
  pub split : places ≡ done ++ rest
  pub taken : pairs ≡ pairs_in done
  pub here : next ≡ first rest

pub walk-step : (places : Places Value Value) (pairs more : List (Value × Value)) (pair : Value × Value) (next : Option (Value × Value))
    → IsDistinct value_eq (keys_of places) → IsWalked places pairs (Some pair) → next ≡ pair_found (next_after value_eq places pair.0)
    → more ≡ pairs ++ pair ∷ [] → IsWalked places more next
walk-step places pairs more pair next distinct walked gives grown =
    let found = found_at walked.rest pair (sym walked.here) in
    let before = walked.done ++ found.passed in
    let split : places ≡ before ++ (pair.0, Some pair.1) ∷ found.rest =
    walked.split ∙ ap (λ ps. walked.done ++ ps) found.split ∙ sym (append_assoc walked.done found.passed ((pair.0, Some pair.1) ∷ found.rest)) in
    let P : Places Value Value → Type 0 = λ ps. IsDistinct value_eq (keys_of ps) in
    let Q : Places Value Value → Type 0 = λ ps. next ≡ pair_found (next_after value_eq ps pair.0) in
    record {
      done = before ++ (pair.0, Some pair.1) ∷ [];
      rest = found.rest;
      split = split ∙ sym (append_assoc before ((pair.0, Some pair.1) ∷ []) found.rest);
      taken =
          grown ∙ ap (λ ps. ps ++ pair ∷ []) (walked.taken ∙ sym (append-nil (pairs_in walked.done)) ∙ ap (λ ps. pairs_in walked.done ++ ps) (sym found.none)
          ∙ sym (pairs_in-append walked.done found.passed)) ∙ sym (pairs_in-append before ((pair.0, Some pair.1) ∷ []));
      here = subst Q split gives ∙ ap pair_found (next-behind before pair.0 pair.1 found.rest (subst P split distinct));
    }

pub walk-end : (places : Places Value Value) (pairs : List (Value × Value)) → IsWalked places pairs None → pairs ≡ pairs_in places
walk-end places pairs walked =
    walked.taken ∙ sym (append-nil (pairs_in walked.done)) ∙ ap (λ ps. pairs_in walked.done ++ ps) (sym (none_found walked.rest (sym walked.here)))
    ∙ sym (pairs_in-append walked.done walked.rest) ∙ ap pairs_in (sym walked.split)

walk-goes_on : (places : Places Value Value) (pairs : List (Value × Value)) (pair : Value × Value) → IsWalked places pairs (Some pair) → length pairs < length places
walk-goes_on places pairs pair walked =
    let found = found_at walked.rest pair (sym walked.here) in
    let few = pairs_in-few walked.done in
    let taken : length pairs ≡ length (pairs_in walked.done) = ap length walked.taken in
    let whole : length places ≡ length walked.done + length walked.rest = ap length walked.split ∙ length-append walked.done walked.rest in
    let rest : length walked.rest ≡ length found.passed + length ((pair.0, Some pair.1) ∷ found.rest) = ap length found.split ∙ length-append found.passed ((pair.0, Some pair.1) ∷ found.rest) in
    let one : length ((pair.0, Some pair.1) ∷ found.rest) ≡ length found.rest + 1 = omega arith in
    omega (arith, few, taken, whole, rest, one)

-- what is left to walk gets less
pub walk-smaller : (places : Places Value Value) (pairs more : List (Value × Value)) (pair : Value × Value) → IsWalked places pairs (Some pair) → more ≡ pairs ++ pair ∷ []
    → length places - length more < length places - length pairs
walk-smaller places pairs more pair walked grown =
    let left = walk-goes_on places pairs pair walked in
    let size : length more ≡ length pairs + 1 = ap length grown ∙ length-append pairs (pair ∷ []) in
    omega (arith, left, size)
