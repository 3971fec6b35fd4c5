-- What the definitions of a table say in the words of its keys and values, each at its place.
use Rattle.std.proofs.Common.{◌≡◌, ℕ, zero, suc, ◌+◌, ◌<◌, Bool, true, false, cond, List, [], ◌∷◌, ◌++◌, length, drop, set, Option, None, Some, Ok, refl, sym, ap, ◌∙◌, slice_get, get_or, is_some, arith}
use Rattle.std.proofs.lemmas.Option.{same_Some}
use Rattle.std.specs.Cmp.{IsEquivalence}
use Rattle.std.specs.List.{zip, AllByRecursion, IsDistinct}
use Rattle.std.specs.Map.{keys_of}
use Rattle.std.specs.Option.{option_map, option_map_or}
use Rattle.lua_table.specs.Places.{index_of}
use Rattle.lua_table.specs.Table.{Places, first, get, set as set_key, clear_key, has_place, next_after}

pub length-zip : {K V : Type 0} → (keys : List K) (values : List V) → length keys ≡ length values → length (zip keys values) ≡ length keys
length-zip [] values e = refl
length-zip (key ∷ keys) [] e = absurd (omega arith)
length-zip (key ∷ keys) (value ∷ values) e = ap suc (length-zip keys values (omega arith))

pub keys_of-zip : {K V : Type 0} → (keys : List K) (values : List V) → length keys ≡ length values → keys_of (zip keys values) ≡ keys
keys_of-zip [] values e = refl
keys_of-zip (key ∷ keys) [] e = absurd (omega arith)
keys_of-zip (key ∷ keys) (value ∷ values) e = ap (λ ks. key ∷ ks) (keys_of-zip keys values (omega arith))

pub slice_get-zip : {K V : Type 0} → (keys : List K) (values : List V) (n : ℕ) (key : K) (d : V) → length keys ≡ length values → slice_get keys n ≡ Some key
    → slice_get (zip keys values) n ≡ Some (key, get_or values n d)
slice_get-zip [] values n key d e there = cc
slice_get-zip (k ∷ keys) [] n key d e there = absurd (omega arith)
slice_get-zip (k ∷ keys) (value ∷ values) zero key d e there = cc
slice_get-zip (k ∷ keys) (value ∷ values) (suc n) key d e there = slice_get-zip keys values n key d (omega arith) there

module _ {K : Type 0} (same : K → K → Bool) (key : K) where
  by-place : {R : Type 0} → (keys : List K) (other : K) (place : ℕ) → index_of same key (other ∷ keys) ≡ Some place
      → (same key other ≡ true → zero ≡ place → R) → ((n : ℕ) → same key other ≡ false → index_of same key keys ≡ Some n → suc n ≡ place → R) → R
  by-place {R} keys other place e here later = by (same key other) refl (index_of same key keys) refl e
    where
      by : (b : Bool) → same key other ≡ b → (r : Option ℕ) → index_of same key keys ≡ r → cond b (Some 0) (option_map (λ n. suc n) r) ≡ Some place → R
      by true t r is e = here t (same_Some 0 place e)
      by false t None is e = cc
      by false t (Some n) is e = later n t is (same_Some (suc n) place e)

  by-absence : (keys : List K) (other : K) → index_of same key (other ∷ keys) ≡ None → (same key other ≡ false) × (index_of same key keys ≡ None)
  by-absence keys other e = by (same key other) refl (index_of same key keys) refl e
    where
      by : (b : Bool) → same key other ≡ b → (r : Option ℕ) → index_of same key keys ≡ r → cond b (Some 0) (option_map (λ n. suc n) r) ≡ None
          → (same key other ≡ false) × (index_of same key keys ≡ None)
      by true t r is e = cc
      by false t None is e = (t, is)
      by false t (Some n) is e = cc

module _ {K V : Type 0} (same : K → K → Bool) (key : K) where
  -- the value of a key is the one at its place
  pub get-found : (keys : List K) (values : List (Option V)) (place : ℕ) → length keys ≡ length values → index_of same key keys ≡ Some place
      → get same (zip keys values) key ≡ get_or values place None
  get-found [] values place l e = cc
  get-found (other ∷ keys) [] place l e = absurd (omega arith)
  get-found (other ∷ keys) (value ∷ values) place l e = by-place same key keys other place e
      (λ t is. rw (t, ← is) refl)
      (λ n t is next. rw (t, ← next) (get-found keys values n (omega arith) is))

  pub get-absent : (keys : List K) (values : List (Option V)) → index_of same key keys ≡ None → get same (zip keys values) key ≡ None
  get-absent [] values e = refl
  get-absent (other ∷ keys) [] e = refl
  get-absent (other ∷ keys) (value ∷ values) e =
      let apart = by-absence same key keys other e in
      rw apart.0 (get-absent keys values apart.1)

  -- a key has a place where it is found
  pub has_place-zip : (keys : List K) (values : List (Option V)) → length keys ≡ length values → has_place same (zip keys values) key ≡ is_some (index_of same key keys)
  has_place-zip [] values l = refl
  has_place-zip (other ∷ keys) [] l = absurd (omega arith)
  has_place-zip (other ∷ keys) (value ∷ values) l = by (same key other) (index_of same key keys) (has_place-zip keys values (omega arith))
    where
      by : (b : Bool) (r : Option ℕ) → has_place same (zip keys values) key ≡ is_some r
          → cond b true (has_place same (zip keys values) key) ≡ is_some (cond b (Some 0) (option_map (λ n. suc n) r))
      by true r e = refl
      by false None e = e
      by false (Some n) e = e

  pub absent-by : (keys : List K) (values : List (Option V)) → length keys ≡ length values → has_place same (zip keys values) key ≡ false → index_of same key keys ≡ None
  absent-by keys values l e = here (index_of same key keys) (sym (has_place-zip keys values l) ∙ e)
    where
      here : (r : Option ℕ) → is_some r ≡ false → r ≡ None
      here None e = refl
      here (Some n) e = cc

  pub set-found : (keys : List K) (values : List (Option V)) (value : V) (place : ℕ) → length keys ≡ length values → index_of same key keys ≡ Some place
      → zip keys (set values place (Some value)) ≡ set_key same (zip keys values) key value
  set-found [] values value place l e = cc
  set-found (other ∷ keys) [] value place l e = absurd (omega arith)
  set-found (other ∷ keys) (v ∷ values) value place l e = by-place same key keys other place e
      (λ t is. rw (t, ← is) refl)
      (λ n t is next. rw (t, ← next) (ap (λ rest. (other, v) ∷ rest) (set-found keys values value n (omega arith) is)))

  pub set-absent : (keys : List K) (values : List (Option V)) (value : V) → length keys ≡ length values → index_of same key keys ≡ None
      → zip (keys ++ key ∷ []) (values ++ Some value ∷ []) ≡ set_key same (zip keys values) key value
  set-absent [] [] value l e = refl
  set-absent [] (v ∷ values) value l e = absurd (omega arith)
  set-absent (other ∷ keys) [] value l e = absurd (omega arith)
  set-absent (other ∷ keys) (v ∷ values) value l e =
      let apart = by-absence same key keys other e in
      rw apart.0 (ap (λ rest. (other, v) ∷ rest) (set-absent keys values value (omega arith) apart.1))

  pub clear_key-found : (keys : List K) (values : List (Option V)) (place : ℕ) → length keys ≡ length values → index_of same key keys ≡ Some place
      → zip keys (set values place None) ≡ clear_key same (zip keys values) key
  clear_key-found [] values place l e = cc
  clear_key-found (other ∷ keys) [] place l e = absurd (omega arith)
  clear_key-found (other ∷ keys) (v ∷ values) place l e = by-place same key keys other place e
      (λ t is. rw (t, ← is) refl)
      (λ n t is next. rw (t, ← next) (ap (λ rest. (other, v) ∷ rest) (clear_key-found keys values n (omega arith) is)))

  -- nothing changes where the key has no place
  pub clear_key-absent : (keys : List K) (values : List (Option V)) → index_of same key keys ≡ None → clear_key same (zip keys values) key ≡ zip keys values
  clear_key-absent [] values e = refl
  clear_key-absent (other ∷ keys) [] e = refl
  clear_key-absent (other ∷ keys) (v ∷ values) e =
      let apart = by-absence same key keys other e in
      rw apart.0 (ap (λ rest. (other, v) ∷ rest) (clear_key-absent keys values apart.1))

  -- what comes after the key at a place
  pub next_after-found : (keys : List K) (values : List (Option V)) (place : ℕ) → length keys ≡ length values → index_of same key keys ≡ Some place
      → next_after same (zip keys values) key ≡ Ok (first (drop (suc place) (zip keys values)))
  next_after-found [] values place l e = cc
  next_after-found (other ∷ keys) [] place l e = absurd (omega arith)
  next_after-found (other ∷ keys) (v ∷ values) place l e = by-place same key keys other place e
      (λ t is. rw (t, ← is) refl)
      (λ n t is next. rw (t, ← next) (next_after-found keys values n (omega arith) is))

module _ {K V : Type 0} where
  -- the first pair with a value from an index on, by the place at that index
  pub first-drop : (places : Places K V) (n : ℕ) (key : K) (value : Option V) → slice_get places n ≡ Some (key, value)
      → first (drop n places) ≡ option_map_or (λ v. Some (key, v)) value (first (drop (n + 1) places))
  first-drop [] n key value e = cc
  first-drop (place ∷ rest) zero key value e =
      let same_place : place ≡ (key, value) = cc in
      rw same_place refl
  first-drop (place ∷ rest) (suc n) key value e =
      let step : n + 1 ≡ suc n = omega arith in
      let later : suc n + 1 ≡ suc (suc n) = omega arith in
      first-drop rest n key value e ∙ ap (λ k. option_map_or (λ v. Some (key, v)) value (first (drop k rest))) step
      ∙ sym (ap (λ k. option_map_or (λ v. Some (key, v)) value (first (drop k (place ∷ rest)))) later)

module _ {K V : Type 0} (same : K → K → Bool) (laws : IsEquivalence same) where
  all-set : (P : K → Type 0) (places : Places K V) (key : K) (value : V) → AllByRecursion P (keys_of places) → P key → AllByRecursion P (keys_of (set_key same places key value))
  all-set P [] key value all own = (own, tt)
  all-set P (place ∷ rest) key value all own = by (same key place.0) (all-set P rest key value all.1 own)
    where
      by : (b : Bool) → AllByRecursion P (keys_of (set_key same rest key value)) → AllByRecursion P (keys_of (cond b ((place.0, Some value) ∷ rest) (place ∷ set_key same rest key value)))
      by true later = all
      by false later = (all.0, later)

  -- no key stands twice after a value is set, nor after one is taken away
  pub distinct-set : (places : Places K V) (key : K) (value : V) → IsDistinct same (keys_of places) → IsDistinct same (keys_of (set_key same places key value))
  unfolding IsDistinct
  distinct-set [] key value distinct = (tt, tt)
  distinct-set (place ∷ rest) key value distinct = by (same key place.0) refl (distinct-set rest key value distinct.1)
    where
      by : (b : Bool) → same key place.0 ≡ b → IsDistinct same (keys_of (set_key same rest key value))
          → IsDistinct same (keys_of (cond b ((place.0, Some value) ∷ rest) (place ∷ set_key same rest key value)))
      by true t later = distinct
      by false t later = (all-set (λ other. same place.0 other ≡ false) rest key value distinct.0 (laws.symm place.0 key ∙ t), later)

  keys-clear_key : (places : Places K V) (key : K) → keys_of (clear_key same places key) ≡ keys_of places
  keys-clear_key [] key = refl
  keys-clear_key (place ∷ rest) key = by (same key place.0) (keys-clear_key rest key)
    where
      by : (b : Bool) → keys_of (clear_key same rest key) ≡ keys_of rest → keys_of (cond b ((place.0, None) ∷ rest) (place ∷ clear_key same rest key)) ≡ place.0 ∷ keys_of rest
      by true later = refl
      by false later = ap (λ keys. place.0 ∷ keys) later

  pub distinct-clear_key : (places : Places K V) (key : K) → IsDistinct same (keys_of places) → IsDistinct same (keys_of (clear_key same places key))
  distinct-clear_key places key distinct = rw (keys-clear_key places key) distinct

-- a place without a value is passed
pub first-cleared : {K V : Type 0} → (keys : List K) (values : List (Option V)) (n : ℕ) → length keys ≡ length values → n < length keys → get_or values n None ≡ None
    → first (drop n (zip keys values)) ≡ first (drop (suc n) (zip keys values))
first-cleared [] values n l within none = absurd (omega arith)
first-cleared (key ∷ keys) [] n l within none = absurd (omega arith)
first-cleared (key ∷ keys) (value ∷ values) zero l within none = rw none refl
first-cleared (key ∷ keys) (value ∷ values) (suc n) l within none = first-cleared keys values n (omega arith) (omega arith) none
