-- What a write does to the values at the positions, and which border is the least one.
use Rattle.std.proofs.Common.{◌≡◌, ℕ, zero, suc, ◌+◌, ◌<◌, ◌≤◌, Bool, true, false, cond, [], ◌∷◌, length, Option, None, Some, refl, sym, ap, ◌∙◌, is_some, IsSome, IsNone, IsTrue, arith, ◌↔◌}
use Rattle.std.proofs.lemmas.Option.{same_Some}
use Rattle.std.specs.Cmp.{IsEquivalence}
use Rattle.std.specs.Option.{option_and_then}
use Rattle.lua_table.specs.Table.{Places, get, set, clear_key, value_at, run_length, border, IsFilledTo, IsLeastBorder}

-- what the keys of a table keep: equality is an equivalence and no more than sameness, and `number` turns `at` round
pub record Lawful {K : Type 0} (same : K → K → Bool) (at : ℕ → Option K) (number : K → Option ℕ) : Type 0 where
  pub equivalence : IsEquivalence same
  pub alike : (a b : K) → IsTrue (same a b) → a ≡ b
  pub inverse : (key : K) (n : ℕ) → (number key ≡ Some n) ↔ (at n ≡ Some key)

-- the key at another position than that of a key is not equal to it
pub apart_from : {K : Type 0} {same : K → K → Bool} {at : ℕ → Option K} {number : K → Option ℕ} → Lawful same at number
    → (key other : K) (n : ℕ) → at n ≡ Some other → (number key ≡ Some n → ⊥) → same other key ≡ false
apart_from {K} {same} {at} {number} lawful key other n e apart = by (same other key) refl
  where
    by : (b : Bool) → same other key ≡ b → b ≡ false
    by true h = absurd (apart ((lawful.inverse key n).1 (e ∙ ap (λ k. Some k) (lawful.alike other key h))))
    by false h = refl

module _ {K V : Type 0} (same : K → K → Bool) (laws : IsEquivalence same) where
  -- a key has the value that it was set to last, and the other keys keep theirs
  pub get-set : (places : Places K V) (key : K) (value : V) (other : K) → get same (set same places key value) other ≡ cond (same other key) (Some value) (get same places other)
  get-set [] key value other = refl
  get-set (place ∷ rest) key value other = by (same key place.0) refl (same other place.0) refl (get-set rest key value other)
    where
      by : (b : Bool) → same key place.0 ≡ b → (c : Bool) → same other place.0 ≡ c
          → get same (set same rest key value) other ≡ cond (same other key) (Some value) (get same rest other)
          → get same (cond b ((place.0, Some value) ∷ rest) (place ∷ set same rest key value)) other ≡ cond (same other key) (Some value) (cond c place.1 (get same rest other))
      by true e c o later =
          let alike : same other key ≡ c = laws.symm other key ∙ laws.congr key place.0 other e ∙ laws.symm place.0 other ∙ o in
          rw (alike, o) (here c)
        where
          here : (c : Bool) → cond c (Some value) (get same rest other) ≡ cond c (Some value) (cond c place.1 (get same rest other))
          here true = refl
          here false = refl
      by false e true o later =
          let apart : same other key ≡ false = laws.congr other place.0 key o ∙ laws.symm place.0 key ∙ e in
          rw (o, apart) refl
      by false e false o later = rw o later

  -- a cleared key has no value, and the other keys keep theirs
  pub get-clear_key : (places : Places K V) (key other : K) → get same (clear_key same places key) other ≡ cond (same other key) None (get same places other)
  get-clear_key [] key other = here (same other key)
    where
      here : (b : Bool) → ◌≡◌ {A = Option V} None (cond b None None)
      here true = refl
      here false = refl
  get-clear_key (place ∷ rest) key other = by (same key place.0) refl (same other place.0) refl (get-clear_key rest key other)
    where
      by : (b : Bool) → same key place.0 ≡ b → (c : Bool) → same other place.0 ≡ c
          → get same (clear_key same rest key) other ≡ cond (same other key) None (get same rest other)
          → get same (cond b ((place.0, None) ∷ rest) (place ∷ clear_key same rest key)) other ≡ cond (same other key) None (cond c place.1 (get same rest other))
      by true e c o later =
          let alike : same other key ≡ c = laws.symm other key ∙ laws.congr key place.0 other e ∙ laws.symm place.0 other ∙ o in
          rw (alike, o) (here c)
        where
          here : (c : Bool) → cond c None (get same rest other) ≡ cond c None (cond c place.1 (get same rest other))
          here true = refl
          here false = refl
      by false e true o later =
          let apart : same other key ≡ false = laws.congr other place.0 key o ∙ laws.symm place.0 key ∙ e in
          rw (o, apart) refl
      by false e false o later = rw o later

  -- the places without the first one of a key
  without : Places K V → K → Places K V
  without [] key = []
  without (place ∷ rest) key = cond (same key place.0) rest (place ∷ without rest key)

  length-without : (places : Places K V) (key : K) → IsSome (get same places key) → suc (length (without places key)) ≡ length places
  unfolding without
  length-without [] key some = cc
  length-without (place ∷ rest) key some = by (same key place.0) some (length-without rest key)
    where
      by : (b : Bool) → IsSome (cond b place.1 (get same rest key)) → (IsSome (get same rest key) → suc (length (without rest key)) ≡ length rest)
          → suc (length (cond b rest (place ∷ without rest key))) ≡ suc (length rest)
      by true some later = refl
      by false some later = ap suc (later some)

  get-without : (places : Places K V) (key other : K) → same other key ≡ false → get same (without places key) other ≡ get same places other
  unfolding without
  get-without [] key other apart = refl
  get-without (place ∷ rest) key other apart = by (same key place.0) refl (get-without rest key other apart)
    where
      by : (b : Bool) → same key place.0 ≡ b → get same (without rest key) other ≡ get same rest other
          → get same (cond b rest (place ∷ without rest key)) other ≡ cond (same other place.0) place.1 (get same rest other)
      by true e later =
          let far : same other place.0 ≡ false = laws.symm other place.0 ∙ sym (laws.congr key place.0 other e) ∙ laws.symm key other ∙ apart in
          rw far refl
      by false e later = ap (cond (same other place.0) place.1) later

module _ {K V : Type 0} {same : K → K → Bool} {at : ℕ → Option K} {number : K → Option ℕ} (lawful : Lawful same at number) where
  pub value_at-set-other : (places : Places K V) (key : K) (value : V) (n : ℕ) → (number key ≡ Some n → ⊥) → value_at same at (set same places key value) n ≡ value_at same at places n
  value_at-set-other places key value n apart = by (at n) refl
    where
      by : (o : Option K) → at n ≡ o → option_and_then (get same (set same places key value)) o ≡ option_and_then (get same places) o
      by None e = refl
      by (Some other) e = get-set same lawful.equivalence places key value other ∙ ap (λ b. cond b (Some value) (get same places other)) (apart_from lawful key other n e apart)

  pub value_at-clear_key-other : (places : Places K V) (key : K) (n : ℕ) → (number key ≡ Some n → ⊥) → value_at same at (clear_key same places key) n ≡ value_at same at places n
  value_at-clear_key-other places key n apart = by (at n) refl
    where
      by : (o : Option K) → at n ≡ o → option_and_then (get same (clear_key same places key)) o ≡ option_and_then (get same places) o
      by None e = refl
      by (Some other) e = get-clear_key same lawful.equivalence places key other ∙ ap (λ b. cond b None (get same places other)) (apart_from lawful key other n e apart)

  pub value_at-set-own : (places : Places K V) (key : K) (value : V) (n : ℕ) → number key ≡ Some n → value_at same at (set same places key value) n ≡ Some value
  value_at-set-own places key value n own =
      ap (option_and_then (get same (set same places key value))) ((lawful.inverse key n).0 own)
      ∙ get-set same lawful.equivalence places key value key ∙ ap (λ b. cond b (Some value) (get same places key)) (lawful.equivalence.refl key)

  pub value_at-clear_key-own : (places : Places K V) (key : K) (n : ℕ) → number key ≡ Some n → value_at same at (clear_key same places key) n ≡ None
  value_at-clear_key-own places key n own =
      ap (option_and_then (get same (clear_key same places key))) ((lawful.inverse key n).0 own)
      ∙ get-clear_key same lawful.equivalence places key key ∙ ap (λ b. cond b None (get same places key)) (lawful.equivalence.refl key)

  -- no more positions are filled than there are places
  pub IsFilledTo-le : (n : ℕ) (places : Places K V) → IsFilledTo same at places n → n ≤ length places
  unfolding without
  IsFilledTo-le zero places filled = omega arith
  IsFilledTo-le (suc n) places filled = by (at (suc n)) refl (filled (suc n) (omega arith) (omega arith)) (λ rest. IsFilledTo-le n rest)
    where
      by : (o : Option K) → at (suc n) ≡ o → IsSome (option_and_then (get same places) o) → ((rest : Places K V) → IsFilledTo same at rest n → n ≤ length rest) → suc n ≤ length places
      by None e some later = cc
      by (Some key) e some later =
          let own : number key ≡ Some (suc n) = (lawful.inverse key (suc n)).1 e in
          let rest = without same lawful.equivalence places key in
          let kept : IsFilledTo same at rest n = λ k low high. still k low high own in
          omega (arith, later rest kept, length-without same lawful.equivalence places key some)
        where
          still : (k : ℕ) → 1 ≤ k → k ≤ n → number key ≡ Some (suc n) → IsSome (value_at same at (without same lawful.equivalence places key) k)
          still k low high own = here (at k) refl (filled k low (omega arith))
            where
              here : (o : Option K) → at k ≡ o → IsSome (option_and_then (get same places) o) → IsSome (option_and_then (get same (without same lawful.equivalence places key)) o)
              here None e some = some
              here (Some other) e some =
                  let apart : number key ≡ Some k → ⊥ = λ same_number. differ (same_Some (suc n) k (sym own ∙ same_number)) in
                  rw (get-without same lawful.equivalence places key other (apart_from lawful key other k e apart)) some
                where
                  differ : suc n ≡ k → ⊥
                  differ e = omega arith

-- positions count from 1
pub one-le-number : {K : Type 0} {same : K → K → Bool} {at : ℕ → Option K} {number : K → Option ℕ} (last : ℕ) → Lawful same at number
    → ((n : ℕ) → IsSome (at n) ↔ ((1 ≤ n) × (n ≤ last))) → (key : K) (n : ℕ) → number key ≡ Some n → 1 ≤ n
one-le-number last lawful numbered key n own = ((numbered n).0 (ap is_some ((lawful.inverse key n).0 own))).0

module _ {K V : Type 0} (same : K → K → Bool) (at : ℕ → Option K) where
  -- a run of values that ends at a gap is as long as it is
  run_length-run : (places : Places K V) (among count n : ℕ) → ((k : ℕ) → n ≤ k → k < n + count → IsSome (value_at same at places k))
      → IsNone (value_at same at places (n + count)) → count ≤ among → run_length same at places n among ≡ count
  run_length-run places zero count n filled gap within = omega arith
  run_length-run places (suc among) zero n filled gap within =
      let here : n + 0 ≡ n = omega arith in
      let none : is_some (value_at same at places n) ≡ false = rw here at gap in
      rw none refl
  run_length-run places (suc among) (suc count) n filled gap within =
      let some : is_some (value_at same at places n) ≡ true = filled n (omega arith) (omega arith) in
      let step : n + suc count ≡ suc n + count = omega arith in
      let rest : run_length same at places (suc n) among ≡ count =
      run_length-run places among count (suc n) (λ k low high. filled k (omega arith) (omega arith)) (rw step at gap) (omega arith) in
      rw some (ap suc rest)

  -- a table has one least border, the count of the values up to the first gap
  pub border-IsLeastBorder : (places : Places K V) (n : ℕ) → IsLeastBorder same at places n → n ≤ length places → border same at places ≡ n
  border-IsLeastBorder places n least within =
      let step : n + 1 ≡ 1 + n = omega arith in
      run_length-run places (length places) n 1 (λ k low high. least.filled k low (omega arith)) (rw step at least.open_after) within
