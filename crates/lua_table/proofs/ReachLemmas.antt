-- What a write does to the positions that have had values, and which border they have.
use Rattle.std.proofs.Common.{◌≡◌, ◌≢◌, ℕ, zero, suc, ◌+◌, ◌<◌, ◌≤◌, Bool, true, false, cond, List, [], ◌∷◌, length, Option, None, Some, refl, sym, ap, ◌∙◌, ◌⊎◌, inl, inr, true≢false, is_some, is_none, IsSome, IsNone, subst, arith}
use Rattle.std.proofs.lemmas.Bool.{cases_eq, cases_lt}
use Rattle.std.proofs.lemmas.Option.{same_Some, none-some}
use Rattle.std.specs.Cmp.{IsEquivalence}
use Rattle.std.specs.List.{IsDistinct}
use Rattle.std.specs.Map.{keys_of}
use Rattle.std.specs.Option.{option_and_then, option_map_or}
use Rattle.lua_table.proofs.BorderLemmas.{Lawful, apart_from, value_at-set-own, value_at-set-other, value_at-clear_key-own, value_at-clear_key-other}
use Rattle.lua_table.specs.Gaps.{has_gap, had, vacant, IsBordered}
use Rattle.lua_table.specs.Table.{Places, get, set, clear_key, has_place, value_at, IsLeastBorder}

module _ {K V : Type 0} (same : K → K → Bool) (laws : IsEquivalence same) where
  has_place-set : (places : Places K V) (key : K) (value : V) (other : K) → has_place same (set same places key value) other ≡ cond (same other key) true (has_place same places other)
  has_place-set [] key value other = refl
  has_place-set (place ∷ rest) key value other = by (same key place.0) refl (same other place.0) refl (has_place-set rest key value other)
    where
      by : (b : Bool) → same key place.0 ≡ b → (c : Bool) → same other place.0 ≡ c
          → has_place same (set same rest key value) other ≡ cond (same other key) true (has_place same rest other)
          → has_place same (cond b ((place.0, Some value) ∷ rest) (place ∷ set same rest key value)) other ≡ cond (same other key) true (cond c true (has_place same rest other))
      by true e c o later =
          let alike : same other key ≡ c = laws.symm other key ∙ laws.congr key place.0 other e ∙ laws.symm place.0 other ∙ o in
          rw (alike, o) (here c)
        where
          here : (c : Bool) → cond c true (has_place same rest other) ≡ cond c true (cond c true (has_place same rest other))
          here true = refl
          here false = refl
      by false e true o later =
          let apart : same other key ≡ false = laws.congr other place.0 key o ∙ laws.symm place.0 key ∙ e in
          rw (o, apart) refl
      by false e false o later = rw o later

  has_place-clear_key : (places : Places K V) (key other : K) → has_place same (clear_key same places key) other ≡ has_place same places other
  has_place-clear_key [] key other = refl
  has_place-clear_key (place ∷ rest) key other = by (same key place.0) (has_place-clear_key rest key other)
    where
      by : (b : Bool) → has_place same (clear_key same rest key) other ≡ has_place same rest other
          → has_place same (cond b ((place.0, None) ∷ rest) (place ∷ clear_key same rest key)) other ≡ cond (same other place.0) true (has_place same rest other)
      by true later = refl
      by false later = ap (cond (same other place.0) true) later

  -- a key without a place has no value
  get-unplaced : (places : Places K V) (key : K) → has_place same places key ≡ false → get same places key ≡ None
  get-unplaced [] key none = refl
  get-unplaced (place ∷ rest) key none = by (same key place.0) none (get-unplaced rest key)
    where
      by : (b : Bool) → cond b true (has_place same rest key) ≡ false → (has_place same rest key ≡ false → get same rest key ≡ None) → cond b place.1 (get same rest key) ≡ None
      by true none later = absurd (true≢false none)
      by false none later = later none

-- a key isn't at two positions
another : {K : Type 0} (number : K → Option ℕ) (key : K) (n k : ℕ) → number key ≡ Some n → (k ≡ n → ⊥) → number key ≡ Some k → ⊥
another number key n k own apart e = apart (same_Some k n (sym e ∙ own))

module _ {K V : Type 0} {same : K → K → Bool} {at : ℕ → Option K} {number : K → Option ℕ} (lawful : Lawful same at number) where
  had-set-own : (places : Places K V) (key : K) (value : V) (n : ℕ) → number key ≡ Some n → had same at (set same places key value) n ≡ true
  had-set-own places key value n own =
      ap (λ o. option_map_or (has_place same (set same places key value)) o false) ((lawful.inverse key n).0 own)
      ∙ has_place-set same lawful.equivalence places key value key ∙ ap (λ b. cond b true (has_place same places key)) (lawful.equivalence.refl key)

  had-set-other : (places : Places K V) (key : K) (value : V) (n : ℕ) → (number key ≡ Some n → ⊥) → had same at (set same places key value) n ≡ had same at places n
  had-set-other places key value n apart = by (at n) refl
    where
      by : (o : Option K) → at n ≡ o → option_map_or (has_place same (set same places key value)) o false ≡ option_map_or (has_place same places) o false
      by None e = refl
      by (Some other) e =
          has_place-set same lawful.equivalence places key value other ∙ ap (λ b. cond b true (has_place same places other)) (apart_from lawful key other n e apart)

  had-clear_key : (places : Places K V) (key : K) (n : ℕ) → had same at (clear_key same places key) n ≡ had same at places n
  had-clear_key places key n = by (at n)
    where
      by : (o : Option K) → option_map_or (has_place same (clear_key same places key)) o false ≡ option_map_or (has_place same places) o false
      by None = refl
      by (Some other) = has_place-clear_key same lawful.equivalence places key other

  -- a key without a position is set
  pub IsBordered-set-elsewhere : (places : Places K V) (reached : ℕ) (gaps : List Bool) (key : K) (value : V) → IsBordered same at places reached gaps → number key ≡ None
      → IsBordered same at (set same places key value) reached gaps
  IsBordered-set-elsewhere places reached gaps key value is none = record {
    behind = λ n low high. had-set-other places key value n (apart n) ∙ is.behind n low high;
    ended = had-set-other places key value (reached + 1) (apart (reached + 1)) ∙ is.ended;
    known = λ k less. is.known k less ∙ ap is_none (sym (value_at-set-other lawful places key value (k + 1) (apart (k + 1))));
    inside = is.inside;
    room = is.room;
  }
    where
      apart : (n : ℕ) → number key ≡ Some n → ⊥
      apart n own = none-some n (sym none ∙ own)

  -- a key without a position is cleared
  pub IsBordered-clear_key-elsewhere : (places : Places K V) (reached : ℕ) (gaps : List Bool) (key : K) → IsBordered same at places reached gaps → number key ≡ None
      → IsBordered same at (clear_key same places key) reached gaps
  IsBordered-clear_key-elsewhere places reached gaps key is none = record {
    behind = λ n low high. had-clear_key places key n ∙ is.behind n low high;
    ended = had-clear_key places key (reached + 1) ∙ is.ended;
    known = λ k less. is.known k less ∙ ap is_none (sym (value_at-clear_key-other lawful places key (k + 1) (λ own. none-some (k + 1) (sym none ∙ own))));
    inside = is.inside;
    room = is.room;
  }

  -- a position is emptied
  pub IsBordered-clear_key : (places : Places K V) (reached : ℕ) (gaps : List Bool) (key : K) (n : ℕ) → IsBordered same at places reached gaps → number key ≡ Some n
      → (reached' : ℕ) (gaps' : List Bool) → reached' ≡ reached
      → ((k : ℕ) → k + 1 ≡ n → n ≤ reached → has_gap gaps' k ≡ true)
      → ((k : ℕ) → k + 1 ≢ n → has_gap gaps' k ≡ has_gap gaps k)
      → (reached < n → (k : ℕ) → has_gap gaps' k ≡ has_gap gaps k)
      → length gaps' ≡ length gaps
      → IsBordered same at (clear_key same places key) reached' gaps'
  IsBordered-clear_key places reached gaps key n is own reached' gaps' still emptied others past long = record {
    behind = λ j low high. had-clear_key places key j ∙ is.behind j low (omega (arith, still, high));
    ended = had-clear_key places key (reached' + 1) ∙ ap (λ r. had same at places (r + 1)) still ∙ is.ended;
    known = λ k less. known k (omega (arith, still, less)) (cases_eq (k + 1) n);
    inside = λ k has. inside k has (cases_eq (k + 1) n) (cases_lt reached n);
    room = omega (arith, still, long, is.room);
  }
    where
      known : (k : ℕ) → k < reached → (k + 1 ≡ n) ⊎ (k + 1 ≡ n → ⊥) → has_gap gaps' k ≡ vacant same at (clear_key same places key) (k + 1)
      known k less (inl e) =
          emptied k e (omega (arith, less, e)) ∙ sym (ap is_none (value_at-clear_key-own lawful places key (k + 1) (own ∙ ap (λ m. Some m) (sym e))))
      known k less (inr other) =
          others k other ∙ is.known k less ∙ ap is_none (sym (value_at-clear_key-other lawful places key (k + 1) (another number key n (k + 1) own other)))

      inside : (k : ℕ) → has_gap gaps' k ≡ true → (k + 1 ≡ n) ⊎ (k + 1 ≡ n → ⊥) → (reached < n) ⊎ (n ≤ reached) → k < reached'
      inside k has (inl e) (inl less) = omega (arith, still, is.inside k (sym (past less k) ∙ has))
      inside k has (inl e) (inr within) = omega (arith, still, e, within)
      inside k has (inr other) _ = omega (arith, still, is.inside k (sym (others k other) ∙ has))

  -- a position is filled: `gaps'` is what that leaves of the gaps, and then the positions up to `end` are reached
  pub IsBordered-set : (places : Places K V) (reached : ℕ) (gaps : List Bool) (key : K) (value : V) (n : ℕ) → IsBordered same at places reached gaps → number key ≡ Some n
      → (end : ℕ)
      → (n ≢ reached + 1 → end ≡ reached)
      → (n ≡ reached + 1 → n ≤ end)
      → (n ≡ reached + 1 → (k : ℕ) → n < k → k ≤ end → had same at places k ≡ true)
      → (n ≡ reached + 1 → had same at places (end + 1) ≡ false)
      → (gaps' : List Bool)
      → ((k : ℕ) → k + 1 ≡ n → has_gap gaps' k ≡ false)
      → ((k : ℕ) → k + 1 ≢ n → has_gap gaps' k ≡ has_gap gaps k)
      → (last : List Bool)
      → ((k : ℕ) → k ≤ reached → has_gap last k ≡ has_gap gaps' k)
      → ((k : ℕ) → reached < k → k < end → has_gap gaps' k ≡ false → has_gap last k ≡ vacant same at (set same places key value) (k + 1))
      → ((k : ℕ) → end ≤ k → has_gap last k ≡ has_gap gaps' k)
      → end ≤ length last
      → (reached' : ℕ) → reached' ≡ end
      → IsBordered same at (set same places key value) reached' last
  IsBordered-set places reached gaps key value n is own end elsewhere from run ended gaps' filled others last before between past room reached' at_end = record {
    behind = λ j low high. behind j low (omega (arith, at_end, high)) (cases_eq j n) (cases_eq n (reached + 1));
    ended = ap (λ r. had same at (set same places key value) (r + 1)) at_end ∙ open_after (cases_eq n (reached + 1));
    known = λ k less. known k (omega (arith, at_end, less)) (cases_lt k reached) (cases_eq k reached) (cases_eq (k + 1) n) (cases_eq n (reached + 1));
    inside = λ k has. inside k has (cases_lt k end) (cases_eq (k + 1) n);
    room = omega (arith, at_end, room);
  }
    where
      still : (j : ℕ) → (j ≡ n → ⊥) → had same at (set same places key value) j ≡ had same at places j
      still j apart = had-set-other places key value j (another number key n j own apart)

      behind : (j : ℕ) → 1 ≤ j → j ≤ end → (j ≡ n) ⊎ (j ≡ n → ⊥) → (n ≡ reached + 1) ⊎ (n ≡ reached + 1 → ⊥) → had same at (set same places key value) j ≡ true
      behind j low high (inl e) _ = had-set-own places key value j (own ∙ ap (λ m. Some m) (sym e))
      behind j low high (inr other) (inr apart) = still j other ∙ is.behind j low (omega (arith, elsewhere apart, high))
      behind j low high (inr other) (inl next) = still j other ∙ by (cases_lt n j)
        where
          by : (n < j) ⊎ (j ≤ n) → had same at places j ≡ true
          by (inl more) = run next j more high
          by (inr less) = is.behind j low (omega (arith, less, other, next))

      open_after : (n ≡ reached + 1) ⊎ (n ≡ reached + 1 → ⊥) → had same at (set same places key value) (end + 1) ≡ false
      open_after (inl next) = still (end + 1) (λ e. omega (arith, e, from next)) ∙ ended next
      open_after (inr apart) =
          still (end + 1) (λ e. apart (omega (arith, e, elsewhere apart))) ∙ ap (λ r. had same at places (r + 1)) (elsewhere apart) ∙ is.ended

      -- a number that isn't below the positions reached before is no gap
      no_gap : (k : ℕ) → reached ≤ k → (b : Bool) → has_gap gaps k ≡ b → b ≡ false
      no_gap k past true has = absurd (omega (arith, past, is.inside k has))
      no_gap k past false has = refl

      vacant-own : (k : ℕ) → k + 1 ≡ n → false ≡ vacant same at (set same places key value) (k + 1)
      vacant-own k e = sym (ap is_none (value_at-set-own lawful places key value (k + 1) (own ∙ ap (λ m. Some m) (sym e))))

      known : (k : ℕ) → k < end → (k < reached) ⊎ (reached ≤ k) → (k ≡ reached) ⊎ (k ≡ reached → ⊥) → (k + 1 ≡ n) ⊎ (k + 1 ≡ n → ⊥)
          → (n ≡ reached + 1) ⊎ (n ≡ reached + 1 → ⊥) → has_gap last k ≡ vacant same at (set same places key value) (k + 1)
      known k less (inl early) _ (inl e) _ = before k (omega (arith, early)) ∙ filled k e ∙ vacant-own k e
      known k less (inl early) _ (inr other) _ =
          before k (omega (arith, early)) ∙ others k other ∙ is.known k early
          ∙ ap is_none (sym (value_at-set-other lawful places key value (k + 1) (another number key n (k + 1) own other)))
      known k less (inr late) _ _ (inr apart) = absurd (omega (arith, late, less, elsewhere apart))
      known k less (inr late) (inl e) _ (inl next) =
          let here : k + 1 ≡ n = omega (arith, e, next) in
          before k (omega (arith, e)) ∙ filled k here ∙ vacant-own k here
      known k less (inr late) (inr apart) _ (inl next) =
          between k (omega (arith, late, apart)) less
          (others k (λ e. apart (omega (arith, e, next))) ∙ no_gap k late (has_gap gaps k) refl)

      inside : (k : ℕ) → has_gap last k ≡ true → (k < end) ⊎ (end ≤ k) → (k + 1 ≡ n) ⊎ (k + 1 ≡ n → ⊥) → k < reached'
      inside k has (inl less) _ = omega (arith, at_end, less)
      inside k has (inr more) (inl e) = absurd (true≢false (sym has ∙ past k more ∙ filled k e))
      inside k has (inr more) (inr other) =
          let old = is.inside k (sym (others k other) ∙ sym (past k more) ∙ has) in
          absurd (by old (cases_eq n (reached + 1)))
        where
          by : k < reached → (n ≡ reached + 1) ⊎ (n ≡ reached + 1 → ⊥) → ⊥
          by old (inl next) = omega (arith, old, more, from next, next)
          by old (inr apart) = omega (arith, old, more, elsewhere apart)

  -- the least gap, or the end of the positions that have had values, is the least border
  pub least-border : (places : Places K V) (reached : ℕ) (gaps : List Bool) (n : ℕ) → IsBordered same at places reached gaps
      → ((k : ℕ) → k < n → has_gap gaps k ≡ false) → (n ≢ reached → has_gap gaps n ≡ true) → IsLeastBorder same at places n
  least-border places reached gaps n is before there = record {
    filled = λ k low high. filled k low high within;
    open_after = open_after (cases_eq n reached);
  }
    where
      within : n ≤ reached
      within = by (cases_eq n reached)
        where
          by : (n ≡ reached) ⊎ (n ≡ reached → ⊥) → n ≤ reached
          by (inl e) = omega (arith, e)
          by (inr apart) = omega (arith, is.inside n (there apart))

      some : (o : Option V) → is_none o ≡ false → IsSome o
      some None e = absurd (true≢false e)
      some (Some v) e = refl

      no : (o : Option V) → is_none o ≡ true → IsNone o
      no None e = refl
      no (Some v) e = absurd (true≢false (sym e))

      filled : (k : ℕ) → 1 ≤ k → k ≤ n → n ≤ reached → IsSome (value_at same at places k)
      filled zero low high all = absurd (omega arith)
      filled (suc k) low high all =
          let next : k + 1 ≡ suc k = omega arith in
          some (value_at same at places (suc k)) (ap (vacant same at places) (sym next) ∙ sym (is.known k (omega (arith, high, all))) ∙ before k (omega (arith, high)))

      unplaced : (o : Option K) → option_map_or (has_place same places) o false ≡ false → IsNone (option_and_then (get same places) o)
      unplaced None e = refl
      unplaced (Some key) e = ap is_some (get-unplaced same lawful.equivalence places key e)

      open_after : (n ≡ reached) ⊎ (n ≡ reached → ⊥) → IsNone (value_at same at places (n + 1))
      open_after (inl e) = unplaced (at (n + 1)) (ap (λ m. had same at places (m + 1)) e ∙ is.ended)
      open_after (inr apart) = let gap = there apart in no (value_at same at places (n + 1)) (sym (is.known n (is.inside n gap)) ∙ gap)

-- there is room up to the end
pub end-within : (end reached before after : ℕ) → (end ≢ reached → end ≤ after) → reached ≤ before → before ≤ after → end ≤ after
end-within end reached before after far near kept = by (cases_eq end reached)
  where
    by : (end ≡ reached) ⊎ (end ≡ reached → ⊥) → end ≤ after
    by (inl e) = omega (arith, e, near, kept)
    by (inr apart) = far apart

-- an empty table
pub IsBordered-empty : {K V : Type 0} (same : K → K → Bool) (at : ℕ → Option K) (reached : ℕ) (gaps : List Bool) → reached ≡ 0 → ((k : ℕ) → has_gap gaps k ≡ false)
    → IsBordered {K = K} {V = V} same at [] reached gaps
IsBordered-empty {K} {V} same at reached gaps none empty = record {
  behind = λ n low high. absurd (omega (arith, none, low, high));
  ended = here (at (reached + 1));
  known = λ k less. absurd (omega (arith, none, less));
  inside = λ k has. absurd (true≢false (sym has ∙ empty k));
  room = omega (arith, none);
}
  where
    here : (o : Option K) → option_map_or (has_place {K = K} {V = V} same []) o false ≡ false
    here None = refl
    here (Some key) = refl

pub distinct-empty : {K V : Type 0} (same : K → K → Bool) (places : Places K V) → places ≡ [] → IsDistinct same (keys_of places)
unfolding IsDistinct
distinct-empty {K} {V} same places e = let P : Places K V → Type 0 = λ p. IsDistinct same (keys_of p) in subst P (sym e) tt
