-- How a key is found: what a key that is added changes of it.
use Rattle.std.proofs.Common.{◌≡◌, ℕ, zero, suc, ◌+◌, ◌<◌, ◌≤◌, Bool, true, false, cond, List, [], ◌∷◌, ◌++◌, length, length-append, take, Option, None, Some, refl, sym, ap, ◌∙◌, slice_get, IfSome, true≢false, eqb, eq-eqb, eqb-true, arith}
use native.Mathlib.Decide.{dec_lt}
use Rattle.std.proofs.lemmas.Option.{same_Some, none-some}
use Rattle.std.proofs.lemmas.List.{take-append-le, take_all}
use Rattle.std.proofs.lemmas.Map.Keys.{IsDistinct-push}
use Rattle.std.specs.List.{IsDistinct, list_any}
use Rattle.std.specs.Map.{lookup}
use Rattle.std.specs.Option.{option_and_then, option_or, option_map}
use Rattle.lua_table.proofs.BorderLemmas.{Lawful}
use Rattle.lua_table.specs.Places.{first_count, place_at, index_of, unlisted, found, AreFound}

-- what is found after a new key: the same, or the new key at the end
join-first : (a h f r n : Option ℕ) → option_or a (option_or h f) ≡ r → f ≡ r → option_or a (option_or h (option_or f n)) ≡ option_or r n
join-first (Some a) h f r n e whole = ap (λ o. option_or o n) e
join-first None (Some h) f r n e whole = ap (λ o. option_or o n) e
join-first None None f r n e whole = ap (λ o. option_or o n) whole

or-None : (r : Option ℕ) → option_or r None ≡ r
or-None None = refl
or-None (Some r) = refl

left-None : (a b : Option ℕ) → option_or a b ≡ None → a ≡ None
left-None None b e = refl
left-None (Some a) b e = cc

module _ {K : Type 0} (same : K → K → Bool) where
  pub index_of-append : (key : K) (keys : List K) (other : K)
      → index_of same key (keys ++ other ∷ []) ≡ option_or (index_of same key keys) (cond (same key other) (Some (length keys)) None)
  index_of-append key [] other = here (same key other)
    where
      here : (b : Bool) → cond b (Some 0) (option_map (λ place. suc place) None) ≡ cond b (Some 0) None
      here true = refl
      here false = refl
  index_of-append key (first ∷ keys) other = by (same key first) (index_of same key keys) (same key other) (index_of-append key keys other)
    where
      by : (b : Bool) (r : Option ℕ) (s : Bool) → index_of same key (keys ++ other ∷ []) ≡ option_or r (cond s (Some (length keys)) None)
          → cond b (Some 0) (option_map (λ place. suc place) (index_of same key (keys ++ other ∷ [])))
          ≡ option_or (cond b (Some 0) (option_map (λ place. suc place) r)) (cond s (Some (suc (length keys))) None)
      by true r s e = refl
      by false None true e = ap (option_map (λ place. suc place)) e
      by false None false e = ap (option_map (λ place. suc place)) e
      by false (Some r) s e = ap (option_map (λ place. suc place)) e

  pub index_of-within : (key : K) (keys : List K) (place : ℕ) → index_of same key keys ≡ Some place → place < length keys
  index_of-within key [] place e = cc
  index_of-within key (first ∷ keys) place e = by (same key first) (index_of same key keys) refl e (index_of-within key keys)
    where
      by : (b : Bool) (r : Option ℕ) → index_of same key keys ≡ r → cond b (Some 0) (option_map (λ place. suc place) r) ≡ Some place
          → ((place : ℕ) → index_of same key keys ≡ Some place → place < length keys) → place < suc (length keys)
      by true r is e later = let zero_there : 0 ≡ place = same_Some 0 place e in omega arith
      by false None is e later = cc
      by false (Some r) is e later = let next : suc r ≡ place = same_Some (suc r) place e in omega (arith, later r is)

  -- a search from the front: the first of the keys that is equal, or none
  pub index_of-here : (key : K) (keys : List K) (n : ℕ) (other : K) → ((k : ℕ) → k < n → IfSome (slice_get keys k) (λ o. same key o ≡ false))
      → slice_get keys n ≡ Some other → same key other ≡ true → index_of same key keys ≡ Some n
  index_of-here key [] n other apart there alike = cc
  index_of-here key (first ∷ keys) zero other apart there alike =
      let one : first ≡ other = same_Some first other there in
      rw (one, alike) refl
  index_of-here key (first ∷ keys) (suc n) other apart there alike =
      let not_first : same key first ≡ false = apart 0 (omega arith) in
      rw (not_first, index_of-here key keys n other (λ k below. apart (suc k) (omega arith)) there alike) refl

  pub index_of-nowhere : (key : K) (keys : List K) (n : ℕ) → length keys ≤ n → ((k : ℕ) → k < n → IfSome (slice_get keys k) (λ o. same key o ≡ false))
      → index_of same key keys ≡ None
  index_of-nowhere key [] n short apart = refl
  index_of-nowhere key (first ∷ keys) zero short apart = absurd (omega arith)
  index_of-nowhere key (first ∷ keys) (suc n) short apart =
      let not_first : same key first ≡ false = apart 0 (omega arith) in
      rw (not_first, index_of-nowhere key keys n (omega arith) (λ k below. apart (suc k) (omega arith))) refl

  pub apart-more : (key : K) (keys : List K) (n : ℕ) (other : K) → ((k : ℕ) → k < n → IfSome (slice_get keys k) (λ o. same key o ≡ false))
      → slice_get keys n ≡ Some other → same key other ≡ false → (k : ℕ) → k < n + 1 → IfSome (slice_get keys k) (λ o. same key o ≡ false)
  apart-more key keys n other apart there not_other k below =
      elim (dec_lt k n) [
        | yes before ↦ apart k before
        | no after ↦
            let here : k ≡ n = omega (arith, after) in
            rw (here, there) not_other
      ]

  pub index_of-bound : (key : K) (keys : List K) (r : Option ℕ) → r ≡ index_of same key keys → IfSome r (λ place. place < length keys)
  index_of-bound key keys None e = tt
  index_of-bound key keys (Some place) e = index_of-within key keys place (sym e)

  index_of-list_any : (key : K) (keys : List K) → index_of same key keys ≡ None → list_any (same key) keys ≡ false
  index_of-list_any key [] none = refl
  index_of-list_any key (first ∷ keys) none = by (same key first) refl (index_of same key keys) refl none (index_of-list_any key keys)
    where
      by : (b : Bool) → same key first ≡ b → (r : Option ℕ) → index_of same key keys ≡ r → cond b (Some 0) (option_map (λ place. suc place) r) ≡ None
          → (index_of same key keys ≡ None → list_any (same key) keys ≡ false) → list_any (same key) (first ∷ keys) ≡ false
      by true t r is e later = cc
      by false t (Some r) is e later = cc
      by false t None is e later = rw t (later is)

module _ {K : Type 0} {same : K → K → Bool} {at : ℕ → Option K} {number : K → Option ℕ} (lawful : Lawful same at number)
    {astray : Bool} {listed : List ℕ} {hashed : List (K × ℕ)} {keys : List K} (are : AreFound same number astray listed hashed keys)
    (key : K) (absent : index_of same key keys ≡ None) where
  -- an equal key is the new one, which wasn't found
  absent-alike : (other : K) → same other key ≡ true → index_of same other keys ≡ None
  absent-alike other e = ap (λ k. index_of same k keys) (lawful.alike other key e) ∙ absent

  distinct-added : IsDistinct same (keys ++ key ∷ [])
  distinct-added = IsDistinct-push lawful.equivalence keys key are.distinct (index_of-list_any same key keys absent)

  -- a key that is added after the first ones is found by a list or a hash that tells its place
  first-later : first_count ≤ length keys → (other : K) → index_of same other (take first_count (keys ++ key ∷ [])) ≡ index_of same other (take first_count keys)
  first-later full other = ap (index_of same other) (take-append-le first_count keys (key ∷ []) full)

  first-whole : length keys < first_count → (other : K) → index_of same other (take first_count keys) ≡ index_of same other keys
  first-whole few other = ap (index_of same other) (take_all first_count keys (omega arith))

  first-added : length keys < first_count → (other : K) → index_of same other (take first_count (keys ++ key ∷ []))
      ≡ option_or (index_of same other (take first_count keys)) (cond (same other key) (Some (length keys)) None)
  first-added few other =
      ap (index_of same other) (take_all first_count (keys ++ key ∷ []) (omega (arith, length-append keys (key ∷ []))))
      ∙ index_of-append same other keys key
      ∙ ap (λ r. option_or r (cond (same other key) (Some (length keys)) None)) (sym (first-whole few other))

  -- what is found among the first keys stays where the new key isn't asked for
  first-apart : (other : K) → same other key ≡ false → index_of same other (take first_count (keys ++ key ∷ [])) ≡ index_of same other (take first_count keys)
  first-apart other apart =
      elim (dec_lt (length keys) first_count) [
        | yes few ↦ first-added few other ∙ ap (λ b. option_or (index_of same other (take first_count keys)) (cond b (Some (length keys)) None)) apart ∙ or-None (index_of same other (take first_count keys))
        | no full ↦ first-later (omega (arith, full)) other
      ]

  -- the answer for each key after the new one, where it is known for the new one
  found_at-by : (listed' : List ℕ) (hashed' : List (K × ℕ))
      → found same number listed' hashed' (keys ++ key ∷ []) key ≡ Some (length keys)
      → ((other : K) → same other key ≡ false → found same number listed' hashed' (keys ++ key ∷ []) other ≡ found same number listed hashed keys other)
      → (other : K) → found same number listed' hashed' (keys ++ key ∷ []) other ≡ index_of same other (keys ++ key ∷ [])
  found_at-by listed' hashed' own others other = by (same other key) refl
    where
      by : (b : Bool) → same other key ≡ b → found same number listed' hashed' (keys ++ key ∷ []) other ≡ index_of same other (keys ++ key ∷ [])
      by true e =
          ap (λ k. found same number listed' hashed' (keys ++ key ∷ []) k) (lawful.alike other key e) ∙ own
          ∙ sym (index_of-append same other keys key ∙ ap (λ r. option_or r (cond (same other key) (Some (length keys)) None)) (absent-alike other e)
          ∙ ap (λ b. cond b (Some (length keys)) None) e)
      by false e =
          others other e ∙ are.found_at other
          ∙ sym (index_of-append same other keys key ∙ ap (λ b. option_or (index_of same other keys) (cond b (Some (length keys)) None)) e ∙ or-None (index_of same other keys))

  -- no key goes astray that wasn't, but the new one
  none_astray-by : (listed' : List ℕ) (astray' : Bool) → (astray' ≡ false → astray ≡ false)
      → ((n : ℕ) → number key ≡ Some n → astray' ≡ false → place_at listed' n ≡ None → ⊥)
      → ((n : ℕ) → place_at listed' n ≡ None → place_at listed n ≡ None)
      → astray' ≡ false → (other : K) (n : ℕ) → number other ≡ Some n → place_at listed' n ≡ None → index_of same other (keys ++ key ∷ []) ≡ None
  none_astray-by listed' astray' kept own fewer stray other n is none = by (same other key) refl
    where
      by : (b : Bool) → same other key ≡ b → index_of same other (keys ++ key ∷ []) ≡ None
      by true e = absurd (own n (sym (ap number (lawful.alike other key e)) ∙ is) stray none)
      by false e =
          index_of-append same other keys key ∙ ap (λ b. option_or (index_of same other keys) (cond b (Some (length keys)) None)) e ∙ or-None (index_of same other keys)
          ∙ are.none_astray (kept stray) other n is (fewer n none)

  -- a key that is listed
  pub AreFound-listed : (n : ℕ) → number key ≡ Some n → (listed' : List ℕ)
      → ((m : ℕ) → place_at listed' m ≡ cond (eqb m n) (Some (length keys)) (place_at listed m))
      → AreFound same number astray listed' hashed (keys ++ key ∷ [])
  AreFound-listed n own listed' listing = record {
    found_at = found_at-by listed' hashed here there;
    none_astray = none_astray-by listed' astray (λ e. e)
        (λ m is stray none. listed-there m (same_Some n m (sym own ∙ is)) none) (λ m none. fewer m (eqb m n) (listing m) none);
    distinct = distinct-added;
  }
    where
      at-own : place_at listed' n ≡ Some (length keys)
      at-own = listing n ∙ ap (λ b. cond b (Some (length keys)) (place_at listed n)) (eq-eqb n n refl)

      listed-there : (m : ℕ) → n ≡ m → place_at listed' m ≡ None → ⊥
      listed-there m e none = none-some (length keys) (sym none ∙ ap (place_at listed') (sym e) ∙ at-own)

      fewer : (m : ℕ) (b : Bool) → place_at listed' m ≡ cond b (Some (length keys)) (place_at listed m) → place_at listed' m ≡ None → place_at listed m ≡ None
      fewer m true e none = cc
      fewer m false e none = sym e ∙ none

      here : found same number listed' hashed (keys ++ key ∷ []) key ≡ Some (length keys)
      here = rw (own, at-own) refl

      there : (other : K) → same other key ≡ false → found same number listed' hashed (keys ++ key ∷ []) other ≡ found same number listed hashed keys other
      there other apart = by (number other) refl
        where
          by : (o : Option ℕ) → number other ≡ o
              → option_or (option_and_then (place_at listed') o) (unlisted same hashed (keys ++ key ∷ []) other)
              ≡ option_or (option_and_then (place_at listed) o) (unlisted same hashed keys other)
          by None e = ap (option_or (lookup (same other) hashed)) (first-apart other apart)
          by (Some m) e = in_list (eqb m n) refl
            where
              in_list : (b : Bool) → eqb m n ≡ b
                  → option_or (place_at listed' m) (unlisted same hashed (keys ++ key ∷ []) other) ≡ option_or (place_at listed m) (unlisted same hashed keys other)
              in_list true t =
                  let number_there : number other ≡ Some n = e ∙ ap (λ i. Some i) (eqb-true m n t) in
                  let one : Some other ≡ Some key = sym ((lawful.inverse other n).0 number_there) ∙ (lawful.inverse key n).0 own in
                  let alike : other ≡ key = same_Some other key one in
                  absurd (true≢false (sym (lawful.equivalence.refl key) ∙ ap (λ k. same k key) (sym alike) ∙ apart))
              in_list false t =
                  let stays : place_at listed' m ≡ place_at listed m = listing m ∙ ap (λ b. cond b (Some (length keys)) (place_at listed m)) t in
                  rw (stays, first-apart other apart) refl

  -- a key among the first ones that isn't listed
  pub AreFound-first : length keys < first_count → (astray' : Bool) → (astray' ≡ false → (astray ≡ false) × ((n : ℕ) → number key ≡ Some n → ⊥))
      → AreFound same number astray' listed hashed (keys ++ key ∷ [])
  AreFound-first few astray' kept = record {
    found_at = λ other.
        ap (λ r. option_or (option_and_then (place_at listed) (number other)) (option_or (lookup (same other) hashed) r)) (first-added few other)
        ∙ join-first (option_and_then (place_at listed) (number other)) (lookup (same other) hashed) (index_of same other (take first_count keys))
        (index_of same other keys) (cond (same other key) (Some (length keys)) None) (are.found_at other) (first-whole few other)
        ∙ sym (index_of-append same other keys key);
    none_astray = none_astray-by listed astray' (λ stray. (kept stray).0) (λ n is stray none. (kept stray).1 n is) (λ n none. none);
    distinct = distinct-added;
  }

  -- a later key that isn't listed
  pub AreFound-hashed : (astray' : Bool) → (astray' ≡ false → (astray ≡ false) × ((n : ℕ) → number key ≡ Some n → ⊥)) → (hashed' : List (K × ℕ))
      → ((other : K) → lookup (same other) hashed' ≡ cond (same key other) (Some (length keys)) (lookup (same other) hashed))
      → AreFound same number astray' listed hashed' (keys ++ key ∷ [])
  AreFound-hashed astray' kept hashed' hashing = record {
    found_at = found_at-by listed hashed' here there;
    none_astray = none_astray-by listed astray' (λ stray. (kept stray).0) (λ n is stray none. (kept stray).1 n is) (λ n none. none);
    distinct = distinct-added;
  }
    where
      unlisted_key : option_and_then (place_at listed) (number key) ≡ None
      unlisted_key = left-None (option_and_then (place_at listed) (number key)) (unlisted same hashed keys key) (are.found_at key ∙ absent)

      here : found same number listed hashed' (keys ++ key ∷ []) key ≡ Some (length keys)
      here =
          let own : lookup (same key) hashed' ≡ Some (length keys) =
          hashing key ∙ ap (λ b. cond b (Some (length keys)) (lookup (same key) hashed)) (lawful.equivalence.refl key) in
          rw (unlisted_key, own) refl

      there : (other : K) → same other key ≡ false → found same number listed hashed' (keys ++ key ∷ []) other ≡ found same number listed hashed keys other
      there other apart =
          let stays : lookup (same other) hashed' ≡ lookup (same other) hashed =
          hashing other ∙ ap (λ b. cond b (Some (length keys)) (lookup (same other) hashed)) (lawful.equivalence.symm key other ∙ apart) in
          rw (stays, first-apart other apart) refl
