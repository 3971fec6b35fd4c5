-- How a table finds the place of a key: by its position in a list, by its hash, or among the first keys. No contract of the
-- table cites it.
use Rattle.std.specs.Prelude.{◌≡◌, ℕ, zero, suc, Bool, false, List, [], ◌∷◌, take, slice_index, Option, None, Some, if◌then◌else◌}
use Rattle.std.specs.List.{IsDistinct}
use Rattle.std.specs.Map.{lookup}
use Rattle.std.specs.Option.{option_and_then, option_or, option_map}

-- how many of the first keys are found by comparing them
abbrev pub first_count : ℕ
first_count = 8

-- a place in the list of positions: 0 is none, and 1 the place 0
abbrev pub place_of : ℕ → Option ℕ
place_of zero = None
place_of (suc place) = Some place

-- the place that the list has for a position
abbrev pub place_at : List ℕ → ℕ → Option ℕ
place_at listed zero = None
place_at listed (suc at) = place_of (slice_index listed at)

module _ {K : Type 0} (same : K → K → Bool) where
  -- the place of the first of the keys that is equal
  abbrev pub index_of : K → List K → Option ℕ
  index_of key [] = None
  index_of key (other ∷ keys) = if same key other then Some 0 else option_map (λ place. suc place) (index_of key keys)

  -- the place that a key's hash finds, or else that of an equal one among the first keys
  abbrev pub unlisted : List (K × ℕ) → List K → K → Option ℕ
  unlisted hashed keys key = option_or (lookup (same key) hashed) (index_of key (take first_count keys))

  module _ (number : K → Option ℕ) where
    -- the place that the list has for a key, or else its hash or the first keys
    abbrev pub found : List ℕ → List (K × ℕ) → List K → K → Option ℕ
    found listed hashed keys key = option_or (option_and_then (place_at listed) (number key)) (unlisted hashed keys key)

    -- each key is found at its place, and no other key is found; unless keys are astray, no key has a position and isn't
    -- listed; and no key stands twice
    pub record AreFound (astray : Bool) (listed : List ℕ) (hashed : List (K × ℕ)) (keys : List K) : Type 0 where
      pub found_at : (key : K) → found listed hashed keys key ≡ index_of key keys
      pub none_astray : astray ≡ false → (key : K) (n : ℕ) → number key ≡ Some n → place_at listed n ≡ None → index_of key keys ≡ None
      pub distinct : IsDistinct same keys
