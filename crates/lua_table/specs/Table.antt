-- A Lua table as the list of its places, in the order in which their keys first got a value: each key with its value,
-- or with none where it was cleared.
use Rattle.std.specs.Prelude.{ℕ, zero, suc, ◌+◌, ◌≤◌, Bool, true, false, List, [], ◌∷◌, length, Option, None, Some, Result, Ok, Err, if◌then◌else◌, IsSome, IsNone, is_some}
use Rattle.std.specs.Option.{option_and_then, option_map_or}
use Rattle.lua_table.specs.declared.table.NoSuchKey.{NoSuchKey}

abbrev pub Places : Type 0 → Type 0 → Type 0
Places K V = List (K × Option V)

module _ {K V : Type 0} where
  -- the first pair with a value
  abbrev pub first : Places K V → Option (K × V)
  first [] = None
  first (place ∷ rest) = option_map_or (λ value. Some (place.0, value)) place.1 (first rest)

-- the one refusal of `next`
abbrev pub no_such_key : NoSuchKey
no_such_key = record {}

module _ {K V : Type 0} (same : K → K → Bool) where
  -- whether a key was ever set
  abbrev pub has_place : Places K V → K → Bool
  has_place [] key = false
  has_place (place ∷ rest) key = if same key place.0 then true else has_place rest key

  -- the value of a key, where it has one
  abbrev pub get : Places K V → K → Option V
  get [] key = None
  get (place ∷ rest) key = if same key place.0 then place.1 else get rest key

  -- a key takes a value at its place; one that was never set gets the last place
  abbrev pub set : Places K V → K → V → Places K V
  set [] key value = (key, Some value) ∷ []
  set (place ∷ rest) key value = if same key place.0 then (place.0, Some value) ∷ rest else place ∷ set rest key value

  -- a key loses its value and keeps its place
  abbrev pub clear_key : Places K V → K → Places K V
  clear_key [] key = []
  clear_key (place ∷ rest) key = if same key place.0 then (place.0, None) ∷ rest else place ∷ clear_key rest key

  -- the first pair with a value behind the place of a key; a key that was never set is refused
  abbrev pub next_after : Places K V → K → Result (Option (K × V)) NoSuchKey
  next_after [] key = Err no_such_key
  next_after (place ∷ rest) key = if same key place.0 then Ok (first rest) else next_after rest key

  -- the first pair with a value, of all or behind the place of a key
  abbrev pub next : Places K V → Option K → Result (Option (K × V)) NoSuchKey
  next places None = Ok (first places)
  next places (Some key) = next_after places key

  module _ (at : ℕ → Option K) where
    -- the value at a position, where it has one
    abbrev pub value_at : Places K V → ℕ → Option V
    value_at places n = option_and_then (get places) (at n)

    -- how many positions from n on have a value before the first that has none, among so many
    abbrev pub run_length : Places K V → ℕ → ℕ → ℕ
    run_length places n zero = 0
    run_length places n (suc among) = if is_some (value_at places n) then suc (run_length places (suc n) among) else 0

    -- the count of values at 1, 2, 3 and so on up to the first gap; there are no more of them than places
    abbrev pub border : Places K V → ℕ
    border places = run_length places 1 (length places)

    -- each position from 1 to n has a value
    abbrev pub IsFilledTo : Places K V → ℕ → Type 0
    IsFilledTo places n = (k : ℕ) → 1 ≤ k → k ≤ n → IsSome (value_at places k)

    -- n is a border of Lua's, the least one: each position from 1 to n has a value, and the next one has none
    pub record IsLeastBorder (places : Places K V) (n : ℕ) : Type 0 where
      pub filled : IsFilledTo places n
      pub open_after : IsNone (value_at places (n + 1))
