-- The pairs of tables and of messages.
use Rattle.std.specs.Prelude.{List, [], ◌∷◌, Option, None, Some, Result, Ok, Err, map}
use Rattle.std.specs.List.{AllByRecursion}
use Rattle.lua_table.specs.Table.{Places}
use Rattle.lua_table.specs.declared.table.NoSuchKey.{NoSuchKey}
use Rattle.variant.specs.declared.message.Variant.{Variant}
use Rattle.lua_meaning.specs.Message.{Message, Pairs}
use Rattle.lua_meaning.specs.MessageView.{message_view, pairs_of}
use Rattle.lua_heap.specs.declared.value.Value.{Value}
use Rattle.lua_heap.specs.Heap.{HeapView, IsMade}

module _ {K V : Type 0} where
  -- a key's pair, where it has a value, in front of others
  abbrev pub with_pair : K → Option V → List (K × V) → List (K × V)
  with_pair key None pairs = pairs
  with_pair key (Some value) pairs = (key, value) ∷ pairs

  -- the pairs of a table, in the order of its places
  abbrev pub pairs_in : Places K V → List (K × V)
  pairs_in [] = []
  pairs_in (place ∷ rest) = with_pair place.0 place.1 (pairs_in rest)

  -- the places that have these pairs alone
  abbrev pub places_of : List (K × V) → Places K V
  places_of pairs = map (λ pair. (pair.0, Some pair.1)) pairs

-- the pair that a walk found, none where its key was never set
abbrev pub pair_found : {K V : Type 0} → Result (Option (K × V)) NoSuchKey → Option (K × V)
pair_found (Ok pair) = pair
pair_found (Err refused) = None

-- keys and values that a heap made
abbrev pub ArePairsMade : HeapView → List (Value × Value) → Type 0
ArePairsMade h pairs = AllByRecursion (λ pair. IsMade h pair.0 × IsMade h pair.1) pairs

-- a pair of a message, and all of its pairs, as the definitions see them
abbrev pub message_pair : Variant × Variant → Message × Message
message_pair pair = (message_view pair.0, message_view pair.1)

abbrev pub pairs_view : List (Variant × Variant) → Pairs
pairs_view pairs = pairs_of (map message_pair pairs)
