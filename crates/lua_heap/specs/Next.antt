-- Pairs of a table, as the definitions walk them.
use Rattle.std.specs.Prelude.{List, Option, None, Some, IfSome, Result, Ok, Err, ⊤}
use Rattle.std.specs.Option.{option_map}
use Rattle.lua_table.specs.declared.table.NoSuchKey.{NoSuchKey}
use Rattle.lua_tree.specs.Tree.{Bytes}
use Rattle.lua_meaning.specs.Value as meant
use Rattle.lua_heap.specs.declared.value.Value.{Value}
use Rattle.lua_heap.specs.declared.value.Value.TheVariants.{Nil}
use Rattle.lua_heap.specs.Value.{value_view}
use Rattle.lua_heap.specs.Heap.{HeapView, IsMade}

-- the key behind whose place a walk goes on; nil is before all places
abbrev pub walked : Value → Option Value
walked Nil = None
walked key = Some key

abbrev pub pair_view : List Bytes → Value × Value → meant.Value × meant.Value
pair_view texts pair = (value_view texts pair.0, value_view texts pair.1)

abbrev pub next_view : List Bytes → Result (Option (Value × Value)) NoSuchKey → Result (Option (meant.Value × meant.Value)) NoSuchKey
next_view texts (Ok pair) = Ok (option_map (pair_view texts) pair)
next_view texts (Err refused) = Err refused

-- a pair's key and value were made by the heap
abbrev pub IsMadePair : HeapView → Option (Value × Value) → Type 0
IsMadePair h pair = IfSome pair (λ p. IsMade h p.0 × IsMade h p.1)

abbrev pub IsMadeNext : HeapView → Result (Option (Value × Value)) NoSuchKey → Type 0
IsMadeNext h (Ok pair) = IsMadePair h pair
IsMadeNext h (Err refused) = ⊤
