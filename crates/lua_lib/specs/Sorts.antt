-- What values are sorted by, and what is done with them in order.
use Rattle.std.specs.Prelude.{ℕ, ℤ, pos, List, []}
use Rattle.lua_tree.specs.Tree.{Bytes}
use Rattle.lua_meaning.specs.Value as meant
use Rattle.lua_meaning.specs.Arguments.{Lib, ◌>>◌, answer, change}
use Rattle.lua_meaning.specs.Tables.{set_items}
use Rattle.lua_heap.specs.declared.value.Value.{Value}
use Rattle.lua_heap.specs.declared.value.Value.TheVariants.{Num, Str}
use Rattle.lua_heap.specs.Value.{text_at}

-- a number itself, 0 for any other value
abbrev pub number_of : Value → ℤ
number_of (Num n) = n
number_of v = pos 0

-- a string's bytes, none for any other value
abbrev pub bytes_of : List Bytes → Value → Bytes
bytes_of texts (Str id) = text_at texts id
bytes_of texts v = []

-- a table gets values in order from its first position on
abbrev pub set_in_order : ℕ → List meant.Value → Lib (List meant.Value)
set_in_order table vs = change (λ s. set_items table 1 vs s) >> answer []
