-- What the values of a heap are to the definitions.
use Rattle.std.specs.Prelude.{ℕ, ◌<◌, List, Option, IfSome, slice_get, unwrap_or, map, ⊤, []}
use Rattle.std.specs.List.{AllByRecursion}
use Rattle.std.specs.Option.{option_map}
use Rattle.lua_table.specs.Table.{Places}
use Rattle.lua_tree.specs.Tree.{Bytes}
use Rattle.lua_meaning.specs.Value as meant
use Rattle.lua_heap.specs.declared.value.Value.{Value}
use Rattle.lua_heap.specs.declared.value.Value.TheVariants.{Nil, Bool, Num, Str, Table, Func, Native, Channel, Thread, Data}
use Rattle.lua_heap.specs.Native.{native_view}

-- the text of an id
abbrev pub text_at : List Bytes → ℕ → Bytes
text_at texts id = unwrap_or (slice_get texts id) []

-- a value among the strings of its heap
abbrev pub value_view : List Bytes → Value → meant.Value
value_view texts Nil = meant.nil
value_view texts (Bool b) = meant.flag b
value_view texts (Num n) = meant.num n
value_view texts (Str id) = meant.str (text_at texts id)
value_view texts (Table id) = meant.table id
value_view texts (Func id) = meant.func id
value_view texts (Native f) = meant.native (native_view f)
value_view texts (Channel number) = meant.channel number
value_view texts (Thread number) = meant.thread number
value_view texts (Data id) = meant.datum id

-- a place of a table; a table's places
abbrev pub place_view : List Bytes → Value × Option Value → meant.Value × Option meant.Value
place_view texts place = (value_view texts place.0, option_map (value_view texts) place.1)

abbrev pub places_view : List Bytes → Places Value Value → Places meant.Value meant.Value
places_view texts places = map (place_view texts) places

-- how many strings, tables, functions and Data there are
pub record Counts : Type 0 where
  pub texts : ℕ
  pub tables : ℕ
  pub functions : ℕ
  pub contents : ℕ

-- a value whose id, if it has one, is one of so many
abbrev pub IsCounted : Counts → Value → Type 0
IsCounted c (Str id) = id < c.texts
IsCounted c (Table id) = id < c.tables
IsCounted c (Func id) = id < c.functions
IsCounted c (Data id) = id < c.contents
IsCounted c v = ⊤

-- so are all keys and values of a table
abbrev pub IsCountedPlace : Counts → Value × Option Value → Type 0
IsCountedPlace c place = IsCounted c place.0 × IfSome place.1 (λ v. IsCounted c v)

abbrev pub AreCounted : Counts → Places Value Value → Type 0
AreCounted c places = AllByRecursion (IsCountedPlace c) places
