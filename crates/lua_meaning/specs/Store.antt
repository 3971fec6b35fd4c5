-- What a state's values name: its tables, cells and Data, and how a table is read and changed without metamethods.
use Rattle.std.specs.Prelude.{ℕ, zero, suc, pos, List, [], ◌∷◌, ◌++◌, slice_get, slice_set, Option, Some, None, unwrap_or, if◌then◌else◌, nat_le}
use Rattle.love_base.specs.Data.{Contents}
use Rattle.lua_table.specs.Table.{Places, get, set, clear_key, border as least_border}
use Rattle.lua_tree.specs.Tree.{Bytes, Func}
use Rattle.lua_meaning.specs.Value.{Value, nil, num, str, table, same, is_nil}

-- a table (manual §2.2) and its metatable (manual §2.8), where it has one
pub record Table : Type 0 where
  pub places : Places Value Value
  pub meta : Option ℕ

-- a function that a program made (manual §2.5.9): its file, its node, and the cells of the names that it uses from
-- outside
pub record Closure : Type 0 where
  pub file : Bytes
  pub node : Func
  pub cells : List (Bytes × ℕ)

-- the tables, cells and Data that a state has made, each found at its place from 0
pub record Store : Type 0 where
  pub tables : List Table
  pub cells : List Value
  pub contents : List Contents

-- ---- the tables that each state has from its start

abbrev pub globals_place : ℕ
globals_place = 0

abbrev pub string_place : ℕ
string_place = 1

abbrev pub table_place : ℕ
table_place = 2

abbrev pub math_place : ℕ
math_place = 3

abbrev pub love_place : ℕ
love_place = 4

abbrev pub love_thread_place : ℕ
love_thread_place = 5

abbrev pub love_data_place : ℕ
love_data_place = 6

abbrev pub love_filesystem_place : ℕ
love_filesystem_place = 7

abbrev pub love_event_place : ℕ
love_event_place = 8

-- the metatable of all strings (manual §2.8)
abbrev pub text_meta_place : ℕ
text_meta_place = 9

-- ---- places of tables as numbers

-- the number that stands for a position; the last one is the greatest number
abbrev pub position : ℕ → Option Value
position zero = None
position (suc n) = if nat_le (suc n) 99999999999999 then Some (num (pos (suc n))) else None

-- the same, nil where there is none
abbrev pub position_key : ℕ → Value
position_key n = unwrap_or (position n) nil

-- ---- reading

abbrev pub no_table : Table
no_table = record { places = []; meta = None }

abbrev pub table_at : Store → ℕ → Table
table_at s t = unwrap_or (slice_get s.tables t) no_table

-- a table's value for a key, nil where it has none
abbrev pub raw_get : Store → ℕ → Value → Value
raw_get s t key = unwrap_or (get same (table_at s t).places key) nil

-- the least border of a table (manual §2.5.5)
abbrev pub border : Store → ℕ → ℕ
border s t = least_border same position (table_at s t).places

-- the metatable of a value (manual §2.8): a table has its own, all strings have one
abbrev pub metatable : Store → Value → Option ℕ
metatable s (table t) = (table_at s t).meta
metatable s (str bytes) = Some text_meta_place
metatable s v = None

abbrev pub handler_in : Store → Option ℕ → Bytes → Value
handler_in s None event = nil
handler_in s (Some m) event = raw_get s m (str event)

-- what a value's metatable has for an event, nil where it has nothing
abbrev pub handler : Store → Value → Bytes → Value
handler s v event = handler_in s (metatable s v) event

-- what a cell holds
abbrev pub cell_value : Store → ℕ → Value
cell_value s c = unwrap_or (slice_get s.cells c) nil

abbrev pub no_contents : Contents
no_contents = record { bytes = []; name = None }

-- the bytes and the name of Data
abbrev pub contents_at : Store → ℕ → Contents
contents_at s d = unwrap_or (slice_get s.contents d) no_contents

-- ---- changing

-- the places of a table with a value for a key; nil takes the key's value away
abbrev pub with_value : Places Value Value → (key value : Value) → Places Value Value
with_value places key value =
    if is_nil value then clear_key same places key else set same places key value

abbrev pub set_table : Store → ℕ → Table → Store
set_table s t made = record s { tables = slice_set s.tables t made }

-- a table gets a value for a key, which isn't nil
abbrev pub raw_set : Store → ℕ → (key value : Value) → Store
raw_set s t key value =
    set_table s t (record {
      places =
          with_value (table_at s t).places key value;
      meta = (table_at s t).meta;
    })

-- a table gets a metatable, or loses it
abbrev pub set_meta : Store → ℕ → Option ℕ → Store
set_meta s t meta = set_table s t (record { places = (table_at s t).places; meta = meta })

-- a new table stands at the first free place, and so do a new cell and Data
abbrev pub add_table : Store → Store
add_table s = record s { tables = s.tables ++ no_table ∷ [] }

abbrev pub add_cell : Store → Value → Store
add_cell s v = record s { cells = s.cells ++ v ∷ [] }

abbrev pub set_cell : Store → ℕ → Value → Store
set_cell s c v = record s { cells = slice_set s.cells c v }

abbrev pub add_contents : Store → Contents → Store
add_contents s made = record s { contents = s.contents ++ made ∷ [] }
