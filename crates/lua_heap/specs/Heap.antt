-- What a heap is to the definitions: the store of a state.
use Rattle.std.specs.Prelude.{◌≡◌, ℕ, ◌<◌, ◌≤◌, List, [], length, Option, Some, IfSome, slice_get, unwrap_or, map, codes}
use Rattle.std.specs.List.{AllByRecursion}
use Rattle.love_base.specs.Data.{Contents}
use Rattle.love_base.specs.Prefix.{IsPrefix}
use Rattle.lua_tree.specs.Tree.{Bytes}
use Rattle.lua_meaning.specs.Store.{Store, Table}
use Rattle.lua_heap.specs.declared.entries.Function.{Function}
use Rattle.lua_heap.specs.declared.entries.TableEntry.{TableEntry}
use Rattle.lua_heap.specs.declared.value.Value.{Value}
use Rattle.lua_heap.specs.Texts.{AreOnce}
use Rattle.lua_heap.specs.Value.{value_view, places_view, Counts, IsCounted, AreCounted}

-- what a heap has made, each by its id: strings, tables with their metatables, cells, functions and Data
pub record HeapView : Type 0 where
  pub texts : List Bytes
  pub tables : List TableEntry
  pub cells : List Value
  pub functions : List Function
  pub contents : List Contents

-- ---- a heap as a store

abbrev pub table_view : List Bytes → TableEntry → Table
table_view texts entry = record { places = places_view texts entry.table; meta = entry.meta }

-- the store that a heap is; the functions stand beside it
abbrev pub store_of : HeapView → Store
store_of h =
    record {
      tables = map (table_view h.texts) h.tables;
      cells = map (value_view h.texts) h.cells;
      contents = h.contents;
    }

abbrev pub no_function : Function
no_function = record { code = 0; proto = 0; cells = [] }

abbrev pub function_at : HeapView → ℕ → Function
function_at h id = unwrap_or (slice_get h.functions id) no_function

-- the store changes, and no string and no function
pub record Becomes (before after : HeapView) (change : Store → Store) : Type 0 where
  pub texts : after.texts ≡ before.texts
  pub functions : after.functions ≡ before.functions
  pub store : store_of after ≡ change (store_of before)

-- ---- what was made by a heap

abbrev pub counts : HeapView → Counts
counts h =
    record {
      texts = length h.texts;
      tables = length h.tables;
      functions = length h.functions;
      contents = length h.contents;
    }

-- a value was made by a heap: it has no id, or one that the heap gave
abbrev pub IsMade : HeapView → Value → Type 0
IsMade h v = IsCounted (counts h) v

abbrev pub IsMadeTable : HeapView → Option ℕ → Type 0
IsMadeTable h table = IfSome table (λ id. id < length h.tables)

abbrev pub AreMadeCells : HeapView → List ℕ → Type 0
AreMadeCells h cells = AllByRecursion (λ id. id < length h.cells) cells

abbrev pub IsMadeEntry : (c : Counts) → TableEntry → Type 0
IsMadeEntry c entry = AreCounted c entry.table × IfSome entry.meta (λ id. id < c.tables)

-- what holds of every heap: one id has one text; all that it holds was made by it; and the names of two events and the
-- first tables have their ids
pub record IsHeap (h : HeapView) : Type 0 where
  pub once : AreOnce h.texts
  pub index_name : slice_get h.texts 0 ≡ Some (codes "__index")
  pub newindex_name : slice_get h.texts 1 ≡ Some (codes "__newindex")
  pub tables : AllByRecursion (IsMadeEntry (counts h)) h.tables
  pub cells : AllByRecursion (IsCounted (counts h)) h.cells
  pub functions : AllByRecursion (λ (f : Function). AreMadeCells h f.cells) h.functions
  pub first_tables : 10 ≤ length h.tables

-- a heap later on: what it had made is there
pub record Extends (before after : HeapView) : Type 0 where
  pub texts : IsPrefix before.texts after.texts
  pub tables : length before.tables ≤ length after.tables
  pub cells : length before.cells ≤ length after.cells
  pub functions : IsPrefix before.functions after.functions
  pub contents : IsPrefix before.contents after.contents
