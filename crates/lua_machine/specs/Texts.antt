-- The texts of values.
use Rattle.std.specs.Prelude.{Bool, true, false, Option, Some, None, ⊤}
use Rattle.lua_tree.specs.Tree.{Bytes}
use Rattle.lua_meaning.specs.Store.{contents_at}
use Rattle.lua_heap.specs.declared.value.Value.{Value}
use Rattle.lua_heap.specs.declared.value.Value.TheVariants.{Num, Str, Data}
use Rattle.lua_heap.specs.Heap.{HeapView, store_of}

-- a value that is no string and no number
abbrev pub IsNoText : Value → Type 0
IsNoText (Str id) = ⊥
IsNoText (Num n) = ⊥
IsNoText v = ⊤

abbrev pub is_named : Option Bytes → Bool
is_named None = false
is_named (Some name) = true

-- Data that came from a file
abbrev pub is_file_data : HeapView → Value → Bool
is_file_data h (Data id) = is_named (contents_at (store_of h) id).name
is_file_data h v = false
