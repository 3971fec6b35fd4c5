-- The texts of values.
use Rattle.std.proofs.Common.{◌≡◌, ℕ, List, refl, ap, sym, ◌∙◌, Bool, true, false, Option, Some, None}
use Rattle.std.specs.Prelude.{codes}
use Rattle.lua_tree.specs.Tree.{Bytes}
use Rattle.lua_meaning.specs.Store.{Store, contents_at}
use Rattle.lua_meaning.specs.Data.{data_type}
use Rattle.lua_meaning.specs.Control.{value_text}
use Rattle.lua_heap.specs.declared.value.Value.{Value}
use Rattle.lua_heap.specs.declared.value.Value.TheVariants.{Nil, Bool as Flag, Num, Str, Table, Func, Native, Channel, Thread, Data}
use Rattle.lua_heap.specs.Value.{value_view}
use Rattle.lua_heap.specs.Heap.{HeapView, store_of}
use Rattle.lua_machine.specs.View.{text_of}
use Rattle.lua_machine.specs.Texts.{IsNoText, is_named, is_file_data}

data_named : (name : Option Bytes) → is_named name ≡ true → codes "FileData" ≡ data_type name
data_named None is = cc
data_named (Some text) is = refl

data_other : (name : Option Bytes) → is_named name ≡ false → codes "ByteData" ≡ data_type name
data_other None is = refl
data_other (Some text) is = cc

-- the name of the type of Data that came from a file
pub file_text : (h : HeapView) (v : Value) → is_file_data h v ≡ true → codes "FileData" ≡ value_text (store_of h) (value_view h.texts v)
file_text h (Data id) is = data_named (contents_at (store_of h) id).name is
file_text h Nil is = cc
file_text h (Flag b) is = cc
file_text h (Num z) is = cc
file_text h (Str id) is = cc
file_text h (Table id) is = cc
file_text h (Func id) is = cc
file_text h (Native f) is = cc
file_text h (Channel n) is = cc
file_text h (Thread n) is = cc

-- other values have their text whatever the heap holds
pub other_text : (h : HeapView) (v : Value) → is_file_data h v ≡ false → text_of (value_view h.texts v) ≡ value_text (store_of h) (value_view h.texts v)
other_text h (Data id) is = data_other (contents_at (store_of h) id).name is
other_text h Nil is = refl
other_text h (Flag b) is = refl
other_text h (Num z) is = refl
other_text h (Str id) is = refl
other_text h (Table id) is = refl
other_text h (Func id) is = refl
other_text h (Native f) is = refl
other_text h (Channel n) is = refl
other_text h (Thread n) is = refl
