-- Which error each cause is, and what a function comes to, by the definitions of the library.
use Rattle.std.specs.Prelude.{ℤ, List, [], ◌∷◌, map, Option, None, Some, Result, Ok, Err, codes}
use Rattle.std.specs.List.{AllByRecursion}
use Rattle.lua_tree.specs.Tree.{Bytes}
use Rattle.lua_meaning.specs.Value as meant
use Rattle.lua_meaning.specs.Fault.{Fault as Error, wants, says, raises}
use Rattle.lua_meaning.specs.Arguments.{Lib}
use Rattle.lua_meaning.specs.Tables.{no_text}
use Rattle.lua_heap.specs.declared.value.Value.{Value}
use Rattle.lua_heap.specs.Value.{value_view}
use Rattle.lua_heap.specs.Heap.{HeapView, IsMade}
use Rattle.lua_lib.specs.declared.call.cause.Cause.{Cause}
use Rattle.lua_lib.specs.declared.call.cause.Cause.TheVariants.{Wants, By, NoText, Raises}
use Rattle.lua_lib.specs.declared.call.cause.Expected.{Expected}
use Rattle.lua_lib.specs.declared.call.cause.Expected.TheVariants.{Number, Text, Table, Data, FileData, Object, Channel, Thread, Function}
use Rattle.lua_lib.specs.Outcome.{Gives}
use Rattle.lua_lib.specs.Faults.{fault_error, RaisesBy}

-- ---- arguments

abbrev pub values_of : HeapView → List Value → List meant.Value
values_of h args = map (value_view h.texts) args

abbrev pub AreMade : HeapView → List Value → Type 0
AreMade h args = AllByRecursion (IsMade h) args

-- ---- errors

abbrev pub expected_text : Expected → Bytes
expected_text Number = codes "number"
expected_text Text = codes "string"
expected_text Table = codes "table"
expected_text Data = codes "Data"
expected_text FileData = codes "FileData"
expected_text Object = codes "Object"
expected_text Channel = codes "Channel"
expected_text Thread = codes "Thread"
expected_text Function = codes "function"

-- the error of a cause among the strings of a heap
abbrev pub error_of : List Bytes → Cause → Option Error
error_of texts (Wants argument expected got) =
    Some (wants argument (expected_text expected) (value_view texts got))
error_of texts (By fault) = fault_error fault
error_of texts (NoText number value) = Some (says (no_text (value_view texts value) number))
error_of texts (Raises value) = Some (raises (value_view texts value))

-- ---- answers

-- a part of a function gives what an answer stands for, or raises the error of its cause
abbrev pub Comes : {R A : Type 0} → (R → A) → HeapView → Lib A → Result R Cause → Type 0
Comes meant h part (Ok answer) = Gives part (meant answer)
Comes meant h part (Err cause) = RaisesBy part (error_of h.texts cause)

-- one number, one text
abbrev pub one_number : ℤ → List meant.Value
one_number n = meant.num n ∷ []

abbrev pub one_text : Bytes → List meant.Value
one_text text = meant.str text ∷ []

-- the places of a first and a last byte, or nil
abbrev pub places_or_nil : Option (ℤ × ℤ) → List meant.Value
places_or_nil None = meant.nil ∷ []
places_or_nil (Some places) = meant.num places.0 ∷ meant.num places.1 ∷ []
