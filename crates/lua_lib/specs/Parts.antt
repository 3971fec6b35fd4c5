-- Parts of Data.
use Rattle.std.specs.Prelude.{◌≡◌, List, Result, Ok, Err}
use Rattle.love_base.specs.Data.{Contents}
use Rattle.lua_tree.specs.Tree.{Bytes}
use Rattle.lua_meaning.specs.Value.{Value}
use Rattle.lua_meaning.specs.Store.{Store}
use Rattle.lua_meaning.specs.Arguments.{Lib}
use Rattle.lua_meaning.specs.Data.{new_data}
use Rattle.lua_lib.specs.declared.call.cause.Cause.{Cause}
use Rattle.lua_lib.specs.Faults.{RaisesBy}
use Rattle.lua_lib.specs.Causes.{error_of}

-- a part of a function makes these Data, or raises the error of a cause
abbrev pub IsPart : Lib (List Value) → Result Contents Cause → Type 0
IsPart part (Ok made) = (s : Store) → part s ≡ new_data made s
IsPart part (Err cause) = (texts : List Bytes) → RaisesBy part (error_of texts cause)
