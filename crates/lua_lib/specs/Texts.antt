-- The texts of errors of functions.
use Rattle.std.specs.Prelude.{Bool, true, false, List, [], ◌++◌, Option, None, Some, codes, if◌then◌else◌}
use Rattle.lua_tree.specs.Tree.{Bytes}
use Rattle.lua_meaning.specs.Native.{Native}
use Rattle.lua_meaning.specs.Value.{Value, str}
use Rattle.lua_meaning.specs.Text.{type_name}
use Rattle.lua_meaning.specs.Fault.{Fault as Error, Place, wants, improper, says, raises, bad_argument, placed}
use Rattle.lua_heap.specs.Value.{value_view}
use Rattle.lua_lib.specs.declared.fault.Fault.{Fault}
use Rattle.lua_lib.specs.declared.fault.Fault.TheVariants.{AssertionFailed, Memory}
use Rattle.lua_lib.specs.declared.call.cause.Cause.{Cause}
use Rattle.lua_lib.specs.declared.call.cause.Cause.TheVariants.{By, Raises}
use Rattle.lua_lib.specs.Causes.{error_of}

-- what an error says, without its place; want of memory says nothing
abbrev pub error_text : Native → Option Error → Bytes
error_text f None = []
error_text f (Some (wants argument expected got)) =
    bad_argument f argument (expected ++ (codes " expected, got " ++ type_name got))
error_text f (Some (improper argument text)) = bad_argument f argument text
error_text f (Some (says text)) = text
error_text f (Some (raises (str text))) = text
error_text f (Some (raises v)) = []

-- what a cause says: of a value that a program gave nothing, since the value is the error; no string's text is looked up
abbrev pub cause_text : Native → Cause → Bytes
cause_text f (Raises v) = []
cause_text f cause = error_text f (error_of [] cause)

-- whether the text of an error stands behind the place of its caller: the message of `assert` doesn't
abbrev pub is_placed : Fault → Bool
is_placed AssertionFailed = false
is_placed Memory = false
is_placed fault = true

abbrev pub has_place : Cause → Bool
has_place (Raises v) = false
has_place (By fault) = is_placed fault
has_place cause = true

abbrev pub placed_text : Native → Place → Cause → Bytes
placed_text f at cause =
    if has_place cause then placed (Some at) (cause_text f cause) else cause_text f cause

-- the value of a cause's error
abbrev pub cause_value : Native → Place → List Bytes → Cause → Value
cause_value f at texts (Raises v) = value_view texts v
cause_value f at texts cause = str (placed_text f at cause)
