-- The texts of faults.
use Rattle.std.specs.Prelude.{◌++◌, codes, if◌then◌else◌, bytes_eq}
use Rattle.lua_tree.specs.Tree.{Bytes}
use Rattle.lua_operators.specs.declared.type_name.TypeName.{TypeName}
use Rattle.lua_operators.specs.declared.type_name.TypeName.TheVariants as name
use Rattle.lua_operators.specs.declared.fault.Fault.{Fault}
use Rattle.lua_operators.specs.declared.fault.Fault.TheVariants.{Arithmetic, NotWhole, OutOfRange, Concatenate, StringTooLong, Length, Compare, Index, IndexLoop}

abbrev pub type_text : TypeName → Bytes
type_text name.Nil = codes "nil"
type_text name.Boolean = codes "boolean"
type_text name.Number = codes "number"
type_text name.String = codes "string"
type_text name.Table = codes "table"
type_text name.Function = codes "function"
type_text name.Userdata = codes "userdata"

-- what was attempted on a value of a type
abbrev pub attempted : (attempt : Bytes) → TypeName → Bytes
attempted attempt name = attempt ++ (type_text name ++ codes " value")

abbrev pub pair_text : TypeName → TypeName → Bytes
pair_text left right =
    if bytes_eq (type_text left) (type_text right)
    then codes "attempt to compare two " ++ (type_text left ++ codes " values")
    else codes "attempt to compare " ++ (type_text left ++ (codes " with " ++ type_text right))

abbrev pub fault_text : Fault → Bytes
fault_text (Arithmetic name) = attempted (codes "attempt to perform arithmetic on a ") name
fault_text NotWhole = codes "number has no whole value"
fault_text OutOfRange = codes "number out of range"
fault_text (Concatenate name) = attempted (codes "attempt to concatenate a ") name
fault_text StringTooLong = codes "string too long"
fault_text (Length name) = attempted (codes "attempt to get length of a ") name
fault_text (Compare left right) = pair_text left right
fault_text (Index name) = attempted (codes "attempt to index a ") name
fault_text IndexLoop = codes "index loop"
