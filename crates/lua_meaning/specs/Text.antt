-- Values as texts and as numbers, and the names of their types.
use Rattle.std.specs.Prelude.{ℕ, ℤ, Bool, true, false, List, Option, Some, None, codes}
use Rattle.std.specs.Fmt.{signed_decimal}
use Rattle.lua_meaning.specs.Number.{read}
use Rattle.lua_meaning.specs.Value.{Value, nil, flag, num, str, table, func, native, channel, thread, datum}

-- the greatest length of a string
abbrev pub longest_string : ℕ
longest_string = 16777216

-- what `type` gives
abbrev pub type_name : Value → List ℕ
type_name nil = codes "nil"
type_name (flag b) = codes "boolean"
type_name (num n) = codes "number"
type_name (str s) = codes "string"
type_name (table t) = codes "table"
type_name (func f) = codes "function"
type_name (native f) = codes "function"
type_name (channel c) = codes "userdata"
type_name (thread t) = codes "userdata"
type_name (datum d) = codes "userdata"

-- a value as a number: a number itself, a string that reads as one
abbrev pub as_number : Value → Option ℤ
as_number (num n) = Some n
as_number (str s) = read s
as_number v = None

-- a value as a string: a string itself, a number's digits
abbrev pub as_text : Value → Option (List ℕ)
as_text (str s) = Some s
as_text (num n) = Some (signed_decimal n)
as_text v = None

-- the text of a flag
abbrev pub flag_text : Bool → List ℕ
flag_text true = codes "true"
flag_text false = codes "false"
