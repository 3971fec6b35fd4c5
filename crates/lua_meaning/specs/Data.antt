-- Functions of `love.data`, the methods of Data, and what all objects answer (LÖVE wiki, `love.data`, `Data`, `Object`).
use Rattle.std.specs.Prelude.{ℤ, pos, negsuc, ◌+◌, ◌-◌, Bool, true, false, ◌||◌, List, length, Option, Some, None, if◌then◌else◌, nat_le, bytes_eq, codes}
use Rattle.love_base.specs.Data.{Contents, part}
use Rattle.lua_tree.specs.Tree.{Bytes}
use Rattle.lua_meaning.specs.Value.{Value, flag, num, str, channel, thread, datum}
use Rattle.lua_meaning.specs.Store.{Store, contents_at, add_contents}
use Rattle.lua_meaning.specs.Fault.{wants, improper}
use Rattle.lua_meaning.specs.Arguments.{Lib, ◌>>=◌, ◌>>◌, answer_one, fault, look, change, argument, wanted, number_argument, number_or, text_argument, data_argument}
use Rattle.lua_meaning.specs.Strings.{string_value}

-- new Data, as a value
abbrev pub new_data : Contents → Lib (List Value)
new_data made = do
  d ← look (λ s. datum (length s.contents))
  change (λ s. add_contents s made)
  answer_one d

-- the bytes of Data from an offset on, so many of them
abbrev pub part_of : Contents → (offset size : ℤ) → Lib (List Value)
part_of whole (pos offset) (pos size) =
    if nat_le offset (length whole.bytes)
    then (if nat_le (offset + size) (length whole.bytes) then
    new_data (part whole offset size) else fault (improper 2 (codes "out of bounds")))
    else fault (improper 1 (codes "out of bounds"))
part_of whole (pos offset) (negsuc size) =
    if nat_le offset (length whole.bytes)
    then fault (improper 2 (codes "out of bounds"))
    else fault (improper 1 (codes "out of bounds"))
part_of whole (negsuc offset) size = fault (improper 1 (codes "out of bounds"))

-- what follows an offset; an offset that isn't one is refused afterwards
abbrev pub size_behind : Contents → ℤ → ℤ
size_behind whole (pos offset) = pos (length whole.bytes - offset)
size_behind whole (negsuc offset) = pos 0

abbrev pub copied : Value → List Value → Lib (List Value)
copied (str bytes) args = new_data (record { bytes = bytes; name = None })
copied (datum d) args = do
  whole ← look (λ s. contents_at s d)
  offset ← number_or 1 args (pos 0)
  size ← number_or 2 args (size_behind whole offset)
  part_of whole offset size
copied v args = fault (wants 0 (codes "string") v)

-- `love.data.newByteData(x, offset, size)`: of a string all its bytes
abbrev pub new_byte_data : List Value → Lib (List Value)
new_byte_data args = copied (argument 0 args) args

-- `love.data.newDataView(d, offset, size)`
abbrev pub new_data_view : List Value → Lib (List Value)
new_data_view args = do
  d ← data_argument 0 args
  whole ← look (λ s. contents_at s d)
  offset ← number_argument 1 args
  size ← number_argument 2 args
  part_of whole offset size

-- `d:getString()`
abbrev pub get_string : List Value → Lib (List Value)
get_string args = do
  d ← data_argument 0 args
  whole ← look (λ s. contents_at s d)
  string_value whole.bytes

-- `d:getSize()`
abbrev pub get_size : List Value → Lib (List Value)
get_size args = do
  d ← data_argument 0 args
  whole ← look (λ s. contents_at s d)
  answer_one (num (pos (length whole.bytes)))

abbrev pub file_name : Value → Option Bytes → Lib (List Value)
file_name v None = fault (wants 0 (codes "FileData") v)
file_name v (Some text) = answer_one (str text)

abbrev pub name_in : Store → Value → Option Bytes
name_in s (datum d) = (contents_at s d).name
name_in s v = None

-- `d:getFilename()`, of what came from a file
abbrev pub get_filename : List Value → Lib (List Value)
get_filename args = do
  text ← look (λ s. name_in s (argument 0 args))
  file_name (argument 0 args) text

abbrev pub data_type : Option Bytes → Bytes
data_type None = codes "ByteData"
data_type (Some text) = codes "FileData"

-- the type of an object; other values are none
abbrev pub object_type : Store → Value → Option Bytes
object_type s (channel c) = Some (codes "Channel")
object_type s (thread t) = Some (codes "Thread")
object_type s (datum d) = Some (data_type (contents_at s d).name)
object_type s v = None

abbrev pub type_argument : List Value → Lib Bytes
type_argument args = look (λ s. object_type s (argument 0 args)) >>=
    λ t. wanted 0 (codes "Object") (argument 0 args) t

-- `o:type()`
abbrev pub type : List Value → Lib (List Value)
type args = type_argument args >>= λ t. answer_one (str t)

abbrev pub is_data : Value → Bool
is_data (datum d) = true
is_data v = false

-- whether an object of a type has a type's name: its own, `Object`, and `Data` where it is Data
abbrev pub has_type : Value → (type name : Bytes) → Bool
has_type v type name =
    bytes_eq type name || (bytes_eq name (codes "Object") || data_named (is_data v) name)
  where
    data_named : Bool → Bytes → Bool
    data_named true name = bytes_eq name (codes "Data")
    data_named false name = false

-- `o:typeOf(name)`
abbrev pub type_of : List Value → Lib (List Value)
type_of args = do
  t ← type_argument args
  name ← text_argument 1 args
  answer_one (flag (has_type (argument 0 args) t name))
