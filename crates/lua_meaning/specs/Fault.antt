-- Errors: their places and their texts.
use Rattle.std.specs.Prelude.{ℕ, suc, ◌++◌, Option, Some, None, if◌then◌else◌, codes, decimal, bytes_eq}
use Rattle.lua_value.specs.declared.arithmetic.NumFault.{NumFault}
use Rattle.lua_value.specs.declared.arithmetic.NumFault.TheVariants.{NotWhole, OutOfRange}
use Rattle.variant.specs.declared.reply.Refusal.{Refusal}
use Rattle.variant.specs.declared.reply.Refusal.TheVariants.{Full, WouldWaitInside, TooManyChannels, TooManyThreads, TooManyRunning, TooManyStarts, GameEnded}
use Rattle.lua_tree.specs.Tree.{Bytes}
use Rattle.lua_meaning.specs.Native.{Native, name, is_method}
use Rattle.lua_meaning.specs.Value.{Value, str}
use Rattle.lua_meaning.specs.Text.{type_name}

-- where in a source
pub record Place : Type 0 where
  pub file : Bytes
  pub line : ℕ

-- a text behind its place, where there is one
abbrev pub placed : Option Place → Bytes → Bytes
placed None text = text
placed (Some p) text = p.file ++ (codes ":" ++ (decimal p.line ++ (codes ": " ++ text)))

-- ---- errors of the language

abbrev pub arithmetic_text : Value → Bytes
arithmetic_text v = codes "attempt to perform arithmetic on a " ++ (type_name v ++ codes " value")

abbrev pub number_text : NumFault → Bytes
number_text NotWhole = codes "number has no whole value"
number_text OutOfRange = codes "number out of range"

abbrev pub concat_text : Value → Bytes
concat_text v = codes "attempt to concatenate a " ++ (type_name v ++ codes " value")

abbrev pub length_text : Value → Bytes
length_text v = codes "attempt to get length of a " ++ (type_name v ++ codes " value")

abbrev pub index_text : Value → Bytes
index_text v = codes "attempt to index a " ++ (type_name v ++ codes " value")

abbrev pub call_text : Value → Bytes
call_text v = codes "attempt to call a " ++ (type_name v ++ codes " value")

abbrev pub order_text : Value → Value → Bytes
order_text a b =
    if bytes_eq (type_name a) (type_name b)
    then codes "attempt to compare two " ++ (type_name a ++ codes " values")
    else codes "attempt to compare " ++ (type_name a ++ (codes " with " ++ type_name b))

-- ---- refusals of what a program asks

abbrev pub refusal_text : Refusal → Bytes
refusal_text Full = codes "channel is full"
refusal_text WouldWaitInside = codes "would wait inside its own performAtomic"
refusal_text TooManyChannels = codes "too many channels"
refusal_text TooManyThreads = codes "too many threads"
refusal_text (TooManyRunning running) = codes "too many threads are running: " ++ decimal running
refusal_text TooManyStarts = codes "too many starts"
refusal_text (GameEnded place) = codes "the game has ended"

-- ---- errors of library functions

-- an argument, counted from 0 as it was given, that has the wrong type or the wrong value; a text; or an error's value,
-- which gets no place
pub data Fault : Type 0 where
  wants : (argument : ℕ) (expected : Bytes) (got : Value) → Fault
  improper : (argument : ℕ) (text : Bytes) → Fault
  says : (text : Bytes) → Fault
  raises : Value → Fault

-- arguments are counted from 1, and behind a method's object, which is number 0
abbrev pub shown : Native → ℕ → ℕ
shown f argument = if is_method f then argument else suc argument

abbrev pub bad_argument : Native → ℕ → Bytes → Bytes
bad_argument f argument text =
    codes "bad argument #" ++ (decimal (shown f argument) ++ (codes " to '" ++ (name f ++
    (codes "' (" ++ (text ++ codes ")")))))

-- the value of a function's error, with the place of its caller
abbrev pub fault_value : Native → Option Place → Fault → Value
fault_value f at (wants argument expected got) =
    str (placed at (bad_argument f argument (expected ++
    (codes " expected, got " ++ type_name got))))
fault_value f at (improper argument text) = str (placed at (bad_argument f argument text))
fault_value f at (says text) = str (placed at text)
fault_value f at (raises v) = v
