-- What operators come to where their operands are of one kind or another.
use Rattle.std.specs.Prelude.{◌≡◌, ℤ, ◌<◌, Bool, true, false, [], ◌∷◌, ◌++◌, length, Option, None, Some, Result, codes}
use Rattle.lua_value.specs.Arithmetic as arithmetic
use Rattle.lua_value.specs.declared.arithmetic.NumFault.{NumFault}
use Rattle.lua_tree.specs.Tree.{Bytes}
use Rattle.lua_meaning.specs.Value.{Value, str, table}
use Rattle.lua_meaning.specs.Store.{Store, border}
use Rattle.lua_meaning.specs.Fault.{arithmetic_text, concat_text}
use Rattle.lua_meaning.specs.Operators.{binary_handler}
use Rattle.lua_code.specs.Doing.{Doing, ask_or_fault, plain}
use Rattle.lua_operators.specs.declared.arithmetic.Arithmetic.{Arithmetic}
use Rattle.lua_operators.specs.declared.arithmetic.Arithmetic.TheVariants.{Add, Sub, Mul, Div, Mod, Pow}

abbrev pub operation : Arithmetic → ℤ → ℤ → Result ℤ NumFault
operation Add = arithmetic.add
operation Sub = arithmetic.sub
operation Mul = arithmetic.mul
operation Div = arithmetic.div
operation Mod = arithmetic.rem
operation Pow = arithmetic.pow

abbrev pub event_of : Arithmetic → Bytes
event_of Add = codes "__add"
event_of Sub = codes "__sub"
event_of Mul = codes "__mul"
event_of Div = codes "__div"
event_of Mod = codes "__mod"
event_of Pow = codes "__pow"

-- arithmetic on two values where one is no number; the first of these is the bad one
abbrev pub arithmetic_handled : (event : Bytes) → Store → (a b bad : Value) → Doing
arithmetic_handled event s a b bad =
    ask_or_fault (binary_handler s event a b) (arithmetic_text bad) (a ∷ b ∷ []) plain

-- concatenation, where one is no string and no number
abbrev pub concat_handled : Store → (a b bad : Value) → Doing
concat_handled s a b bad =
    ask_or_fault (binary_handler s (codes "__concat") a b) (concat_text bad) (a ∷ b ∷ []) plain

-- a text was put behind another one, or there was none
abbrev pub HasPut : Option Bytes → (put : Bool) → (old new : Bytes) → Type 0
HasPut None put old new = put ≡ false
HasPut (Some text) put old new = (put ≡ true) × (new ≡ old ++ text)

-- a length that is no number
abbrev pub IsTooLarge : Store → Value → Type 0
IsTooLarge s (str text) = 99999999999999 < length text
IsTooLarge s (table t) = 99999999999999 < border s t
IsTooLarge s v = ⊥
