-- What operators and fields come to on values and a store: a value, an error, or a handler that is asked.
use Rattle.std.specs.Prelude.{◌+◌, ℤ, pos, neg_ℤ, Bool, true, false, not, List, [], ◌∷◌, ◌++◌, length, Option, Some, None, Result, Ok, Err, if◌then◌else◌, nat_le, codes}
use Rattle.lua_value.specs.Arithmetic as arithmetic
use Rattle.lua_value.specs.declared.arithmetic.NumFault.{NumFault}
use Rattle.lua_tree.specs.Tree.{Bytes, UnOp, BinOp}
use Rattle.lua_meaning.specs.Value.{Value, nil, flag, num, str, table, is_true, same}
use Rattle.lua_meaning.specs.Text.{as_number, as_text, longest_string}
use Rattle.lua_meaning.specs.Store.{Store, border, handler}
use Rattle.lua_meaning.specs.Fault.{arithmetic_text, number_text, concat_text, length_text, order_text, index_text}
use Rattle.lua_meaning.specs.Handlers as handlers
use Rattle.lua_meaning.specs.Handlers.{Lookup, is_function}
use Rattle.lua_meaning.specs.Operators.{first_bad, first_no_text, binary_handler, shared_handler, is_less, is_not_greater}

-- what becomes of a handler's first result
pub data Use : Type 0 where
  plain : Use
  truth : Use
  untruth : Use

pub data Doing : Type 0 where
  gives : Value → Doing
  faults : (text : Bytes) → Doing
  asks : (handler : Value) → (args : List Value) → Use → Doing

-- a handler is asked, nil is an error
abbrev pub ask_or_fault : (handler : Value) → (text : Bytes) → List Value → Use → Doing
ask_or_fault nil text args use_ = faults text
ask_or_fault h text args use_ = asks h args use_

-- ---- arithmetic

abbrev pub exact : Result ℤ NumFault → Doing
exact (Ok z) = gives (num z)
exact (Err e) = faults (number_text e)

abbrev pub by_numbers : (ℤ → ℤ → Result ℤ NumFault) → (event : Bytes) → Store → Value → Value →
    Option ℤ → Option ℤ → Doing
by_numbers op event s a b (Some x) (Some y) = exact (op x y)
by_numbers op event s a b x y =
    ask_or_fault (binary_handler s event a b) (arithmetic_text (first_bad x a b)) (a ∷ b ∷ []) plain

abbrev pub calculate : (ℤ → ℤ → Result ℤ NumFault) → (event : Bytes) → Store → Value → Value → Doing
calculate op event s a b = by_numbers op event s a b (as_number a) (as_number b)

abbrev pub negative : Store → Value → Option ℤ → Doing
negative s v (Some n) = gives (num (neg_ℤ n))
negative s v None = ask_or_fault (handler s v (codes "__unm")) (arithmetic_text v) (v ∷ v ∷ []) plain

-- ---- concatenation and length

abbrev pub by_texts : Store → Value → Value → Option Bytes → Option Bytes → Doing
by_texts s a b (Some x) (Some y) =
    if nat_le (length x + length y) longest_string
    then gives (str (x ++ y))
    else faults (codes "string too long")
by_texts s a b x y =
    ask_or_fault (binary_handler s (codes "__concat") a b) (concat_text (first_no_text x a b))
    (a ∷ b ∷ []) plain

abbrev pub size : Store → Value → Doing
size s (str text) = gives (num (pos (length text)))
size s (table t) = gives (num (pos (border s t)))
size s v = faults (length_text v)

-- ---- comparison

abbrev pub equal_by : (handler : Value) → List Value → Doing
equal_by h args = if is_function h then asks h args truth else gives (flag false)

abbrev pub equal : Store → Value → Value → Doing
equal s a b =
    if same a b then gives (flag true)
    else equal_by (shared_handler s (codes "__eq") a b) (a ∷ b ∷ [])

abbrev pub other_use : Use → Use
other_use plain = untruth
other_use truth = untruth
other_use untruth = truth

abbrev pub opposite : Doing → Doing
opposite (gives v) = gives (flag (not (is_true v)))
opposite (faults text) = faults text
opposite (asks h args use_) = asks h args (other_use use_)

abbrev pub less_by : Option Bool → Store → Value → Value → Doing
less_by (Some known) s a b = gives (flag known)
less_by None s a b =
    ask_or_fault (shared_handler s (codes "__lt") a b) (order_text a b) (a ∷ b ∷ []) truth

abbrev pub less : Store → Value → Value → Doing
less s a b = less_by (is_less a b) s a b

abbrev pub up_to_by : (handler : Value) → Store → Value → Value → Doing
up_to_by nil s a b =
    ask_or_fault (shared_handler s (codes "__lt") b a) (order_text a b) (b ∷ a ∷ []) untruth
up_to_by h s a b = asks h (a ∷ b ∷ []) truth

abbrev pub up_to_known : Option Bool → Store → Value → Value → Doing
up_to_known (Some known) s a b = gives (flag known)
up_to_known None s a b = up_to_by (shared_handler s (codes "__le") a b) s a b

abbrev pub up_to : Store → Value → Value → Doing
up_to s a b = up_to_known (is_not_greater a b) s a b

-- ---- operators

abbrev pub unary_doing : UnOp → Store → Value → Doing
unary_doing UnOp.not_ s v = gives (flag (not (is_true v)))
unary_doing UnOp.length_of s v = size s v
unary_doing UnOp.negate s v = negative s v (as_number v)

abbrev pub binary_doing : BinOp → Store → Value → Value → Doing
binary_doing BinOp.or_ s a b = gives b
binary_doing BinOp.and_ s a b = gives b
binary_doing BinOp.less s a b = less s a b
binary_doing BinOp.greater s a b = less s b a
binary_doing BinOp.less_equal s a b = up_to s a b
binary_doing BinOp.greater_equal s a b = up_to s b a
binary_doing BinOp.not_equal s a b = opposite (equal s a b)
binary_doing BinOp.equal s a b = equal s a b
binary_doing BinOp.concat s a b = by_texts s a b (as_text a) (as_text b)
binary_doing BinOp.add s a b = calculate arithmetic.add (codes "__add") s a b
binary_doing BinOp.sub s a b = calculate arithmetic.sub (codes "__sub") s a b
binary_doing BinOp.mul s a b = calculate arithmetic.mul (codes "__mul") s a b
binary_doing BinOp.div s a b = calculate arithmetic.div (codes "__div") s a b
binary_doing BinOp.mod_ s a b = calculate arithmetic.rem (codes "__mod") s a b
binary_doing BinOp.pow s a b = calculate arithmetic.pow (codes "__pow") s a b

-- ---- fields

abbrev pub looked_up : (key : Value) → Lookup → Doing
looked_up key (handlers.found v) = gives v
looked_up key (handlers.asks h base) = asks h (base ∷ key ∷ []) plain
looked_up key (handlers.unindexed v) = faults (index_text v)
looked_up key handlers.endless = faults (codes "index loop")

abbrev pub field_doing : Store → (base key : Value) → Doing
field_doing s base key = looked_up key (handlers.lookup s base key)
