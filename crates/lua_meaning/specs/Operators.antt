-- Operators, indexing and assignment to fields (manual §2.5, §2.8), each with its handlers.
use Rattle.std.specs.Prelude.{Bool, ℕ, ◌+◌, ℤ, pos, neg_ℤ, true, false, not, List, [], ◌∷◌, ◌++◌, length, Option, Some, None, Result, Ok, Err, if◌then◌else◌, nat_le, int_lt, int_le, codes, ⊤}
use Rattle.lua_value.specs.Arithmetic as arithmetic
use Rattle.lua_value.specs.declared.arithmetic.NumFault.{NumFault}
use Rattle.lua_tree.specs.Tree.{Bytes, UnOp, BinOp}
use Rattle.lua_meaning.specs.Value.{Value, nil, flag, num, str, table, is_true, same}
use Rattle.lua_meaning.specs.Text.{as_number, as_text, longest_string}
use Rattle.lua_meaning.specs.Store.{Store, raw_set, border, handler}
use Rattle.lua_meaning.specs.World.{Act, ◌>>=◌, ◌>>◌, give, look, change, one}
use Rattle.lua_meaning.specs.Fault.{arithmetic_text, number_text, concat_text, length_text, order_text, index_text}
use Rattle.lua_meaning.specs.Handlers.{Lookup, found, asks, unindexed, endless, lookup, Setting, in_table, asks_set, unindexed_set, endless_set, setting, is_function}
use Rattle.lua_meaning.specs.Calls.{Later, Here, fault_at, call_at}
use Rattle.lua_meaning.specs.Tables.{is_text_up_to}

-- the first value that a test refuses
abbrev pub first_bad : Option ℤ → Value → Value → Value
first_bad None a b = a
first_bad (Some n) a b = b

abbrev pub first_no_text : Option Bytes → Value → Value → Value
first_no_text None a b = a
first_no_text (Some t) a b = b

abbrev pub or_else : Value → Value → Value
or_else nil v = v
or_else h v = h

-- the handler of a binary event: the first operand's, else the second's
abbrev pub binary_handler : Store → Bytes → Value → Value → Value
binary_handler s event a b = or_else (handler s a event) (handler s b event)

-- the handler of two tables that have the same one, nil for other values
abbrev pub shared_handler : Store → Bytes → Value → Value → Value
shared_handler s event (table a) (table b) =
    if same (handler s (table a) event) (handler s (table b) event)
    then handler s (table a) event
    else nil
shared_handler s event a b = nil

-- the order of two numbers, and of two strings by bytes; other values have none of their own
abbrev pub is_less : Value → Value → Option Bool
is_less (num x) (num y) = Some (int_lt x y)
is_less (str x) (str y) = Some (not (is_text_up_to y x))
is_less a b = None

abbrev pub is_not_greater : Value → Value → Option Bool
is_not_greater (num x) (num y) = Some (int_le x y)
is_not_greater (str x) (str y) = Some (is_text_up_to x y)
is_not_greater a b = None

-- every operator below stands at a line of the running function
module _ (again : Later) (here : Here) (line : ℕ) where
  -- the first result of a handler
  abbrev pub ask_handler : Value → List Value → Act Value
  ask_handler h args = one (call_at again here line h args)

  abbrev pub ask_or_fault : (handler : Value) → (text : Bytes) → List Value → Act Value
  ask_or_fault nil text args = fault_at here line text
  ask_or_fault h text args = ask_handler h args

  -- ---- arithmetic (manual §2.5.1)

  abbrev pub exact : Result ℤ NumFault → Act Value
  exact (Ok z) = give (num z)
  exact (Err e) = fault_at here line (number_text e)

  abbrev pub by_numbers : (ℤ → ℤ → Result ℤ NumFault) → (event : Bytes) → Value → Value →
      Option ℤ → Option ℤ → Act Value
  by_numbers op event a b (Some x) (Some y) = exact (op x y)
  by_numbers op event a b x y =
      look (λ s. binary_handler s event a b) >>= λ h. ask_or_fault h (arithmetic_text
      (first_bad x a b)) (a ∷ b ∷ [])

  -- numbers and strings that read as numbers; else the event's handler
  abbrev pub calculate : (ℤ → ℤ → Result ℤ NumFault) → (event : Bytes) → Value → Value → Act Value
  calculate op event a b = by_numbers op event a b (as_number a) (as_number b)

  abbrev pub by_number : Value → Option ℤ → Act Value
  by_number v (Some n) = give (num (neg_ℤ n))
  by_number v None = look (λ s. handler s v (codes "__unm")) >>=
      λ h. ask_or_fault h (arithmetic_text v) (v ∷ v ∷ [])

  abbrev pub negative : Value → Act Value
  negative v = by_number v (as_number v)

  -- ---- concatenation and length (manual §2.5.4, §2.5.5)

  abbrev pub by_texts : Value → Value → Option Bytes → Option Bytes → Act Value
  by_texts a b (Some x) (Some y) =
      if nat_le (length x + length y) longest_string
      then give (str (x ++ y))
      else fault_at here line (codes "string too long")
  by_texts a b x y =
      look (λ s. binary_handler s (codes "__concat") a b) >>=
      λ h. ask_or_fault h (concat_text (first_no_text x a b)) (a ∷ b ∷ [])

  -- strings and numbers; else the handler
  abbrev pub concatenate : Value → Value → Act Value
  concatenate a b = by_texts a b (as_text a) (as_text b)

  -- a string's bytes; a table's least border
  abbrev pub size : Value → Act Value
  size (str s) = give (num (pos (length s)))
  size (table t) = look (λ s. num (pos (border s t)))
  size v = fault_at here line (length_text v)

  -- ---- comparison (manual §2.5.2)

  abbrev pub truth : Value → Act Value
  truth v = give (flag (is_true v))

  abbrev pub untruth : Value → Act Value
  untruth v = give (flag (not (is_true v)))

  abbrev pub equal_by : (handler : Value) → List Value → Act Value
  equal_by h args = if is_function h then (ask_handler h args >>=
      λ v. truth v) else give (flag false)

  -- the same value; two tables are also compared by the function that both have as their handler
  abbrev pub equal : Value → Value → Act Value
  equal a b =
      if same a b then give (flag true)
      else (look (λ s. shared_handler s (codes "__eq") a b) >>= λ h. equal_by h (a ∷ b ∷ []))

  abbrev pub unequal : Value → Value → Act Value
  unequal a b = equal a b >>= λ v. untruth v

  abbrev pub less_by : Option Bool → Value → Value → Act Value
  less_by (Some known) a b = give (flag known)
  less_by None a b =
      look (λ s. shared_handler s (codes "__lt") a b) >>=
      λ h. ask_or_fault h (order_text a b) (a ∷ b ∷ []) >>= λ v. truth v

  -- two numbers, or two strings by bytes; else the handler that both tables have
  abbrev pub less : Value → Value → Act Value
  less a b = less_by (is_less a b) a b

  abbrev pub not_greater : (handler : Value) → Value → Value → Act Value
  not_greater h a b = ask_or_fault h (order_text a b) (b ∷ a ∷ []) >>= λ v. untruth v

  -- without a handler `__le`, a <= b is not (b < a)
  abbrev pub up_to_by : (handler : Value) → Value → Value → Act Value
  up_to_by nil a b = look (λ s. shared_handler s (codes "__lt") b a) >>= λ h. not_greater h a b
  up_to_by h a b = ask_handler h (a ∷ b ∷ []) >>= λ v. truth v

  abbrev pub up_to_known : Option Bool → Value → Value → Act Value
  up_to_known (Some known) a b = give (flag known)
  up_to_known None a b = look (λ s. shared_handler s (codes "__le") a b) >>= λ h. up_to_by h a b

  abbrev pub up_to : Value → Value → Act Value
  up_to a b = up_to_known (is_not_greater a b) a b

  -- ---- operators

  -- the value of a unary operator
  abbrev pub unary_value : UnOp → Value → Act Value
  unary_value UnOp.not_ v = untruth v
  unary_value UnOp.length_of v = size v
  unary_value UnOp.negate v = negative v

  -- the value of a binary operator whose both operands are evaluated; a > b is b < a, and a >= b is b <= a
  abbrev pub binary_value : BinOp → Value → Value → Act Value
  binary_value BinOp.or_ a b = give b
  binary_value BinOp.and_ a b = give b
  binary_value BinOp.less a b = less a b
  binary_value BinOp.greater a b = less b a
  binary_value BinOp.less_equal a b = up_to a b
  binary_value BinOp.greater_equal a b = up_to b a
  binary_value BinOp.not_equal a b = unequal a b
  binary_value BinOp.equal a b = equal a b
  binary_value BinOp.concat a b = concatenate a b
  binary_value BinOp.add a b = calculate arithmetic.add (codes "__add") a b
  binary_value BinOp.sub a b = calculate arithmetic.sub (codes "__sub") a b
  binary_value BinOp.mul a b = calculate arithmetic.mul (codes "__mul") a b
  binary_value BinOp.div a b = calculate arithmetic.div (codes "__div") a b
  binary_value BinOp.mod_ a b = calculate arithmetic.rem (codes "__mod") a b
  binary_value BinOp.pow a b = calculate arithmetic.pow (codes "__pow") a b

  -- a binary operator with what evaluates its operands: `and` and `or` give the first one, and leave the second, where
  -- it decides (manual §2.5.3)
  abbrev pub operate : BinOp → (left right : Act Value) → Act Value
  operate BinOp.and_ left right = left >>= λ a. if is_true a then right else give a
  operate BinOp.or_ left right = left >>= λ a. if is_true a then give a else right
  operate op left right = left >>= λ a. right >>= λ b. binary_value op a b

  -- ---- fields (manual §2.2, §2.3)

  abbrev pub looked_up : (key : Value) → Lookup → Act Value
  looked_up key (found v) = give v
  looked_up key (asks h base) = ask_handler h (base ∷ key ∷ [])
  looked_up key (unindexed v) = fault_at here line (index_text v)
  looked_up key endless = fault_at here line (codes "index loop")

  -- a field of a value
  abbrev pub field : (base key : Value) → Act Value
  field base key = look (λ s. lookup s base key) >>= λ result. looked_up key result

  abbrev pub set_raw : ℕ → (key value : Value) → Act ⊤
  set_raw t nil v = fault_at here line (codes "table index is nil")
  set_raw t key v = change (λ s. raw_set s t key v)

  abbrev pub set_by : (key value : Value) → Setting → Act ⊤
  set_by key v (in_table t) = set_raw t key v
  set_by key v (asks_set h base) = call_at again here line h (base ∷ key ∷ v ∷ []) >> give tt
  set_by key v (unindexed_set base) = fault_at here line (index_text base)
  set_by key v endless_set = fault_at here line (codes "index loop")

  -- a field of a value is set
  abbrev pub set_field : (base key value : Value) → Act ⊤
  set_field base key v = look (λ s. setting s base key) >>= λ result. set_by key v result
