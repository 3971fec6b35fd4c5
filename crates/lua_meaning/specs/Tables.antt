-- The functions of `table` (manual §5.5). Tables are read and set without metamethods.
use Rattle.std.specs.Prelude.{ℕ, zero, suc, ℤ, pos, ◌-◌, ◌+ℤ◌, Bool, true, false, ◌||◌, List, [], ◌∷◌, ◌++◌, length, drop, Option, Some, None, if◌then◌else◌, nat_eq, nat_le, nat_lt, max, int_le, codes}
use Rattle.std.specs.Fmt.{signed_decimal}
use Rattle.lua_table.specs.Table.{Places}
use Rattle.lua_tree.specs.Tree.{Bytes}
use Rattle.lua_meaning.specs.Value.{Value, nil, num, str, is_nil}
use Rattle.lua_meaning.specs.Text.{type_name, as_text}
use Rattle.lua_meaning.specs.Store.{Store, table_at, raw_get, raw_set, border, position_key}
use Rattle.lua_meaning.specs.Fault.{improper, says}
use Rattle.lua_meaning.specs.Arguments.{Lib, ◌>>=◌, ◌>>◌, answer, answer_one, fault, look, change, argument, number_argument, number_or, text_or, table_argument}
use Rattle.lua_meaning.specs.Basic.{count_from, items_from}
use Rattle.lua_meaning.specs.Strings.{string_value}

-- the values of a table at 1 to n
abbrev pub items : Store → ℕ → ℕ → List Value
items s t n = items_from s t (pos 1) n

-- values at n, n + 1 and so on
abbrev pub set_items : ℕ → ℕ → List Value → Store → Store
set_items t n [] s = s
set_items t n (v ∷ vs) s = set_items t (suc n) vs (raw_set s t (position_key n) v)

-- ---- concat

abbrev pub no_text : Value → ℤ → Bytes
no_text v i = codes "invalid value (" ++ (type_name v ++ (codes ") at index " ++
    (signed_decimal i ++ codes " in table for 'concat'")))

abbrev pub text_at : Value → ℤ → Option Bytes → Lib Bytes
text_at v i None = fault (says (no_text v i))
text_at v i (Some text) = answer text

-- so many values from i on as texts, with a text between
abbrev pub joined : (between : Bytes) → ℕ → ℤ → ℕ → Lib Bytes
joined between t i zero = answer []
joined between t i (suc zero) = look (λ s. raw_get s t (num i)) >>= λ v. text_at v i (as_text v)
joined between t i (suc (suc more)) = do
  v ← look (λ s. raw_get s t (num i))
  text ← text_at v i (as_text v)
  rest ← joined between t (i +ℤ pos 1) (suc more)
  answer (text ++ (between ++ rest))

-- `table.concat(t, sep, i, j)`
abbrev pub concat : List Value → Lib (List Value)
concat args = do
  t ← table_argument 0 args
  between ← text_or 1 args []
  i ← number_or 2 args (pos 1)
  n ← look (λ s. border s t)
  j ← number_or 3 args (pos n)
  text ← joined between t i (count_from i j)
  string_value text

-- ---- insert and remove

-- a value at a position of a table whose items from there on move up by one; past the item behind the last one nothing
-- moves
abbrev pub inserted : ℕ → ℕ → Value → Store → Store
inserted t n v s =
    if nat_le n (border s t)
    then set_items t n (v ∷ drop (n - 1) (items s t (border s t))) s
    else raw_set s t (position_key n) v

abbrev pub insert_at : ℕ → ℤ → Value → Lib (List Value)
insert_at t (pos (suc n)) v = change (λ s. inserted t (suc n) v s) >> answer []
insert_at t n v = fault (improper 1 (codes "position out of bounds"))

abbrev pub insert_by : ℕ → (count : ℕ) → List Value → Lib (List Value)
insert_by t (suc (suc (suc more))) args =
    number_argument 1 args >>= λ n. insert_at t n (argument 2 args)
insert_by t count args =
    change (λ s. raw_set s t (position_key (suc (border s t))) (argument 1 args)) >> answer []

-- `table.insert(t, v)`, and with a third argument `table.insert(t, pos, v)`
abbrev pub insert_item : List Value → Lib (List Value)
insert_item args = do
  t ← table_argument 0 args
  insert_by t (length args) args

-- the items behind a position move down by one, and the last one is gone
abbrev pub removed : ℕ → ℕ → Store → Store
removed t n s = set_items t n (drop n (items s t (border s t)) ++ nil ∷ []) s

abbrev pub remove_at : ℕ → ℕ → ℤ → Lib (List Value)
remove_at t size (pos (suc n)) =
    if nat_le (suc n) size
    then (look (λ s. raw_get s t (position_key (suc n))) >>=
    λ v. change (λ s. removed t (suc n) s) >> answer_one v)
    else answer []
remove_at t size n = answer []

-- `table.remove(t, pos)`
abbrev pub remove_item : List Value → Lib (List Value)
remove_item args = do
  t ← table_argument 0 args
  size ← look (λ s. border s t)
  n ← number_or 1 args (pos size)
  remove_at t size n

-- ---- maxn

abbrev pub greater_key : Value → ℕ → ℕ
greater_key (num (pos n)) greatest = max n greatest
greater_key k greatest = greatest

abbrev pub with_key : (key : Value) → Option Value → ℕ → ℕ
with_key k None greatest = greatest
with_key k (Some v) greatest = greater_key k greatest

abbrev pub greatest_key : Places Value Value → ℕ
greatest_key [] = 0
greatest_key (place ∷ rest) = with_key place.0 place.1 (greatest_key rest)

-- `table.maxn(t)`: the greatest positive number that is a key with a value, or 0
abbrev pub maxn : List Value → Lib (List Value)
maxn args = do
  t ← table_argument 0 args
  n ← look (λ s. greatest_key (table_at s t).places)
  answer_one (num (pos n))

-- ---- sort

-- whether a text stands before another one or is the same, by bytes
abbrev pub is_text_up_to : Bytes → Bytes → Bool
is_text_up_to [] b = true
is_text_up_to (x ∷ a) [] = false
is_text_up_to (x ∷ a) (y ∷ b) = if nat_eq x y then is_text_up_to a b else nat_lt x y

-- whether all values are numbers; strings
abbrev pub are_numbers : List Value → Bool
are_numbers [] = true
are_numbers (num n ∷ vs) = are_numbers vs
are_numbers (v ∷ vs) = false

abbrev pub are_texts : List Value → Bool
are_texts [] = true
are_texts (str s ∷ vs) = are_texts vs
are_texts (v ∷ vs) = false

-- the order of two numbers, and of two strings
abbrev pub is_up_to : Value → Value → Bool
is_up_to (num a) (num b) = int_le a b
is_up_to (str a) (str b) = is_text_up_to a b
is_up_to a b = true

-- a value among values that ascend
abbrev pub placed_among : Value → List Value → List Value
placed_among v [] = v ∷ []
placed_among v (w ∷ ws) = if is_up_to v w then v ∷ w ∷ ws else w ∷ placed_among v ws

-- numbers or strings in ascending order
abbrev pub sorted : List Value → List Value
sorted [] = []
sorted (v ∷ vs) = placed_among v (sorted vs)

abbrev pub sort_items : ℕ → List Value → Lib (List Value)
sort_items t vs =
    if are_numbers vs || are_texts vs then (change (λ s. set_items t 1 (sorted vs) s) >> answer [])
    else fault (says (codes "'sort' needs all numbers or all strings"))

-- `table.sort(t)`
abbrev pub sort : List Value → Lib (List Value)
sort args = do
  t ← table_argument 0 args
  vs ← look (λ s. items s t (border s t))
  if is_nil (argument 1 args)
      then sort_items t vs
      else fault (says (codes "'sort' takes no function"))
