-- The basic functions (manual §5.1) that call nothing back. Tables are read and set without metamethods.
use Rattle.std.specs.Prelude.{ℕ, zero, suc, ℤ, pos, negsuc, ◌-◌, ◌+ℤ◌, neg_ℤ, Bool, false, ◌&&◌, List, [], ◌∷◌, length, drop, Option, Some, None, Result, Ok, Err, if◌then◌else◌, nat_le, nat_lt, codes, ⊤}
use Rattle.lua_table.specs.Table.{next as next_place}
use Rattle.lua_table.specs.declared.table.NoSuchKey.{NoSuchKey}
use Rattle.lua_meaning.specs.Native.{ipairs_walk, next}
use Rattle.lua_meaning.specs.Value.{Value, nil, flag, num, str, table, native, is_true, same}
use Rattle.lua_meaning.specs.Number.{read, read_in}
use Rattle.lua_meaning.specs.Text.{type_name}
use Rattle.lua_meaning.specs.Store.{Store, table_at, raw_get, raw_set, set_meta, metatable, handler, border, position_key}
use Rattle.lua_meaning.specs.Fault.{improper, says, raises}
use Rattle.lua_meaning.specs.Arguments.{Lib, ◌>>=◌, ◌>>◌, answer, answer_one, fault, look, change, argument, number_argument, number_or, text_argument, table_argument}

-- the message of `assert`, which gets no place
abbrev pub assert_message : Value → Value
assert_message nil = str (codes "assertion failed!")
assert_message v = v

-- `assert(v, message)`: all arguments where v is true
abbrev pub assert : List Value → Lib (List Value)
assert args = if is_true (argument 0 args) then answer args else fault (raises (assert_message
    (argument 1 args)))

-- `collectgarbage()`: nothing is ever collected
abbrev pub collectgarbage : List Value → Lib (List Value)
collectgarbage args = answer_one (num (pos 0))

abbrev pub metatable_value : Option ℕ → Value
metatable_value None = nil
metatable_value (Some m) = table m

-- where the metatable has a field `__metatable`, that field stands for it
abbrev pub shown_metatable : (field meta : Value) → Value
shown_metatable nil meta = meta
shown_metatable field meta = field

-- `getmetatable(v)`
abbrev pub getmetatable : List Value → Lib (List Value)
getmetatable args = do
  meta ← look (λ s. metatable s (argument 0 args))
  field ← look (λ s. handler s (argument 0 args) (codes "__metatable"))
  answer_one (shown_metatable field (metatable_value meta))

-- `ipairs(t)`: what walks, the table, and 0
abbrev pub ipairs : List Value → Lib (List Value)
ipairs args = do
  t ← table_argument 0 args
  answer (native ipairs_walk ∷ table t ∷ num (pos 0) ∷ [])

-- the position behind a number, and its value, up to the first position without a value
abbrev pub walked : Value → Value → List Value
walked key nil = []
walked key v = key ∷ v ∷ []

abbrev pub behind : ℤ → Value
behind (pos n) = position_key (suc n)
behind (negsuc zero) = num (pos 0)
behind (negsuc (suc n)) = num (negsuc n)

-- what `ipairs` gives to walk with
abbrev pub walk_positions : List Value → Lib (List Value)
walk_positions args = do
  t ← table_argument 0 args
  n ← number_argument 1 args
  v ← look (λ s. raw_get s t (behind n))
  answer (walked (behind n) v)

abbrev pub pair_values : Result (Option (Value × Value)) NoSuchKey → Lib (List Value)
pair_values (Ok (Some pair)) = answer (pair.0 ∷ pair.1 ∷ [])
pair_values (Ok None) = answer_one nil
pair_values (Err e) = fault (improper 1 (codes "no such key"))

abbrev pub walked_key : Value → Option Value
walked_key nil = None
walked_key k = Some k

-- `next(t, k)`: the next pair in the order in which keys first got a value
abbrev pub next_pair : List Value → Lib (List Value)
next_pair args = do
  t ← table_argument 0 args
  pair ← look (λ s. next_place same (table_at s t).places (walked_key (argument 1 args)))
  pair_values pair

-- `pairs(t)`: `next`, the table, and nil
abbrev pub pairs : List Value → Lib (List Value)
pairs args = do
  t ← table_argument 0 args
  answer (native next ∷ table t ∷ nil ∷ [])

-- `rawequal(a, b)`
abbrev pub rawequal : List Value → Lib (List Value)
rawequal args = answer_one (flag (same (argument 0 args) (argument 1 args)))

-- `rawget(t, k)`
abbrev pub rawget : List Value → Lib (List Value)
rawget args = do
  t ← table_argument 0 args
  v ← look (λ s. raw_get s t (argument 1 args))
  answer_one v

-- a table's value for a key is set; nil is no key
abbrev pub set_field : ℕ → (key value : Value) → Lib ⊤
set_field t nil value = fault (says (codes "table index is nil"))
set_field t key value = change (λ s. raw_set s t key value)

-- `rawset(t, k, v)`: the table
abbrev pub rawset : List Value → Lib (List Value)
rawset args = do
  t ← table_argument 0 args
  set_field t (argument 1 args) (argument 2 args)
  answer_one (table t)

abbrev pub out_of_range : Lib (List Value)
out_of_range = fault (improper 0 (codes "index out of range"))

-- the arguments behind the first one from the n-th on, or from the n-th on counted from the end
abbrev pub selected : ℤ → List Value → Lib (List Value)
selected (pos zero) rest = out_of_range
selected (pos (suc n)) rest = answer (drop n rest)
selected (negsuc n) rest =
    if nat_lt n (length rest) then answer (drop (length rest - suc n) rest) else out_of_range

abbrev pub is_count_mark : Value → Bool
is_count_mark v = same v (str (codes "#"))

-- `select(n, ...)`, and `select('#', ...)`
abbrev pub select : List Value → Lib (List Value)
select args =
    if is_count_mark (argument 0 args) then answer_one (num (pos (length (drop 1 args))))
    else (number_argument 0 args >>= λ n. selected n (drop 1 args))

-- a metatable, or that there is to be none
abbrev pub meta_argument : Value → Lib (Option ℕ)
meta_argument nil = answer None
meta_argument (table m) = answer (Some m)
meta_argument v = fault (improper 1 (codes "nil or table expected"))

abbrev pub protected : Value → Lib ⊤
protected nil = answer tt
protected field = fault (says (codes "cannot change a protected metatable"))

-- `setmetatable(t, m)`: the table
abbrev pub setmetatable : List Value → Lib (List Value)
setmetatable args = do
  t ← table_argument 0 args
  meta ← meta_argument (argument 1 args)
  field ← look (λ s. handler s (table t) (codes "__metatable"))
  protected field
  change (λ s. set_meta s t meta)
  answer_one (table t)

abbrev pub number_value : Option ℤ → Value
number_value None = nil
number_value (Some n) = num n

-- a value as a number of base 10
abbrev pub to_number : Value → Value
to_number (num n) = num n
to_number (str s) = number_value (read s)
to_number v = nil

-- whether a base is one from 2 to 36
abbrev pub is_base : ℤ → Bool
is_base (pos n) = nat_le 2 n && nat_le n 36
is_base (negsuc n) = false

abbrev pub base_number : ℤ → ℕ
base_number (pos n) = n
base_number (negsuc n) = 0

-- `tonumber(v, base)`
abbrev pub tonumber : List Value → Lib (List Value)
tonumber args = do
  base ← number_or 1 args (pos 10)
  if same (num base) (num (pos 10)) then answer_one (to_number (argument 0 args)) else (do
    text ← text_argument 0 args
    if is_base base
        then answer_one (number_value (read_in (base_number base) text))
        else fault (improper 1 (codes "base out of range")))

-- `type(v)`
abbrev pub type : List Value → Lib (List Value)
type args = answer_one (str (type_name (argument 0 args)))

-- how many whole numbers there are from i to j
abbrev pub count_from : ℤ → ℤ → ℕ
count_from i j = count_of (j +ℤ neg_ℤ i)
  where
    count_of : ℤ → ℕ
    count_of (pos n) = suc n
    count_of (negsuc n) = 0

-- the values of a table at so many numbers from i on
abbrev pub items_from : Store → ℕ → ℤ → ℕ → List Value
items_from s t i zero = []
items_from s t i (suc count) = raw_get s t (num i) ∷ items_from s t (i +ℤ pos 1) count

-- at most 1,000,000 values are given at once
abbrev pub at_most_a_million : ℕ → Lib ⊤
at_most_a_million count =
    if nat_le count 1000000 then answer tt else fault (says (codes "too many values"))

-- `unpack(t, i, j)`
abbrev pub unpack : List Value → Lib (List Value)
unpack args = do
  t ← table_argument 0 args
  i ← number_or 1 args (pos 1)
  n ← look (λ s. border s t)
  j ← number_or 2 args (pos n)
  at_most_a_million (count_from i j)
  look (λ s. items_from s t i (count_from i j))
