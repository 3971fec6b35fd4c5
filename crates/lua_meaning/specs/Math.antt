-- The functions of `math` (manual §5.6), on whole numbers.
use Rattle.std.specs.Prelude.{ℕ, zero, suc, ℤ, pos, negsuc, List, length, if◌then◌else◌, unsigned_abs, neg_ℤ, int_le, ◌%◌, Result, Ok, Err, codes, nat_eq}
use Rattle.lua_value.specs.Arithmetic.{pow as power}
use Rattle.lua_value.specs.declared.arithmetic.NumFault.{NumFault}
use Rattle.lua_meaning.specs.Value.{Value, num}
use Rattle.lua_meaning.specs.Fault.{says, number_text}
use Rattle.lua_meaning.specs.Arguments.{Lib, ◌>>=◌, answer_one, fault, answer, number_argument}

-- `math.abs(x)`
abbrev pub abs : List Value → Lib (List Value)
abs args = number_argument 0 args >>= λ x. answer_one (num (pos (unsigned_abs x)))

-- `math.ceil(x)` and `math.floor(x)`: a number is whole
abbrev pub whole : List Value → Lib (List Value)
whole args = number_argument 0 args >>= λ x. answer_one (num x)

abbrev pub greater : ℤ → ℤ → ℤ
greater a b = if int_le a b then b else a

abbrev pub less : ℤ → ℤ → ℤ
less a b = if int_le a b then a else b

-- what stands out of a first number and so many arguments from the n-th on
abbrev pub outstanding : (ℤ → ℤ → ℤ) → ℤ → ℕ → ℕ → List Value → Lib ℤ
outstanding choose x n zero args = answer x
outstanding choose x n (suc count) args =
    number_argument n args >>= λ y. outstanding choose (choose x y) (suc n) count args

abbrev pub behind_first : ℕ → ℕ
behind_first zero = 0
behind_first (suc n) = n

-- `math.max(x, ...)`, `math.min(x, ...)`
abbrev pub greatest : List Value → Lib (List Value)
greatest args = do
  x ← number_argument 0 args
  y ← outstanding greater x 1 (behind_first (length args)) args
  answer_one (num y)

abbrev pub least : List Value → Lib (List Value)
least args = do
  x ← number_argument 0 args
  y ← outstanding less x 1 (behind_first (length args)) args
  answer_one (num y)

abbrev pub exact : Result ℤ NumFault → Lib (List Value)
exact (Ok z) = answer_one (num z)
exact (Err e) = fault (says (number_text e))

-- `math.pow(x, y)`
abbrev pub pow : List Value → Lib (List Value)
pow args = do
  x ← number_argument 0 args
  y ← number_argument 1 args
  exact (power x y)

-- the remainder that has the sign of a
abbrev pub remainder : ℤ → ℕ → ℤ
remainder (pos a) b = pos (a % b)
remainder (negsuc a) b = neg_ℤ (pos (suc a % b))

-- `math.fmod(a, b)`
abbrev pub fmod : List Value → Lib (List Value)
fmod args = do
  a ← number_argument 0 args
  b ← number_argument 1 args
  if nat_eq (unsigned_abs b) 0
      then fault (says (codes "number has no whole value"))
      else answer_one (num (remainder a (unsigned_abs b)))
