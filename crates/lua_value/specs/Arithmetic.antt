-- Arithmetic on whole numbers of any size (Lua 5.1 manual §2.5.1), and where an operation has no
-- Num as its answer: this range, and no value in place of a fraction or an infinity, are this
-- project's own.
use Rattle.std.specs.Prelude.{Bool, ℕ, zero, suc, ◌/◌, ℤ, pos, negsuc, ◌+ℤ◌, ◌-ℤ◌, ◌*ℤ◌, ◌≤ℤ◌, ◌<ℤ◌, ◌⊎◌, neg_ℤ, unsigned_abs, Result, Ok, Err, if◌then◌else◌, nat_le, ◌==◌}
use Rattle.lua_value.specs.declared.arithmetic.NumFault.{NumFault}
use Rattle.lua_value.specs.declared.arithmetic.NumFault.TheVariants.{NotWhole, OutOfRange}

-- the answer where the exact value is z: z itself if it is a Num
abbrev pub in_range : ℤ → Result ℤ NumFault
in_range z = if nat_le (unsigned_abs z) 99999999999999 then Ok z else Err OutOfRange

-- `z == 0`
abbrev pub is_zero : ℤ → Bool
is_zero z = unsigned_abs z == 0

-- z / d rounded down, for a d other than 0
abbrev pub floor_by : ℤ → ℕ → ℤ
floor_by (pos a) d = pos (a / d)
floor_by (negsuc a) d = negsuc (a / d)

-- the greatest whole number that is not above a / b, for a b other than 0
abbrev pub floor_quotient : ℤ → ℤ → ℤ
floor_quotient a (pos b) = floor_by a b
floor_quotient a (negsuc b) = floor_by (neg_ℤ a) (suc b)

-- what is left of a after b is taken away that many times
abbrev pub floor_remainder : ℤ → ℤ → ℤ
floor_remainder a b = a -ℤ (floor_quotient a b *ℤ b)

-- the product of as many factors a as the exponent says: 1 where it is 0
unfoldable pub power : ℤ → ℕ → ℤ
power a zero = pos 1
power a (suc e) = power a e *ℤ a

-- ---- the operations

abbrev pub add : ℤ → ℤ → Result ℤ NumFault
add a b = in_range (a +ℤ b)

abbrev pub sub : ℤ → ℤ → Result ℤ NumFault
sub a b = in_range (a -ℤ b)

abbrev pub mul : ℤ → ℤ → Result ℤ NumFault
mul a b = in_range (a *ℤ b)

-- the quotient, where it is whole
abbrev pub div : ℤ → ℤ → Result ℤ NumFault
div a b = if is_zero b then Err NotWhole
    else (if is_zero (floor_remainder a b) then in_range (floor_quotient a b) else Err NotWhole)

abbrev pub rem : ℤ → ℤ → Result ℤ NumFault
rem a b = if is_zero b then Err NotWhole else in_range (floor_remainder a b)

abbrev pub pow : ℤ → ℤ → Result ℤ NumFault
pow a (pos e) = in_range (power a e)
pow a (negsuc e) = Err NotWhole

-- ---- what the laws speak of

-- r is 0, or lies on the same side of 0 as b and nearer to it
abbrev pub LiesBefore : ℤ → ℤ → Type 0
LiesBefore r b = ((pos 0 ≤ℤ r) × (r <ℤ b)) ⊎ ((b <ℤ r) × (r ≤ℤ pos 0))
