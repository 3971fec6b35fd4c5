-- Numerals (Lua 5.1 manual §2.1): what their texts are, and the exact value of each. Hexadecimal
-- ones are read by the reference program too; that the value is exact and never rounded is this
-- project's own.
use Rattle.std.specs.Prelude.{◌≡◌, ℕ, ◌+◌, ◌*◌, ◌^◌, ◌<◌, ℤ, pos, negsuc, suc, ◌*ℤ◌, ◌⊎◌, List, [], ◌∷◌, ◌++◌, length, codes, Option, Some, None, Result, Ok, Err, MatchOption, ⊤}
use Rattle.std.specs.Str.Parse.{AllDigits, digits_value}
use Rattle.lua_value.specs.Num.{IsNum}
use Rattle.lua_value.specs.Sign.{Sign, sign_text, signed}
use Rattle.lua_value.specs.declared.numeral.NumeralFault.{NumeralFault}
use Rattle.lua_value.specs.declared.numeral.NumeralFault.TheVariants.{Malformed, NotWhole}

-- ---- the parts of a numeral

-- an exponent: the letter that begins it, its sign and its digits
pub record Exponent : Type 0 where
  pub letter : ℕ
  pub sign : Sign
  pub digits : List ℕ

-- a numeral: hexadecimal digits behind `0` and a letter; or decimal digits, those behind a point
-- where there is one, and an exponent where there is one
pub data Numeral : Type 0 where
  hexadecimal : (letter : ℕ) (digits : List ℕ) → Numeral
  decimal : (whole : List ℕ) (fraction : Option (List ℕ)) (exponent : Option Exponent) → Numeral

-- the digits behind the point
abbrev pub fraction_digits : Option (List ℕ) → List ℕ
fraction_digits None = []
fraction_digits (Some digits) = digits

-- ---- the text of a numeral

-- the point and the digits behind it
abbrev pub fraction_text : Option (List ℕ) → List ℕ
fraction_text None = []
fraction_text (Some digits) = codes "." ++ digits

-- the letter, the sign and the digits
abbrev pub exponent_text : Option Exponent → List ℕ
exponent_text None = []
exponent_text (Some e) = e.letter ∷ (sign_text e.sign ++ e.digits)

-- the bytes of a numeral, from left to right
abbrev pub numeral_text : Numeral → List ℕ
numeral_text (hexadecimal letter digits) = codes "0" ++ (letter ∷ digits)
numeral_text (decimal whole fraction exponent) =
    whole ++ (fraction_text fraction ++ exponent_text exponent)

-- `e` or `E`, and one decimal digit or more
abbrev pub IsExponent : Exponent → Type 0
IsExponent e = ((e.letter ≡ 101) ⊎ (e.letter ≡ 69)) × (0 < length e.digits) × AllDigits 10 e.digits

-- the same of what stands as the exponent, if anything does
abbrev pub IsOptionalExponent : Option Exponent → Type 0
IsOptionalExponent exponent = MatchOption exponent ⊤ IsExponent

-- `x` or `X`, and one hexadecimal digit or more; or one decimal digit or more before and behind the
-- point together, and an exponent or none
abbrev pub IsWellFormed : Numeral → Type 0
IsWellFormed (hexadecimal letter digits) =
    ((letter ≡ 120) ⊎ (letter ≡ 88)) × (0 < length digits) × AllDigits 16 digits
IsWellFormed (decimal whole fraction exponent) =
    AllDigits 10 whole × AllDigits 10 (fraction_digits fraction)
    × (0 < length (whole ++ fraction_digits fraction)) × IsOptionalExponent exponent

-- ---- the value of a numeral

-- the exponent as a number, 0 where there is none
abbrev pub exponent_value : Option Exponent → ℤ
exponent_value None = pos 0
exponent_value (Some e) = signed e.sign (pos (digits_value 10 e.digits))

-- the power of ten that an exponent multiplies by, and the one that it divides by
abbrev pub raising : ℤ → ℕ
raising (pos k) = k
raising (negsuc k) = 0

abbrev pub lowering : ℤ → ℕ
lowering (pos k) = 0
lowering (negsuc k) = suc k

-- z is the number that the digits before and behind a point write, times ten to the exponent e: all
-- digits together, times the power of ten that e raises by, are z times ten for each digit behind
-- the point and for each that e lowers by
abbrev pub IsScaled : List ℕ → List ℕ → ℤ → ℤ → Type 0
IsScaled whole fraction e z =
    z *ℤ pos (10 ^ (length fraction + lowering e))
    ≡ pos (digits_value 10 (whole ++ fraction) * 10 ^ raising e)

-- z is the exact value of a numeral
abbrev pub HasValue : Numeral → ℤ → Type 0
HasValue (hexadecimal letter digits) z = z ≡ pos (digits_value 16 digits)
HasValue (decimal whole fraction exponent) z =
    IsScaled whole (fraction_digits fraction) (exponent_value exponent) z

-- ---- texts

-- the text is that of a numeral
abbrev pub IsNumeral : List ℕ → Type 0
IsNumeral text = (t : Numeral) × IsWellFormed t × (numeral_text t ≡ text)

-- the text is that of a numeral whose exact value is z
abbrev pub Denotes : List ℕ → ℤ → Type 0
Denotes text z = (t : Numeral) × IsWellFormed t × (numeral_text t ≡ text) × HasValue t z

-- the answer for a text: the Num that it denotes; or why there is none
abbrev pub IsNumeralAnswer : List ℕ → Result ℤ NumeralFault → Type 0
IsNumeralAnswer text (Ok z) = Denotes text z × IsNum z
IsNumeralAnswer text (Err Malformed) = ¬ IsNumeral text
IsNumeralAnswer text (Err NotWhole) = IsNumeral text × ((z : ℤ) → Denotes text z → ¬ IsNum z)

-- the same for the digits behind `0x`
abbrev pub IsHexadecimalAnswer : List ℕ → Result ℤ NumeralFault → Type 0
IsHexadecimalAnswer digits (Ok z) =
    (0 < length digits) × AllDigits 16 digits × (z ≡ pos (digits_value 16 digits)) × IsNum z
IsHexadecimalAnswer digits (Err Malformed) = 0 < length digits → ¬ AllDigits 16 digits
IsHexadecimalAnswer digits (Err NotWhole) =
    (0 < length digits) × AllDigits 16 digits × ¬ IsNum (pos (digits_value 16 digits))
