-- The classes of bytes that spellings are made of.
use Rattle.std.specs.Prelude.{ℕ, Bool, false, List, [], ◌∷◌, ◌==◌, ◌&&◌, ◌||◌, not, nat_le, count_by}
use Rattle.std.specs.Char.{is_ascii_digit}
use Rattle.lua_token.specs.declared.bytes.Class.{Class}
use Rattle.lua_token.specs.declared.bytes.Class.TheVariants.{InName, Digit, DigitOrDot, Equals, InLine}

-- an ASCII letter or an underscore
abbrev pub is_letter : ℕ → Bool
is_letter b = (nat_le 65 b && nat_le b 90) || (nat_le 97 b && nat_le b 122) || b == 95

abbrev pub is_name_byte : ℕ → Bool
is_name_byte b = is_letter b || is_ascii_digit b

-- whether a byte is of this class
abbrev pub is_of : Class → ℕ → Bool
is_of InName b = is_name_byte b
is_of Digit b = is_ascii_digit b
is_of DigitOrDot b = is_ascii_digit b || b == 46
is_of Equals b = b == 61
is_of InLine b = not (b == 10)

-- how many newlines a text has
abbrev pub newlines : List ℕ → ℕ
newlines text = count_by (λ b. b == 10) text

-- whether the text begins with such a byte
abbrev pub first_is : (ℕ → Bool) → List ℕ → Bool
first_is p [] = false
first_is p (b ∷ text) = p b
