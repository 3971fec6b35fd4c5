-- Texts that are read as numbers (manual §2.2.1), as a function: lua_value's `Num::read`.
use Rattle.std.specs.Prelude.{ℕ, zero, suc, ℤ, pos, negsuc, neg_ℤ, ◌+ℤ◌, ◌*◌, ◌/◌, ◌%◌, ◌^◌, Bool, true, false, not, ◌&&◌, ◌||◌, List, [], ◌∷◌, ◌++◌, length, reverse, Option, Some, None, option_and_then, option_map, if◌then◌else◌, nat_eq, nat_le, nat_lt, unsigned_abs}
use Rattle.std.specs.Char.{digit_value}
use Rattle.std.specs.Str.Parse.{digits_value}
use Rattle.lua_value.specs.NumberText.{is_blank}

-- a whole number, where it is one of Lua's
abbrev pub kept : ℤ → Option ℤ
kept z = if nat_le (unsigned_abs z) 99999999999999 then Some z else None

-- whether all bytes are digits of a base; the letters in either case are the digits from 10 on
abbrev pub are_digits : ℕ → List ℕ → Bool
are_digits base [] = true
are_digits base (c ∷ cs) = nat_lt (digit_value c) base && are_digits base cs

-- one digit or more
abbrev pub are_some_digits : ℕ → List ℕ → Bool
are_some_digits base text = not (nat_eq (length text) 0) && are_digits base text

-- without the blanks at its beginning
abbrev pub behind_blanks : List ℕ → List ℕ
behind_blanks [] = []
behind_blanks (c ∷ cs) = if is_blank c then behind_blanks cs else c ∷ cs

-- without the blanks at both ends
abbrev pub trimmed : List ℕ → List ℕ
trimmed text = reverse (behind_blanks (reverse (behind_blanks text)))

-- the bytes before the first one that passes a test, and those behind it, where there is one
abbrev pub before : (ℕ → Bool) → List ℕ → List ℕ
before test [] = []
before test (c ∷ cs) = if test c then [] else c ∷ before test cs

abbrev pub behind : (ℕ → Bool) → List ℕ → Option (List ℕ)
behind test [] = None
behind test (c ∷ cs) = if test c then Some cs else behind test cs

-- `e` or `E`; a point
abbrev pub is_exponent_letter : ℕ → Bool
is_exponent_letter c = nat_eq c 101 || nat_eq c 69

abbrev pub is_point : ℕ → Bool
is_point c = nat_eq c 46

-- what a function gives for a text behind its sign, if it has one: the negative behind `-`
abbrev pub with_sign : (List ℕ → Option ℤ) → List ℕ → Option ℤ
with_sign read [] = read []
with_sign read (c ∷ cs) =
    if nat_eq c 45 then option_map neg_ℤ (read cs) else (if nat_eq c 43 then
    read cs else read (c ∷ cs))

-- digits of a base as a number, where there are any
abbrev pub digits_number : ℕ → List ℕ → Option ℤ
digits_number base text =
    if are_some_digits base text then Some (pos (digits_value base text)) else None

-- the value of so many decimal digits times ten to an exponent: where it is whole and a number
abbrev pub scaled : (count value : ℕ) → ℤ → Option ℤ
scaled count zero e = Some (pos 0)
scaled count (suc m) (pos k) = if nat_lt 14 k then None else kept (pos (suc m * 10 ^ k))
scaled count (suc m) (negsuc k) =
    if nat_lt count (suc k) then None
    else (if nat_eq (suc m % 10 ^ suc k) 0 then kept (pos (suc m / 10 ^ suc k)) else None)

-- decimal digits before and behind a point, times ten to an exponent
abbrev pub decimal_number : (whole fraction : List ℕ) → ℤ → Option ℤ
decimal_number whole fraction e =
    if are_some_digits 10 (whole ++ fraction)
    then scaled (length (whole ++ fraction)) (digits_value 10 (whole ++ fraction)) (e +ℤ neg_ℤ (pos
    (length fraction)))
    else None

-- a mantissa and an exponent
abbrev pub mantissa_number : List ℕ → Option (List ℕ) → ℤ → Option ℤ
mantissa_number whole None e = decimal_number whole [] e
mantissa_number whole (Some fraction) e = decimal_number whole fraction e

-- the value of an exponent; 0 where there is none
abbrev pub exponent_number : Option (List ℕ) → Option ℤ
exponent_number None = Some (pos 0)
exponent_number (Some text) = with_sign (digits_number 10) text

-- a decimal numeral
abbrev pub decimal_numeral : List ℕ → Option ℤ
decimal_numeral text =
    let mantissa = before is_exponent_letter text in
    option_and_then (mantissa_number (before is_point mantissa) (behind is_point mantissa))
    (exponent_number (behind is_exponent_letter text))

-- whether a text begins with `0x` or `0X`
abbrev pub begins_hexadecimal : List ℕ → Bool
begins_hexadecimal (a ∷ b ∷ cs) = nat_eq a 48 && (nat_eq b 120 || nat_eq b 88)
begins_hexadecimal text = false

abbrev pub behind_two : List ℕ → List ℕ
behind_two (a ∷ b ∷ cs) = cs
behind_two text = []

-- a numeral (manual §2.1), whose value is exact
abbrev pub numeral : List ℕ → Option ℤ
numeral text =
    if begins_hexadecimal text
    then option_and_then kept (digits_number 16 (behind_two text))
    else decimal_numeral text

-- a text as a number: blanks, an optional sign, a numeral, blanks
abbrev pub read : List ℕ → Option ℤ
read text = with_sign numeral (trimmed text)

-- a text as a number of another base: blanks, digits, blanks
abbrev pub read_in : ℕ → List ℕ → Option ℤ
read_in base text = option_and_then kept (digits_number base (trimmed text))
