-- Texts that are read as numbers, as the reference program reads a string where it wants a number
-- (Lua 5.1 manual §2.2.1). The six blanks are those of the C library there; that the value is exact
-- is this project's own.
use Rattle.std.specs.Prelude.{◌≡◌, ℕ, ℤ, Bool, not, nat_le, ◌==◌, ◌&&◌, ◌||◌, List, ◌++◌}
use Rattle.std.specs.List.{AllPass}
use Rattle.lua_value.specs.Sign.{Sign, sign_text, signed}
use Rattle.lua_value.specs.Numeral.{Denotes}

-- space, tab, newline, vertical tab, form feed or return
abbrev pub is_blank : ℕ → Bool
is_blank c = c == 32 || (nat_le 9 c && nat_le c 13)

abbrev pub is_no_blank : ℕ → Bool
is_no_blank c = not (is_blank c)

-- the word is an optional sign and a numeral, and stands for n
abbrev pub DenotesSigned : List ℕ → ℤ → Type 0
DenotesSigned word n =
    (sign : Sign) × (numeral : List ℕ) × (size : ℤ)
    × (word ≡ sign_text sign ++ numeral) × Denotes numeral size × (n ≡ signed sign size)

-- the text is such a word with blanks around it, and stands for n
abbrev pub ReadsAs : List ℕ → ℤ → Type 0
ReadsAs text n =
    (before : List ℕ) × (word : List ℕ) × (after : List ℕ)
    × AllPass is_blank before × AllPass is_blank after
    × (text ≡ before ++ (word ++ after)) × DenotesSigned word n
