-- `string.format` (manual §5.4), of the items `%d %s %x %X %c %%`.
use Rattle.std.specs.Prelude.{ℕ, suc, ℤ, pos, negsuc, ◌+◌, ◌-◌, ◌*◌, Bool, true, false, ◌&&◌, ◌||◌, not, List, [], ◌∷◌, ◌++◌, length, replicate, if◌then◌else◌, nat_eq, nat_le, nat_lt, codes, decimal}
use Rattle.std.specs.Fmt.{digits}
use Rattle.lua_tree.specs.Tree.{Bytes}
use Rattle.lua_meaning.specs.Value.{Value}
use Rattle.lua_meaning.specs.Fault.{improper, says}
use Rattle.lua_meaning.specs.Arguments.{Lib, ◌>>=◌, answer, fault, number_argument, text_argument}
use Rattle.lua_meaning.specs.Strings.{byte_argument, string_value}

-- an item up to its letter: whether it has the flags `-` and `0`, and its width, with how many digits
pub record Item : Type 0 where
  pub left : Bool
  pub zeros : Bool
  pub width : ℕ
  pub digits : ℕ

-- an item of which nothing was read behind its `%`
abbrev pub plain_item : Item
plain_item = record { left = false; zeros = false; width = 0; digits = 0 }

-- a text in its width: on the left or on the right, with blanks
abbrev pub padded : Item → Bytes → Bytes
padded item text =
    if item.left then text ++ replicate (item.width - length text) 32 else replicate
    (item.width - length text) 32 ++ text

-- digits behind a sign in their width: on the right with zeros behind the sign where the item has the flag `0` and not `-`
abbrev pub padded_number : Item → (sign digits : Bytes) → Bytes
padded_number item sign digits =
    if item.zeros && not item.left then sign ++ (replicate (item.width - length
    (sign ++ digits)) 48 ++ digits)
    else padded item (sign ++ digits)

abbrev pub whole_text : Item → ℤ → Bytes
whole_text item (pos n) = padded_number item [] (decimal n)
whole_text item (negsuc n) = padded_number item (codes "-") (decimal (suc n))

-- a number in base 16, which is 0 or greater; the letters are upper case where `upper` says so
abbrev pub hexadecimal_text : (argument : ℕ) (upper : Bool) → Item → ℤ → Lib Bytes
hexadecimal_text n upper item (pos z) = answer (padded_number item [] (digits 16 upper z))
hexadecimal_text n upper item (negsuc z) = fault (improper n (codes "not negative expected"))

abbrev pub invalid_format : Lib Bytes
invalid_format = fault (says (codes "invalid format"))

-- what an item with its letter writes of an argument
abbrev pub converted : Item → (letter argument : ℕ) → List Value → Lib Bytes
converted item letter n args =
    if nat_eq letter 100 then (number_argument n args >>= λ z. answer (whole_text item z))
    else (if nat_eq letter 115 then (text_argument n args >>= λ s. answer (padded item s))
    else (if nat_eq letter 120 then (number_argument n args >>=
    λ z. hexadecimal_text n false item z)
    else (if nat_eq letter 88 then (number_argument n args >>= λ z. hexadecimal_text n true item z)
    else (if nat_eq letter 99 then (byte_argument n args >>= λ b. answer (padded item (b ∷ [])))
    else invalid_format))))

abbrev pub is_plain : Item → Bool
is_plain item = not item.left && not item.zeros && nat_eq item.digits 0

-- whether a byte is a flag: flags stand before the width
abbrev pub is_flag : Item → ℕ → Bool
is_flag item c = nat_eq item.digits 0 && (nat_eq c 45 || nat_eq c 48)

-- whether a byte is a digit of the width, which has at most two
abbrev pub is_width : Item → ℕ → Bool
is_width item c = nat_lt item.digits 2 && (nat_le 48 c && nat_le c 57)

abbrev pub with_flag : Item → ℕ → Item
with_flag item c = if nat_eq c 45 then record item { left = true } else record item { zeros = true }

abbrev pub with_digit : Item → ℕ → Item
with_digit item c = record item { width = item.width * 10 + (c - 48); digits = suc item.digits }

-- a format's text from a place on: outside an item, or inside one; `n` is the next argument
abbrev mutual
  pub text_from : Bytes → ℕ → List Value → Lib Bytes
  text_from [] n args = answer []
  text_from (c ∷ cs) n args =
      if nat_eq c 37 then item_from cs plain_item n args else (text_from cs n args >>=
      λ rest. answer (c ∷ rest))

  pub item_from : Bytes → Item → ℕ → List Value → Lib Bytes
  item_from [] item n args = invalid_format
  item_from (c ∷ cs) item n args =
      if is_flag item c then item_from cs (with_flag item c) n args
      else (if is_width item c then item_from cs (with_digit item c) n args
      else (if nat_eq c 37 && is_plain item then (text_from cs n args >>= λ rest. answer (c ∷ rest))
      else (converted item c n args >>= λ text. text_from cs (suc n) args >>=
      λ rest. answer (text ++ rest))))

-- `string.format(f, ...)`
abbrev pub format : List Value → Lib (List Value)
format args = do
  f ← text_argument 0 args
  text ← text_from f 1 args
  string_value text
