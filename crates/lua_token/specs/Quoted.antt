-- Quoted strings (Lua 5.1 manual §2.1), one character after the other. 92 is the backslash, 10 the
-- newline and 13 the return.
use Rattle.std.specs.Prelude.{◌≡◌, ℕ, ◌+◌, ◌<◌, ◌≤◌, List, [], ◌∷◌, drop, take, length, min, ◌==◌, ◌&&◌, nat_le, if◌then◌else◌}
use Rattle.std.specs.List.{prefix_len}
use Rattle.std.specs.Char.{is_ascii_digit}
use Rattle.std.specs.Str.Parse.{digits_value}
use Rattle.lua_token.specs.Bytes.{is_of, first_is}
use Rattle.lua_token.specs.declared.bytes.Class.TheVariants.{Digit}
use Rattle.lua_token.specs.declared.quoted.Character.{Character}
use Rattle.lua_token.specs.declared.quoted.Character.TheVariants.{Byte, Closing, Unfinished, TooLarge}

-- what a byte behind a backslash stands for: seven letters for a control byte, each other byte for
-- itself
unfoldable pub escaped : ℕ → ℕ
escaped b =
    if b == 97 then 7
    else (if b == 98 then 8
    else (if b == 102 then 12
    else (if b == 110 then 10
    else (if b == 114 then 13
    else (if b == 116 then 9
    else (if b == 118 then 11
    else b))))))

-- the digits of a decimal escape: one to three, as many as there are
abbrev pub escape_digits : List ℕ → List ℕ
escape_digits text = take (min 3 (prefix_len (is_of Digit) text)) text

-- a decimal escape with these digits: a byte, or a number over 255
abbrev pub decimal_escape : List ℕ → Character
decimal_escape digits =
    if nat_le (digits_value 10 digits) 255 then Byte (digits_value 10 digits) (1 + length digits)
    else TooLarge

-- an escape, of which this text stands behind the backslash
unfoldable pub escape_at : List ℕ → Character
escape_at [] = Unfinished
escape_at (b ∷ text) =
    if is_ascii_digit b then decimal_escape (escape_digits (b ∷ text))
    else (if b == 13 && first_is (λ c. c == 10) text then Byte 10 3
    else Byte (escaped b) 2)

-- the character at the front of a text inside these quotes: a byte, and how many bytes of the
-- source stand for it
unfoldable pub character_at : ℕ → List ℕ → Character
character_at quote [] = Unfinished
character_at quote (b ∷ text) =
    if b == quote then Closing
    else (if b == 92 then escape_at text
    else (if b == 10 then Unfinished
    else Byte b 1))

-- a character's bytes are among so many
abbrev pub Takes : Character → ℕ → Type 0
Takes (Byte b n) limit = (0 < n) × (n ≤ limit)
Takes Closing limit = 0 < limit
Takes Unfinished limit = Unit {0}
Takes TooLarge limit = Unit {0}

-- whole characters stand for these bytes, from a text on up to the rest of it
pub data Characters (quote : ℕ) : List ℕ → List ℕ → List ℕ → Type 0 where
  nothing : {text : List ℕ} → Characters quote text [] text
  then_more : {text bytes rest : List ℕ} {b n : ℕ} → character_at quote text ≡ Byte b n
      → Characters quote (drop n text) bytes rest → Characters quote text (b ∷ bytes) rest
