-- The run of bytes that is read as one number (Lua 5.1 manual §2.1); whether it is a numeral is
-- judged afterwards.
use Rattle.std.specs.Prelude.{ℕ, ◌+◌, Bool, false, List, [], ◌∷◌, drop, ◌==◌, ◌&&◌, ◌||◌, if◌then◌else◌}
use Rattle.std.specs.List.{prefix_len}
use Rattle.std.specs.Char.{is_ascii_digit}
use Rattle.lua_token.specs.Bytes.{is_of, first_is}
use Rattle.lua_token.specs.declared.bytes.Class.TheVariants.{DigitOrDot, InName}

-- a number begins with a digit, or with a point and a digit
abbrev pub starts_number : List ℕ → Bool
starts_number [] = false
starts_number (b ∷ text) = is_ascii_digit b || (b == 46 && first_is is_ascii_digit text)

-- how many bytes an exponent's letter and its sign take: `e` or `E`, and `+` or `-` where one
-- follows
unfoldable pub mark_length : List ℕ → ℕ
mark_length [] = 0
mark_length (b ∷ text) =
    if b == 101 || b == 69 then (if first_is (λ c. c == 43 || c == 45) text then 2 else 1) else 0

-- the length of the run: digits and points; then an exponent's letter and sign; then letters,
-- digits and underscores
unfoldable pub number_length : List ℕ → ℕ
number_length text =
    let digits = prefix_len (is_of DigitOrDot) text in
    let head = digits + mark_length (drop digits text) in
    head + prefix_len (is_of InName) (drop head text)
