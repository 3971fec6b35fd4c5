-- What stands at a place of a source: a blank or a comment, a token, or a fault (Lua 5.1 manual
-- §2.1). Bytes are written as numbers: 34 and 39 are the quotes, 45 is the dash, 91 and 93 are the
-- brackets.
use Rattle.std.specs.Prelude.{◌≡◌, ℕ, ◌+◌, ◌-◌, ◌<◌, ◌≤◌, ℤ, List, [], ◌∷◌, drop, take, length, Option, Some, None, Result, Ok, Err, slice_index, ◌==◌, ◌&&◌, ◌||◌, ◌⊎◌, if◌then◌else◌}
use Rattle.std.specs.List.{prefix_len}
use Rattle.lua_value.specs.NumberText.{is_blank}
use Rattle.lua_value.specs.Numeral.{IsNumeralAnswer}
use Rattle.lua_value.specs.declared.numeral.NumeralFault.{NumeralFault}
use Rattle.lua_value.specs.declared.numeral.NumeralFault.TheVariants as numeral
use Rattle.lua_token.specs.Bytes.{is_letter, is_of, first_is, newlines}
use Rattle.lua_token.specs.Spelling.{spelling, word_kind, symbol_at}
use Rattle.lua_token.specs.Run.{starts_number, number_length}
use Rattle.lua_token.specs.Long.{level, LongAt}
use Rattle.lua_token.specs.Quoted.{character_at, Characters}
use Rattle.lua_token.specs.declared.bytes.Class.TheVariants.{InName, InLine}
use Rattle.lua_token.specs.declared.kind.Kind.{Kind}
use Rattle.lua_token.specs.declared.kind.Kind.TheVariants.{Number, Str}
use Rattle.lua_token.specs.declared.fault.LexWhat.{LexWhat}
use Rattle.lua_token.specs.declared.fault.LexWhat.TheVariants.{BadByte, OpenString, OpenLong, BadEscape, BadNumber, NotWhole}
use Rattle.lua_token.specs.declared.quoted.Character.{Character}
use Rattle.lua_token.specs.declared.quoted.Character.TheVariants as characters
use Rattle.lua_token.specs.declared.start.Start.{Start}
use Rattle.lua_token.specs.declared.start.Start.TheVariants as starts
use Rattle.lua_token.specs.declared.step.Counted.{Counted}
use Rattle.lua_token.specs.declared.step.Step.{Step}
use Rattle.lua_token.specs.declared.step.Step.TheVariants.{Skip, Found}

-- a long bracket of this level, or else a symbol
abbrev pub long_or_symbol : Option ℕ → Start
long_or_symbol (Some n) = starts.Long n
long_or_symbol None = starts.Symbol

-- what begins at a place
unfoldable pub begins : List ℕ → Start
begins [] = starts.Nothing
begins (b ∷ text) =
    if is_blank b then starts.Blank
    else (if is_letter b then starts.Word
    else (if starts_number (b ∷ text) then starts.Digits
    else (if b == 34 || b == 39 then starts.Quote
    else (if b == 45 && first_is (λ c. c == 45) text then starts.Comment
    else long_or_symbol (level 91 (b ∷ text))))))

-- a number's run of n bytes, once it is judged
abbrev pub number_step : ℕ → Result ℤ NumeralFault → Result Step LexWhat
number_step n (Ok value) = Ok (Found (Number value) n)
number_step n (Err numeral.Malformed) = Err BadNumber
number_step n (Err numeral.NotWhole) = Err NotWhole

-- a quoted string whose n bytes end at this character
abbrev pub QuoteEnds : Character → ℕ → Result Step LexWhat → Type 0
QuoteEnds characters.Closing n found = found ≡ Ok (Found Str n)
QuoteEnds characters.Unfinished n found = found ≡ Err OpenString
QuoteEnds characters.TooLarge n found = found ≡ Err BadEscape
QuoteEnds (characters.Byte b k) n found = ⊥

-- a long string, and a long comment behind its two dashes
abbrev pub long_step : Option ℕ → Result Step LexWhat
long_step (Some n) = Ok (Found Str n)
long_step None = Err OpenLong

abbrev pub comment_step : Option ℕ → Result Step LexWhat
comment_step (Some n) = Ok (Skip (2 + n))
comment_step None = Err OpenLong

abbrev pub symbol_step : Option Kind → Result Step LexWhat
symbol_step (Some kind) = Ok (Found kind (length (spelling kind)))
symbol_step None = Err BadByte

-- What is found at the front of a text that begins so. A word is the longest run of its bytes; a
-- number is its whole run, which is judged then; a quoted string ends at the first character that
-- is no byte; a comment is long where a long bracket opens behind its dashes, and else goes to the
-- end of its line; a symbol is the longest that stands there.
abbrev pub Stands : Start → List ℕ → Result Step LexWhat → Type 0
Stands starts.Nothing text found = ⊥
Stands starts.Blank text found = found ≡ Ok (Skip 1)
Stands starts.Word text found =
    let n = prefix_len (is_of InName) text in found ≡ Ok (Found (word_kind (take n text)) n)
Stands starts.Digits text found =
    (judged : Result ℤ NumeralFault)
    × IsNumeralAnswer (take (number_length text) text) judged
    × (found ≡ number_step (number_length text) judged)
Stands starts.Quote text found =
    (bytes : List ℕ) × (rest : List ℕ) × Characters (slice_index text 0) (drop 1 text) bytes rest
    × QuoteEnds (character_at (slice_index text 0) rest) (length text + 1 - length rest) found
Stands starts.Comment text found =
    ((level 91 (drop 2 text) ≡ None)
    × (found ≡ Ok (Skip (2 + prefix_len (is_of InLine) (drop 2 text)))))
    ⊎ ((n : ℕ) × (size : Option ℕ) × (level 91 (drop 2 text) ≡ Some n) × LongAt n (drop 2 text) size
    × (found ≡ comment_step size))
Stands (starts.Long n) text found =
    (size : Option ℕ) × LongAt n text size × (found ≡ long_step size)
Stands starts.Symbol text found = found ≡ symbol_step (symbol_at text)

-- at the front of a text
abbrev pub StandsAt : List ℕ → Result Step LexWhat → Type 0
StandsAt text found = Stands (begins text) text found

-- a long bracket opens within so many bytes
abbrev pub Opens : Start → ℕ → Type 0
Opens (starts.Long n) limit = n + 2 ≤ limit
Opens _ limit = Unit {0}

-- how far a step goes
abbrev pub step_length : Step → ℕ
step_length (Skip n) = n
step_length (Found kind n) = n

-- a step goes on, and stays within so many bytes
abbrev pub Advances : Step → ℕ → Type 0
Advances step limit = (0 < step_length step) × (step_length step ≤ limit)

-- what stands at a place, without the newlines that it passes
abbrev pub uncounted : Result Counted LexWhat → Result Step LexWhat
uncounted (Ok counted) = Ok counted.step
uncounted (Err what) = Err what

-- the newlines that are counted are those that the step passes at the front of the text
abbrev pub CountsNewlines : List ℕ → Counted → Type 0
CountsNewlines text counted = counted.newlines ≡ newlines (take (step_length counted.step) text)
