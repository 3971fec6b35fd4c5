-- Long brackets (Lua 5.1 manual §2.1): where they open, with the byte 91, and where they close
-- first, with 93.
use Rattle.std.specs.Prelude.{◌≡◌, ◌≢◌, ℕ, ◌+◌, ◌<◌, List, [], ◌∷◌, drop, take, Option, Some, None, ◌==◌, ◌&&◌, if◌then◌else◌}
use Rattle.std.specs.List.{prefix_len}
use Rattle.std.specs.Option.{option_map}
use Rattle.lua_token.specs.Bytes.{is_of, first_is, newlines}
use Rattle.lua_token.specs.declared.bytes.Class.TheVariants.{Equals}
use Rattle.lua_token.specs.declared.long.Span.{Span}

-- the level of the long bracket at the front: a bracket, as many `=` as the level says, and that
-- bracket again
unfoldable pub level : ℕ → List ℕ → Option ℕ
level bracket [] = None
level bracket (b ∷ text) =
    let n = prefix_len (is_of Equals) text in
    if b == bracket && first_is (λ c. c == bracket) (drop n text) then Some n else None

-- how many bytes of the body stand before its first closing bracket of level n, where there is one
abbrev pub FirstClosing : ℕ → List ℕ → Option ℕ → Type 0
FirstClosing n body (Some m) =
    (level 93 (drop m body) ≡ Some n) × ((k : ℕ) → k < m → level 93 (drop k body) ≢ Some n)
FirstClosing n body None = (k : ℕ) → level 93 (drop k body) ≢ Some n

-- the length of the long string that opens at the front with level n, brackets included, where it
-- is closed
abbrev pub LongAt : ℕ → List ℕ → Option ℕ → Type 0
LongAt n text size =
    (m : Option ℕ) × FirstClosing n (drop (n + 2) text) m
    × (size ≡ option_map (λ m. n + 2 + m + (n + 2)) m)

-- the length of a part, where there is one
abbrev pub span_length : Option Span → Option ℕ
span_length span = option_map (λ span. span.length) span

-- the newlines that are counted are those of the part at the front of the text
abbrev pub SpanCounts : List ℕ → Span → Type 0
SpanCounts text span = span.newlines ≡ newlines (take span.length text)
