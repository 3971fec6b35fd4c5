-- The bytes that a string's spelling stands for.
use Rattle.std.specs.Prelude.{◌≡◌, ℕ, ◌+◌, Bool, false, List, [], ◌∷◌, drop, take, Some, slice_index, ◌==◌, ◌&&◌, if◌then◌else◌}
use Rattle.lua_token.specs.Bytes.{first_is}
use Rattle.lua_token.specs.Long.{FirstClosing}
use Rattle.lua_token.specs.Quoted.{character_at, Characters}
use Rattle.lua_token.specs.Place.{begins}
use Rattle.lua_token.specs.declared.quoted.Character.TheVariants.{Closing}
use Rattle.lua_token.specs.declared.start.Start.{Start}
use Rattle.lua_token.specs.declared.start.Start.TheVariants as starts
use Rattle.lua_token.specs.declared.token.Token.{Token}

-- a return stands at the front, and a newline follows it
abbrev pub is_return_newline : List ℕ → Bool
is_return_newline [] = false
is_return_newline (b ∷ text) = b == 13 && first_is (λ c. c == 10) text

-- the text, with a newline for each return that a newline follows
abbrev pub plain_lines : List ℕ → List ℕ
plain_lines [] = []
plain_lines (b ∷ text) =
    if is_return_newline (b ∷ text) then plain_lines text else b ∷ plain_lines text

-- what follows a newline at the front
abbrev pub without_newline : List ℕ → List ℕ
without_newline [] = []
without_newline (b ∷ text) = if b == 10 then text else b ∷ text

-- the bytes of a long string with this body
abbrev pub long_bytes : List ℕ → List ℕ
long_bytes body = without_newline (plain_lines body)

-- the text begins with a quoted string of these bytes
abbrev pub QuotedBytes : List ℕ → List ℕ → Type 0
QuotedBytes text bytes =
    (rest : List ℕ) × Characters (slice_index text 0) (drop 1 text) bytes rest
    × (character_at (slice_index text 0) rest ≡ Closing)

-- the text begins with a long string of this level and of these bytes
abbrev pub LongBytes : ℕ → List ℕ → List ℕ → Type 0
LongBytes n text bytes =
    (m : ℕ) × FirstClosing n (drop (n + 2) text) (Some m)
    × (bytes ≡ long_bytes (take m (drop (n + 2) text)))

-- the text, which begins so, begins with a string of these bytes
abbrev pub StringBytes : Start → List ℕ → List ℕ → Type 0
StringBytes starts.Quote text bytes = QuotedBytes text bytes
StringBytes (starts.Long n) text bytes = LongBytes n text bytes
StringBytes _ text bytes = ⊥

-- the token of the source is a string of these bytes
abbrev pub HasValue : List ℕ → Token → List ℕ → Type 0
HasValue source t bytes = StringBytes (begins (drop t.start source)) (drop t.start source) bytes
