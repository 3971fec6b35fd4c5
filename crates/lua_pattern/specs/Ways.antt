-- The ways in which a pattern matches a text, in order of preference (Lua 5.1 manual §5.4.1).
use Rattle.std.specs.Prelude.{◌≡◌, ℕ, suc, zero, ◌+◌, ◌-◌, ◌<◌, List, [], ◌∷◌, ◌++◌, Option, Some, None, drop, length, map, nat_eq, slice_get, slice_set, slice_range, ◌==◌, if◌then◌else◌}
use Rattle.std.specs.List.{prefix_len, flat_map, starts_with}
use Rattle.lua_pattern.specs.Class.{takes}
use Rattle.lua_pattern.specs.declared.item.Repeat.{Repeat}
use Rattle.lua_pattern.specs.declared.item.Repeat.TheVariants.{Once, Star, Plus, Minus, Question}
use Rattle.lua_pattern.specs.declared.item.Item.{Item}
use Rattle.lua_pattern.specs.declared.item.Item.TheVariants as items
use Rattle.lua_pattern.specs.declared.mark.Mark.{Mark}
use Rattle.lua_pattern.specs.declared.mark.Mark.TheVariants as marks

-- a way: where it ends, and the captures
abbrev pub Way : Type 0
Way = ℕ × List Mark

-- so many places from one on, rising
abbrev pub rising : ℕ → ℕ → List ℕ
rising first zero = []
rising first (suc n) = first ∷ rising (first + 1) n

-- so many places from one on, falling
abbrev pub falling : ℕ → ℕ → List ℕ
falling first zero = []
falling first (suc n) = (first + n) ∷ falling first n

-- where it goes on behind a class of which n bytes in a row follow: `*` and `+` prefer the farthest place, `-` the
-- nearest
abbrev pub places : Repeat → ℕ → ℕ → List ℕ
places Once at n = rising (at + 1) (if n == 0 then 0 else 1)
places Star at n = falling at (n + 1)
places Plus at n = falling (at + 1) n
places Minus at n = rising at (n + 1)
places Question at n = falling at (if n == 0 then 1 else 2)

-- the same captures, of which this, which no open one follows, is closed here
abbrev pub close_first : ℕ → Mark → List Mark → Option (List Mark)
close_first at (marks.Open start) later = Some (marks.Part start at ∷ later)
close_first at (marks.Part start end) later = None
close_first at (marks.Place place) later = None

-- one of the later captures was closed, or else the first is, if it is open
abbrev pub close_or : ℕ → Mark → List Mark → Option (List Mark) → Option (List Mark)
close_or at mark later (Some closed) = Some (mark ∷ closed)
close_or at mark later None = close_first at mark later

-- the captures with the last open one closed at this place, where one is open
abbrev pub close : ℕ → List Mark → Option (List Mark)
close at [] = None
close at (mark ∷ later) = close_or at mark later (close at later)

-- the bytes of a capture, once it is closed
abbrev pub part : List ℕ → Option Mark → Option (List ℕ)
part text (Some (marks.Part start end)) = Some (slice_range text start end)
part text (Some (marks.Open start)) = None
part text (Some (marks.Place place)) = None
part text None = None

-- where the first y ends with which there are as many y as x, where so many bytes, with so many x more than y, stand
-- before the text
abbrev pub closing : ℕ → ℕ → ℕ → ℕ → List ℕ → Option ℕ
closing x y depth before [] = None
closing x y depth before (b ∷ text) =
    if b == y then (if depth == 1 then Some (before + 1) else closing x y (depth - 1) (before + 1) text)
    else (if b == x then closing x y (depth + 1) (before + 1) text else closing x y depth (before + 1) text)

-- how many bytes are balanced from an x at the front on
abbrev pub balanced : ℕ → ℕ → List ℕ → Option ℕ
balanced x y [] = None
balanced x y (b ∷ text) = if b == x then closing x y 1 1 text else None

-- how many bytes the text begins with that are these, where it does
abbrev pub repeated : List ℕ → Option (List ℕ) → Option ℕ
repeated text (Some bytes) = if starts_with nat_eq text bytes then Some (length bytes) else None
repeated text None = None

-- the way on behind so many bytes, where there is one
abbrev pub onward : ℕ → List Mark → Option ℕ → List Way
onward at ms (Some n) = (at + n, ms) ∷ []
onward at ms None = []

-- the way on with these captures, where there are some
abbrev pub with_captures : ℕ → Option (List Mark) → List Way
with_captures at (Some ms) = (at, ms) ∷ []
with_captures at None = []

-- these places, with these captures
abbrev pub at_each : List Mark → List ℕ → List Way
at_each ms ps = map (λ place. (place, ms)) ps

-- the ways of one item at a place, in order of preference
abbrev pub moves : Item → List ℕ → ℕ → List Mark → List Way
moves (items.Single class repeat) text at ms =
    at_each ms (places repeat at (prefix_len (takes class) (drop at text)))
moves items.Open text at ms = (at, ms ++ marks.Open at ∷ []) ∷ []
moves items.Close text at ms = with_captures at (close at ms)
moves items.Position text at ms = (at, ms ++ marks.Place at ∷ []) ∷ []
moves (items.Back k) text at ms = onward at ms (repeated (drop at text) (part text (slice_get ms (k - 1))))
moves (items.Balance x y) text at ms = onward at ms (balanced x y (drop at text))
moves items.End text at ms = if at == length text then (at, ms) ∷ [] else []

-- The ways of a list of items at a place, in order of preference: those of the first item, and for each of them those
-- of the others from where it ends.
abbrev pub ways : List Item → List ℕ → ℕ → List Mark → List Way
ways [] text at ms = (at, ms) ∷ []
ways (item ∷ others) text at ms = flat_map (λ way. ways others text way.0 way.1) (moves item text at ms)

-- the ways of the items that follow, from each of these ways on
abbrev pub after : List Item → List ℕ → List Way → List Way
after others text ws = flat_map (λ way. ways others text way.0 way.1) ws

-- what is answered is the first of the ways: where it ends, with its captures; or there is none, and nothing changed
abbrev pub IsFirstWay : List Way → Option ℕ → List Mark → List Mark → Type 0
IsFirstWay ws (Some end) old new = (others : List Way) × (ws ≡ (end, new) ∷ others)
IsFirstWay ws None old new = (ws ≡ []) × (new ≡ old)

-- which capture is the last open one, and where it began
abbrev pub IsLastOpen : List Mark → Option (ℕ × ℕ) → Type 0
IsLastOpen ms (Some found) =
    (found.0 < length ms) × (slice_get ms found.0 ≡ Some (marks.Open found.1))
    × ((at : ℕ) → close at ms ≡ Some (slice_set ms found.0 (marks.Part found.1 at)))
IsLastOpen ms None = (at : ℕ) → close at ms ≡ None
