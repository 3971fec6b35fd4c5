-- What `find` finds: the first of the ways at the first place that has any (Lua 5.1 manual §5.4.1).
use Rattle.std.specs.Prelude.{◌≡◌, ℕ, ◌<◌, ◌≤◌, List, [], ◌∷◌, length, Option, Some, None, IsTrue, All}
use Rattle.lua_pattern.specs.Tree.{Tree}
use Rattle.lua_pattern.specs.Ways.{Way, ways}
use Rattle.lua_pattern.specs.declared.mark.Mark.{Mark}
use Rattle.lua_pattern.specs.declared.mark.Mark.TheVariants as marks
use Rattle.lua_pattern.specs.declared.found.Capture.{Capture}
use Rattle.lua_pattern.specs.declared.found.Capture.TheVariants.{Part, Place}
use Rattle.lua_pattern.specs.declared.found.Match.{Match}

-- the captures of a match; at its end none is open
abbrev pub captures_of : List Mark → List Capture
captures_of [] = []
captures_of (marks.Part start end ∷ ms) = Part start end ∷ captures_of ms
captures_of (marks.Place place ∷ ms) = Place place ∷ captures_of ms
captures_of (marks.Open start ∷ ms) = captures_of ms

-- a match may begin at this place, where it is to begin from another on
abbrev pub MayBegin : Tree → List ℕ → ℕ → ℕ → Type 0
MayBegin p text from place = (from ≤ place) × (place ≤ length text) × (IsTrue p.anchored → place ≡ from)

-- the first of these ways is that of the match
abbrev pub IsFirst : List Way → Match → Type 0
IsFirst ws m = (ms : List Mark) × (others : List Way) × (ws ≡ (m.end, ms) ∷ others) × (m.captures ≡ captures_of ms)

-- the match is the first way at the first place that has any
pub record FoundAt (p : Tree) (text : List ℕ) (from : ℕ) (m : Match) : Type 0 where
  pub begins : MayBegin p text from m.start
  pub none_before : (place : ℕ) → from ≤ place → place < m.start → ways p.items text place [] ≡ []
  pub first : IsFirst (ways p.items text m.start []) m

-- what is found in a text from a place on; nothing exactly where there is no way at any place
abbrev pub IsFound : Tree → List ℕ → ℕ → Option Match → Type 0
IsFound p text from (Some m) = FoundAt p text from m
IsFound p text from None = (place : ℕ) → MayBegin p text from place → ways p.items text place [] ≡ []

-- the same of where the first way begins and ends, and its captures up to there
abbrev pub IsFoundAs : Tree → List ℕ → ℕ → Option (ℕ × ℕ) → List Mark → Type 0
IsFoundAs p text from (Some found) ms =
    MayBegin p text from found.0
    × ((place : ℕ) → from ≤ place → place < found.0 → ways p.items text place [] ≡ [])
    × ((others : List Way) × (ways p.items text found.0 [] ≡ (found.1, ms) ∷ others))
IsFoundAs p text from None ms = (place : ℕ) → MayBegin p text from place → ways p.items text place [] ≡ []

-- a capture's places are at most this one
abbrev pub CaptureFits : ℕ → Capture → Type 0
CaptureFits limit (Part start end) = (start ≤ end) × (end ≤ limit)
CaptureFits limit (Place place) = place ≤ limit

-- a match lies within a text of this length, and its captures end where it does or before
pub record MatchFits (limit : ℕ) (m : Match) : Type 0 where
  pub in_order : m.start ≤ m.end
  pub within : m.end ≤ limit
  pub captures : All (CaptureFits m.end) m.captures
