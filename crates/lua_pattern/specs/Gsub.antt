-- What `string.gsub` makes of a text (Lua 5.1 manual §5.4). The percent sign is byte 37.
use Rattle.std.specs.Prelude.{◌≡◌, ℕ, ◌+◌, ◌-◌, ◌⊎◌, Bool, List, [], ◌∷◌, ◌++◌, drop, slice_get, slice_range, Option, Some, None, Result, Ok, Err, not, ◌&&◌, ◌==◌, if◌then◌else◌}
use Rattle.std.specs.Char.{is_ascii_digit}
use Rattle.std.specs.Fmt.{decimal}
use Rattle.lua_pattern.specs.Tree.{Tree}
use Rattle.lua_pattern.specs.declared.found.Capture.{Capture}
use Rattle.lua_pattern.specs.declared.found.Capture.TheVariants.{Part, Place}
use Rattle.lua_pattern.specs.declared.found.Match.{Match}
use Rattle.lua_pattern.specs.Walk.{behind, IsNext, HasEnded}
use Rattle.lua_pattern.specs.declared.walk.Walk.{Walk}
use Rattle.lua_pattern.specs.declared.replacement.ReplaceFault.{ReplaceFault}
use Rattle.lua_pattern.specs.declared.replacement.ReplaceFault.TheVariants.{InvalidReplacement, InvalidCapture, Memory}

-- a text that was made, and how many matches were replaced in it
abbrev pub Made : Type 0 → Type 0
Made F = Result (List ℕ × ℕ) F

-- these bytes and so many matches, and then what is made of the rest
abbrev pub made_before : {F : Type 0} → List ℕ → ℕ → Made F → Made F
made_before bytes count (Ok (others, more)) = Ok (bytes ++ others, count + more)
made_before bytes count (Err fault) = Err fault

-- What is made of a text from where a walk stands, where `r` says which bytes stand for a match or why there are none:
-- behind the last match the rest is copied; at a match what stands before it is copied and then its bytes follow; the
-- first match that has none ends it all.
pub data Gsub {F : Type 0} (p : Tree) (text : List ℕ) (r : Match → Result (List ℕ) F) : Walk → Made F → Type 0 where
  ends : {w : Walk} → HasEnded p text w → Gsub p text r w (Ok (drop w.passed text, 0))
  fails : {w : Walk} {fault : F} (m : Match) → IsNext p text w m → r m ≡ Err fault → Gsub p text r w (Err fault)
  replaces : {w : Walk} {made : Made F} (m : Match) (bytes : List ℕ) → IsNext p text w m → r m ≡ Ok bytes
      → Gsub p text r (behind p w m) made → Gsub p text r w (made_before (slice_range text w.passed m.start ++ bytes) 1 made)

-- the captures of a match; the match itself where there are none
abbrev pub parts : Match → List Capture → List Capture
parts m [] = Part m.start m.end ∷ []
parts m (capture ∷ captures) = capture ∷ captures

-- the bytes of a capture: those of the text, or a place counted from 1
abbrev pub capture_bytes : List ℕ → Option Capture → Result (List ℕ) ReplaceFault
capture_bytes text (Some (Part start end)) = Ok (slice_range text start end)
capture_bytes text (Some (Place place)) = Ok (decimal (place + 1))
capture_bytes text None = Err InvalidCapture

-- what a percent sign and this byte stand for: a capture, with 0 for the match, and else the byte
unfoldable pub behind_percent : List ℕ → Match → ℕ → Result (List ℕ) ReplaceFault
behind_percent text m b =
    if is_ascii_digit b
    then (if b == 48 then Ok (slice_range text m.start m.end) else capture_bytes text (slice_get (parts m m.captures) (b - 49)))
    else Ok (b ∷ [])

-- one after the other, or the first fault
abbrev pub joined : Result (List ℕ) ReplaceFault → Result (List ℕ) ReplaceFault → Result (List ℕ) ReplaceFault
joined (Ok bytes) (Ok others) = Ok (bytes ++ others)
joined (Ok bytes) (Err fault) = Err fault
joined (Err fault) others = Err fault

-- what a byte of a replacement string stands for, where a percent sign stands before it or not
abbrev pub piece_of : Bool → List ℕ → Match → ℕ → Result (List ℕ) ReplaceFault
piece_of percent text m b =
    if percent then behind_percent text m b else (if b == 37 then Ok [] else Ok (b ∷ []))

-- whether the byte is a percent sign that the next one belongs to
abbrev pub next_of : Bool → ℕ → Bool
next_of percent b = not percent && b == 37

-- what the rest of a replacement string stands for at a match, behind a percent sign or not
abbrev pub expanded : Bool → List ℕ → List ℕ → Match → Result (List ℕ) ReplaceFault
expanded percent [] text m = if percent then Err InvalidReplacement else Ok []
expanded percent (b ∷ replacement) text m =
    joined (piece_of percent text m b) (expanded (next_of percent b) replacement text m)

-- these bytes, of which there are some, were put at the end
abbrev pub Puts : Result (List ℕ) ReplaceFault → List ℕ → List ℕ → Type 0
Puts wanted old new = (bytes : List ℕ) × (wanted ≡ Ok bytes) × (new ≡ old ++ bytes)

-- there are no bytes because of this fault, or memory ran out
abbrev pub Refuses : {A : Type 0} → Result A ReplaceFault → ReplaceFault → Type 0
Refuses wanted fault = (fault ≡ Memory) ⊎ (wanted ≡ Err fault)
