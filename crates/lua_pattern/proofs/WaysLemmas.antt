-- First ways, and the last open capture.
use Rattle.std.proofs.Common.{◌≡◌, ℕ, suc, zero, ◌+◌, ◌-◌, ◌<◌, List, [], ◌∷◌, ◌++◌, Option, Some, None, drop, length, refl, ap, sym, ◌∙◌, arith}
use Rattle.std.specs.Prelude.{slice_get, slice_set, slice_index, true}
use Rattle.std.specs.List.{prefix_len}
use Rattle.std.proofs.lemmas.List.Sums.{prefix_len-drop_yes}
use Rattle.lua_pattern.specs.Class.{takes}
use Rattle.lua_pattern.specs.declared.class.Class.{Class}
use Rattle.lua_pattern.specs.Ways.{Way, ways, after, at_each, falling, rising, close, close_or, close_first, with_captures, IsFirstWay, IsLastOpen}
use Rattle.lua_pattern.specs.declared.item.Item.{Item}
use Rattle.lua_pattern.specs.declared.mark.Mark.{Mark}
use Rattle.lua_pattern.specs.declared.mark.Mark.TheVariants as marks

-- where no later capture is open, the open one at a place is closed
pub close-at : (ms : List Mark) (i start at : ℕ) → slice_get ms i ≡ Some (marks.Open start) → close at (drop (suc i) ms) ≡ None → close at ms ≡ Some (slice_set ms i (marks.Part start at))
close-at [] i start at is none = absurd cc
close-at (m ∷ ms) zero start at is none =
    let own : m ≡ marks.Open start = cc in
    ap (close_or at m ms) none ∙ ap (λ (x : Mark). close_first at x ms) own
close-at (m ∷ ms) (suc i) start at is none = ap (close_or at m ms) (close-at ms i start at is none)

-- where the first capture isn't open, and none behind it is, none is
pub close-none : (at : ℕ) (m : Mark) (ms : List Mark) → ((start : ℕ) → m ≡ marks.Open start → ⊥) → close at ms ≡ None → close at (m ∷ ms) ≡ None
close-none at (marks.Open start) ms closed none = absurd (closed start refl)
close-none at (marks.Part start end) ms closed none = ap (close_or at (marks.Part start end) ms) none
close-none at (marks.Place place) ms closed none = ap (close_or at (marks.Place place) ms) none

-- where no end is answered there is no way, and nothing changed
pub none-of : (ws : List Way) (answer : Option ℕ) (old new : List Mark) → ((end : ℕ) → answer ≡ Some end → ⊥) → IsFirstWay ws answer old new → (ws ≡ []) × (new ≡ old)
none-of ws (Some end) old new other first = absurd (other end refl)
none-of ws None old new other first = first

-- the ways from a list of places, where there is none from the first
pub after-none : (others : List Item) (text : List ℕ) (w : Way) (ws : List Way) → ways others text w.0 w.1 ≡ [] → after others text (w ∷ ws) ≡ after others text ws
after-none others text w ws none = ap (λ (first : List Way). first ++ after others text ws) none

-- the first way from the first of some places is the first of all
pub first-after : (others : List Item) (text : List ℕ) (w : Way) (ws : List Way) (end : ℕ) (old new : List Mark) → IsFirstWay (ways others text w.0 w.1) (Some end) old new → IsFirstWay (after others text (w ∷ ws)) (Some end) old new
first-after others text w ws end old new (more, is) = (more ++ after others text ws, ap (λ (first : List Way). first ++ after others text ws) is)

pub falling-more : (first n : ℕ) → 0 < n → falling first n ≡ (first + (n - 1)) ∷ falling first (n - 1)
falling-more first zero some = absurd (omega (arith, some))
falling-more first (suc n) some = let e : suc n - 1 ≡ n = omega arith in ap (λ (k : ℕ). (first + k) ∷ falling first k) (sym e)

pub rising-more : (first n : ℕ) → rising first (n + 1) ≡ first ∷ rising (first + 1) n
rising-more first n = ap (rising first) (let e : n + 1 ≡ suc n = omega arith in e)

-- a capture that was closed is opened again
pub set-back : (ms : List Mark) (i : ℕ) (closed : Mark) (start : ℕ) → slice_get ms i ≡ Some (marks.Open start) → slice_set (slice_set ms i closed) i (marks.Open start) ≡ ms
set-back [] i closed start is = absurd cc
set-back (m ∷ ms) zero closed start is = let own : m ≡ marks.Open start = cc in ap (λ (x : Mark). x ∷ ms) (sym own)
set-back (m ∷ ms) (suc i) closed start is = ap (λ (xs : List Mark). m ∷ xs) (set-back ms i closed start is)

-- no way behind the end of a capture: it is open again, as it was
pub close-none_after : (rest : List Item) (text : List ℕ) (at : ℕ) (ms back : List Mark) (i start : ℕ) → IsLastOpen ms (Some (i, start)) → ways rest text at (slice_set ms i (marks.Part start at)) ≡ [] → back ≡ slice_set (slice_set ms i (marks.Part start at)) i (marks.Open start) → IsFirstWay (after rest text (with_captures at (close at ms))) None ms back
close-none_after rest text at ms back i start last none is = (
  ap (λ (closed : Option (List Mark)). after rest text (with_captures at closed)) (last.2 at) ∙ ap (λ (ws : List Way). ws ++ []) none,
  is ∙ set-back ms i (marks.Part start at) start last.1,
)

-- a class takes the byte at a place: its run from there on is one longer than from the next place
pub run-more : (class : Class) (text : List ℕ) (place : ℕ) → place < length text → takes class (slice_index text place) ≡ true → prefix_len (takes class) (drop place text) + 1 ≡ (prefix_len (takes class) (drop (place + 1) text) + 1) + 1
run-more class text place within taken = ap (λ (n : ℕ). n + 1) (prefix_len-drop_yes (takes class) text place 0 within taken) ∙ (omega arith)

-- no way from this place, and the class takes the byte there: on with the next place
pub rising-on : (class : Class) (rest : List Item) (text : List ℕ) (ms : List Mark) (place : ℕ) → place < length text → takes class (slice_index text place) ≡ true → ways rest text place ms ≡ []
    → after rest text (at_each ms (rising place (prefix_len (takes class) (drop place text) + 1))) ≡ after rest text (at_each ms (rising (place + 1) (prefix_len (takes class) (drop (place + 1) text) + 1)))
rising-on class rest text ms place within taken none =
    ap (λ (n : ℕ). after rest text (at_each ms (rising place n))) (run-more class text place within taken)
    ∙ ap (λ (ps : List ℕ). after rest text (at_each ms ps)) (rising-more place (prefix_len (takes class) (drop (place + 1) text) + 1))
    ∙ after-none rest text (place, ms) (at_each ms (rising (place + 1) (prefix_len (takes class) (drop (place + 1) text) + 1))) none
