-- Ways lie within the text: each ends between the place from which it goes and the text's end, and so do its captures.
use Rattle.std.proofs.Common.{◌≡◌, ℕ, suc, zero, ◌+◌, ◌-◌, ◌≤◌, Bool, true, false, List, [], ◌∷◌, ◌++◌, Option, Some, None, drop, take, length, refl, sym, ap, subst, arith}
use Rattle.std.specs.Prelude.{◌==◌, if◌then◌else◌, slice_get, nat_eq, IfSome, IfOk, Result, Ok, Err}
use Rattle.std.specs.List.{prefix_len, flat_map, starts_with, AllByRecursion}
use Rattle.std.proofs.lemmas.List.Elements.{All-from_recursion}
use Rattle.std.specs.Cmp.Lexicographic.{pointwise, same_text}
use Rattle.std.proofs.lemmas.List.{length-drop, length-take}
use Rattle.std.proofs.lemmas.List.Sums.{prefix_len-le-length}
use Rattle.lua_pattern.specs.Class.{takes}
use Rattle.lua_pattern.specs.Ways.{Way, rising, falling, places, at_each, close, close_or, close_first, closing, balanced, part, repeated, onward, with_captures, moves, ways}
use Rattle.lua_pattern.specs.Tree.{Tree}
use Rattle.lua_pattern.specs.Found.{captures_of, FoundAt, IsFound, CaptureFits, MatchFits}
use Rattle.love_base.specs.declared.memory.Memory.{Memory}
use Rattle.lua_pattern.specs.declared.found.Capture.{Capture}
use Rattle.lua_pattern.specs.declared.found.Match.{Match}
use Rattle.lua_pattern.specs.declared.item.Item.{Item}
use Rattle.lua_pattern.specs.declared.item.Item.TheVariants as items
use Rattle.lua_pattern.specs.declared.item.Repeat.{Repeat}
use Rattle.lua_pattern.specs.declared.item.Repeat.TheVariants.{Once, Star, Plus, Minus, Question}
use Rattle.lua_pattern.specs.declared.mark.Mark.{Mark}
use Rattle.lua_pattern.specs.declared.mark.Mark.TheVariants as marks

-- a capture's places are at most this one
abbrev pub MarkFits : ℕ → Mark → Type 0
MarkFits at (marks.Open start) = start ≤ at
MarkFits at (marks.Part start end) = (start ≤ end) × (end ≤ at)
MarkFits at (marks.Place place) = place ≤ at

abbrev pub MarksFit : ℕ → List Mark → Type 0
MarksFit at [] = Unit {0}
MarksFit at (m ∷ ms) = MarkFits at m × MarksFit at ms

-- a way lies between a place and the text's end
abbrev pub WayFits : List ℕ → ℕ → Way → Type 0
WayFits text at w = (at ≤ w.0) × (w.0 ≤ length text) × MarksFit w.0 w.1

abbrev pub EachWay : (Way → Type 0) → List Way → Type 0
EachWay P [] = Unit {0}
EachWay P (w ∷ ws) = P w × EachWay P ws

each-append : (P : Way → Type 0) (ws vs : List Way) → EachWay P ws → EachWay P vs → EachWay P (ws ++ vs)
each-append P [] vs h k = k
each-append P (w ∷ ws) vs h k = (h.0, each-append P ws vs h.1 k)

each-flat_map : (P Q : Way → Type 0) (f : Way → List Way) (ws : List Way) → EachWay P ws → ((w : Way) → P w → EachWay Q (f w)) → EachWay Q (flat_map f ws)
each-flat_map P Q f [] h k = tt
each-flat_map P Q f (w ∷ ws) h k = each-append Q (f w) (flat_map f ws) (k w h.0) (each-flat_map P Q f ws h.1 k)

-- ---- captures

mark_later : (at later : ℕ) (m : Mark) → at ≤ later → MarkFits at m → MarkFits later m
mark_later at later (marks.Open start) h k = omega arith
mark_later at later (marks.Part start end) h k = (k.0, omega (arith, k.1))
mark_later at later (marks.Place place) h k = omega arith

marks_later : (at later : ℕ) (ms : List Mark) → at ≤ later → MarksFit at ms → MarksFit later ms
marks_later at later [] h k = tt
marks_later at later (m ∷ ms) h k = (mark_later at later m h k.0, marks_later at later ms h k.1)

marks_more : (at : ℕ) (ms : List Mark) (m : Mark) → MarksFit at ms → MarkFits at m → MarksFit at (ms ++ m ∷ [])
marks_more at [] m h k = (k, tt)
marks_more at (n ∷ ms) m h k = (h.0, marks_more at ms m h.1 k)

-- what is closed fits, where something is
abbrev ClosedFit : ℕ → Option (List Mark) → Type 0
ClosedFit at (Some ms) = MarksFit at ms
ClosedFit at None = Unit {0}

close_first-fits : (at : ℕ) (m : Mark) (later : List Mark) → MarkFits at m → MarksFit at later → ClosedFit at (close_first at m later)
close_first-fits at (marks.Open start) later h k = ((h, omega arith), k)
close_first-fits at (marks.Part start end) later h k = tt
close_first-fits at (marks.Place place) later h k = tt

close_or-fits : (at : ℕ) (m : Mark) (later : List Mark) (closed : Option (List Mark)) → MarkFits at m → MarksFit at later → ClosedFit at closed → ClosedFit at (close_or at m later closed)
close_or-fits at m later (Some closed) h k c = (h, c)
close_or-fits at m later None h k c = close_first-fits at m later h k

close-fits : (at : ℕ) (ms : List Mark) → MarksFit at ms → ClosedFit at (close at ms)
close-fits at [] h = tt
close-fits at (m ∷ later) h = close_or-fits at m later (close at later) h.0 h.1 (close-fits at later h.1)

-- ---- places

at_each-rising : (text : List ℕ) (at first n : ℕ) (ms : List Mark) → at ≤ first → first + n ≤ length text + 1 → MarksFit at ms → EachWay (WayFits text at) (at_each ms (rising first n))
at_each-rising text at first zero ms h k m = tt
at_each-rising text at first (suc n) ms h k m = ((h, omega arith, marks_later at first ms h m), at_each-rising text at (first + 1) n ms (omega arith) (omega arith) m)

at_each-falling : (text : List ℕ) (at first n : ℕ) (ms : List Mark) → at ≤ first → first + n ≤ length text + 1 → MarksFit at ms → EachWay (WayFits text at) (at_each ms (falling first n))
at_each-falling text at first zero ms h k m = tt
at_each-falling text at first (suc n) ms h k m = ((omega arith, omega arith, marks_later at (first + n) ms (omega arith) m), at_each-falling text at first n ms h (omega arith) m)

-- one step onward, if a byte is taken
once_of : (none : Bool) (n : ℕ) → none ≡ (n == 0) → (if none then 0 else 1) ≤ n
once_of true n e = omega arith
once_of false zero e = absurd cc
once_of false (suc n) e = omega arith

once_bound : (n : ℕ) → (if n == 0 then 0 else 1) ≤ n
once_bound n = once_of (n == 0) n refl

question_of : (none : Bool) (n : ℕ) → none ≡ (n == 0) → (if none then 1 else 2) ≤ n + 1
question_of true n e = omega arith
question_of false zero e = absurd cc
question_of false (suc n) e = omega arith

question_bound : (n : ℕ) → (if n == 0 then 1 else 2) ≤ n + 1
question_bound n = question_of (n == 0) n refl

places-fit : (text : List ℕ) (at n : ℕ) (repeat : Repeat) (ms : List Mark) → at + n ≤ length text → MarksFit at ms → EachWay (WayFits text at) (at_each ms (places repeat at n))
places-fit text at n Once ms h m = at_each-rising text at (at + 1) (if n == 0 then 0 else 1) ms (omega arith) (omega (arith, once_bound n)) m
places-fit text at n Star ms h m = at_each-falling text at at (n + 1) ms (omega arith) (omega arith) m
places-fit text at n Plus ms h m = at_each-falling text at (at + 1) n ms (omega arith) (omega arith) m
places-fit text at n Minus ms h m = at_each-rising text at at (n + 1) ms (omega arith) (omega arith) m
places-fit text at n Question ms h m = at_each-falling text at at (if n == 0 then 1 else 2) ms (omega arith) (omega (arith, question_bound n)) m

-- ---- steps

-- so many bytes, where there are some, are among these
abbrev Among : ℕ → Option ℕ → Type 0
Among limit (Some n) = n ≤ limit
Among limit None = Unit {0}

among-more : (limit more : ℕ) (o : Option ℕ) → limit ≤ more → Among limit o → Among more o
among-more limit more (Some n) h k = omega arith
among-more limit more None h k = tt

onward-fits : (text : List ℕ) (at : ℕ) (ms : List Mark) (o : Option ℕ) → at ≤ length text → MarksFit at ms → Among (length (drop at text)) o → EachWay (WayFits text at) (onward at ms o)
onward-fits text at ms (Some n) h m k = ((omega arith, omega (arith, k, length-drop at text), marks_later at (at + n) ms (omega arith) m), tt)
onward-fits text at ms None h m k = tt

closing-fits : (x y depth before : ℕ) (text : List ℕ) → Among (before + length text) (closing x y depth before text)
closing-fits x y depth before [] = tt
closing-fits x y depth before (b ∷ text) =
    let limit : before + 1 + length text ≤ before + length (b ∷ text) = omega arith in
    elim (b == y) as (λ (t : Bool). Among (before + length (b ∷ text)) (if t then (if depth == 1 then Some (before + 1) else closing x y (depth - 1) (before + 1) text) else (if b == x then closing x y (depth + 1) (before + 1) text else closing x y depth (before + 1) text))) [
      | true ↦ elim (depth == 1) as (λ (t : Bool). Among (before + length (b ∷ text)) (if t then Some (before + 1) else closing x y (depth - 1) (before + 1) text)) [
        | true ↦ omega arith
        | false ↦ among-more _ _ (closing x y (depth - 1) (before + 1) text) limit (closing-fits x y (depth - 1) (before + 1) text)
      ]
      | false ↦ elim (b == x) as (λ (t : Bool). Among (before + length (b ∷ text)) (if t then closing x y (depth + 1) (before + 1) text else closing x y depth (before + 1) text)) [
        | true ↦ among-more _ _ (closing x y (depth + 1) (before + 1) text) limit (closing-fits x y (depth + 1) (before + 1) text)
        | false ↦ among-more _ _ (closing x y depth (before + 1) text) limit (closing-fits x y depth (before + 1) text)
      ]
    ]

balanced-fits : (x y : ℕ) (text : List ℕ) → Among (length text) (balanced x y text)
balanced-fits x y [] = tt
balanced-fits x y (b ∷ text) =
    elim (b == x) as (λ (t : Bool). Among (length (b ∷ text)) (if t then closing x y 1 1 text else None)) [
      | true ↦ among-more (1 + length text) (length (b ∷ text)) (closing x y 1 1 text) (omega arith) (closing-fits x y 1 1 text)
      | false ↦ tt
    ]

found_again : (text bytes : List ℕ) (b : Bool) → b ≡ pointwise nat_eq bytes (take (length bytes) text) → Among (length text) (if b then Some (length bytes) else None)
found_again text bytes true e = let same = ap length (same_text bytes (take (length bytes) text) e) in omega (arith, same, length-take (length bytes) text)
found_again text bytes false e = tt

repeated-fits : (text : List ℕ) (o : Option (List ℕ)) → Among (length text) (repeated text o)
repeated-fits text None = tt
repeated-fits text (Some bytes) = found_again text bytes (starts_with nat_eq text bytes) refl

with_captures-fits : (text : List ℕ) (at : ℕ) (o : Option (List Mark)) → at ≤ length text → ClosedFit at o → EachWay (WayFits text at) (with_captures at o)
with_captures-fits text at (Some ms) h m = ((omega arith, h, m), tt)
with_captures-fits text at None h m = tt

moves-fit : (item : Item) (text : List ℕ) (at : ℕ) (ms : List Mark) → at ≤ length text → MarksFit at ms → EachWay (WayFits text at) (moves item text at ms)
moves-fit (items.Single class repeat) text at ms h m = places-fit text at (prefix_len (takes class) (drop at text)) repeat ms (omega (arith, prefix_len-le-length (takes class) (drop at text), length-drop at text)) m
moves-fit items.Open text at ms h m = ((omega arith, h, marks_more at ms (marks.Open at) m (omega arith)), tt)
moves-fit items.Close text at ms h m = with_captures-fits text at (close at ms) h (close-fits at ms m)
moves-fit items.Position text at ms h m = ((omega arith, h, marks_more at ms (marks.Place at) m (omega arith)), tt)
moves-fit (items.Back k) text at ms h m = onward-fits text at ms (repeated (drop at text) (part text (slice_get ms (k - 1)))) h m (repeated-fits (drop at text) (part text (slice_get ms (k - 1))))
moves-fit (items.Balance x y) text at ms h m = onward-fits text at ms (balanced x y (drop at text)) h m (balanced-fits x y (drop at text))
moves-fit items.End text at ms h m =
    elim (at == length text) as (λ (t : Bool). EachWay (WayFits text at) (if t then (at, ms) ∷ [] else [])) [
      | true ↦ ((omega arith, h, m), tt)
      | false ↦ tt
    ]

fits_from : (text : List ℕ) (at later : ℕ) (ws : List Way) → at ≤ later → EachWay (WayFits text later) ws → EachWay (WayFits text at) ws
fits_from text at later [] h k = tt
fits_from text at later (w ∷ ws) h k = ((omega (arith, k.0), k.0.1, k.0.2), fits_from text at later ws h k.1)

-- each way lies within the text
pub ways-fit : (items : List Item) (text : List ℕ) (at : ℕ) (ms : List Mark) → at ≤ length text → MarksFit at ms → EachWay (WayFits text at) (ways items text at ms)
ways-fit [] text at ms h m = ((omega arith, h, m), tt)
ways-fit (item ∷ others) text at ms h m =
    each-flat_map (WayFits text at) (WayFits text at) (λ (way : Way). ways others text way.0 way.1) (moves item text at ms) (moves-fit item text at ms h m)
    (λ w f. fits_from text at w.0 (ways others text w.0 w.1) f.0 (ways-fit others text w.0 w.1 f.1 f.2))

-- ---- what is found

-- a capture of a match lies between two of its places
capture-fits : (at : ℕ) (ms : List Mark) → MarksFit at ms → AllByRecursion (CaptureFits at) (captures_of ms)
capture-fits at [] m = tt
capture-fits at (marks.Open start ∷ ms) m = capture-fits at ms m.1
capture-fits at (marks.Part start end ∷ ms) m = (m.0, capture-fits at ms m.1)
capture-fits at (marks.Place place ∷ ms) m = (m.0, capture-fits at ms m.1)

first-fits : (text : List ℕ) (at end : ℕ) (ms : List Mark) (ws others : List Way) → ws ≡ (end, ms) ∷ others → EachWay (WayFits text at) ws → WayFits text at (end, ms)
first-fits text at end ms ws others is h = (subst (λ (vs : List Way). EachWay (WayFits text at) vs) is h).0

-- a match that is found lies within the text, and so do its captures
pub found-fits : (p : Tree) (text : List ℕ) (from : ℕ) (m : Match) → FoundAt p text from m → MatchFits (length text) m
found-fits p text from m found =
    let first = found.first in
    let fits = first-fits text m.start m.end first.0 (ways p.items text m.start []) first.1 first.2 (ways-fit p.items text m.start [] found.begins.1 tt) in
    let captures = subst (λ (cs : List Capture). AllByRecursion (CaptureFits m.end) cs) (sym first.3) (capture-fits m.end first.0 fits.2) in
    record { in_order = fits.0; within = fits.1; captures = All-from_recursion (CaptureFits m.end) m.captures captures }

-- what is found, if anything, lies within the text
pub answer-fits : (p : Tree) (text : List ℕ) (from : ℕ) (answer : Result (Option Match) Memory) → IfOk answer (IsFound p text from) → IfOk answer (λ found. IfSome found (MatchFits (length text)))
answer-fits p text from (Ok (Some m)) found = found-fits p text from m found
answer-fits p text from (Ok None) found = tt
answer-fits p text from (Err want) found = tt
