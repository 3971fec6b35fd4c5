-- How a pattern's text is read, item by item.
use Rattle.std.proofs.Common.{◌≡◌, ℕ, suc, ◌+◌, ◌-◌, ◌<◌, ◌≤◌, Bool, true, false, List, [], ◌∷◌, ◌++◌, length, drop, Option, Some, None, Ok, Err, refl, sym, ap, ◌∙◌, subst, append_assoc, arith, length-append, ◌⊎◌, inl, inr}
use Rattle.std.proofs.lemmas.List.{append-nil}
use Rattle.std.specs.Prelude.{◌==◌, ◌||◌, not, nat_le, unwrap_or, is_some, count_by, if◌then◌else◌, slice_get}
use Rattle.std.proofs.lemmas.Bool.Decides.{nat_tests}
use Rattle.std.proofs.lemmas.Grind.{common_steps}
use Rattle.lua_pattern.specs.Tree.{begins_capture, most_captures, most_items}
use Rattle.lua_pattern.specs.Ways.{close, close_or, close_first}
use Rattle.lua_pattern.specs.Reading.{start_of, Stands, ClassRead, with_repeat, ItemRead, Read, refused, too_many, Judged, ItemAt, captures_after, at_end, with_items, Reads, ends, faults_here, then_more, is_part}
use Rattle.lua_pattern.specs.declared.item.Item.{Item}
use Rattle.lua_pattern.specs.declared.item.Item.TheVariants as items
use Rattle.lua_pattern.specs.declared.mark.Mark.{Mark}
use Rattle.lua_pattern.specs.declared.mark.Mark.TheVariants as marks
use Rattle.lua_pattern.specs.declared.start.Start.{Start}
use Rattle.lua_pattern.specs.declared.start.Start.TheVariants as starts
use Rattle.lua_pattern.specs.declared.class.Class.TheVariants as classes
use Rattle.lua_pattern.specs.declared.fault.PatternFault.{PatternFault}
use Rattle.lua_pattern.specs.declared.fault.PatternFault.TheVariants as faults

-- ---- the captures

length-close_first : (at : ℕ) (m : Mark) (later : List Mark) → length (unwrap_or (close_first at m later) (m ∷ later)) ≡ length (m ∷ later)
length-close_first at (marks.Open start) later = refl
length-close_first at (marks.Part start end) later = refl
length-close_first at (marks.Place place) later = refl

length-close_or : (at : ℕ) (m : Mark) (later : List Mark) (closed : Option (List Mark)) → length (unwrap_or closed later) ≡ length later → length (unwrap_or (close_or at m later closed) (m ∷ later)) ≡ length (m ∷ later)
length-close_or at m later (Some closed) same = ap (λ (n : ℕ). suc n) same
length-close_or at m later None same = length-close_first at m later

-- closing a capture adds none
pub length-close : (at : ℕ) (ms : List Mark) → length (unwrap_or (close at ms) ms) ≡ length ms
length-close at [] = refl
length-close at (m ∷ later) = length-close_or at m later (close at later) (length-close at later)

-- an item adds the capture that it begins
pub length-captures_after : (item : Item) (captures : List Mark) → length (captures_after item captures) ≡ length captures + count_by begins_capture (item ∷ [])
length-captures_after items.Open captures = length-append captures (marks.Open 0 ∷ [])
length-captures_after items.Position captures = length-append captures (marks.Place 0 ∷ [])
length-captures_after items.Close captures = length-close 0 captures ∙ (omega arith)
length-captures_after (items.Single class repeat) captures = omega arith
length-captures_after (items.Back k) captures = omega arith
length-captures_after (items.Balance x y) captures = omega arith
length-captures_after items.End captures = omega arith

-- ---- what isn't refused

allowed : (o : Option PatternFault) (start : Start) (text : List ℕ) (item : Item) (rest : List ℕ) → Judged o start text (Ok (item, rest)) → (o ≡ None) × Stands start text (Ok (item, rest))
allowed (Some fault) start text item rest h = absurd cc
allowed None start text item rest h = (refl, h)

else_none : (b : Bool) (fault : PatternFault) (o : Option PatternFault) → (if b then Some fault else o) ≡ None → (b ≡ false) × (o ≡ None)
else_none true fault o none = absurd cc
else_none false fault o none = (refl, none)

below : (n count : ℕ) → nat_le n count ≡ false → count < n
below n count not_yet = grind (arith, nat_tests)

not_too_many : (count : ℕ) → too_many count ≡ None → count < most_items
not_too_many count none = below most_items count (else_none (nat_le most_items count) faults.TooManyItems None none).0

few_of : (captures : List Mark) (count : ℕ) (start : Start) (text : List ℕ) (item : Item) (rest : List ℕ) → refused captures count start ≡ None → Stands start text (Ok (item, rest)) → count < most_items
few_of captures count starts.Open text item rest none h = not_too_many count (else_none (nat_le most_captures (length captures)) faults.TooManyCaptures (too_many count) none).1
few_of captures count starts.Position text item rest none h = not_too_many count (else_none (nat_le most_captures (length captures)) faults.TooManyCaptures (too_many count) none).1
few_of captures count starts.Close text item rest none h = not_too_many count (else_none (not (is_some (close 0 captures))) faults.BadCapture (too_many count) none).1
few_of captures count (starts.Back k) text item rest none h = not_too_many count (else_none (k == 0 || not (is_part (slice_get captures (k - 1)))) faults.BadCapture (too_many count) none).1
few_of captures count (starts.Balance x y) text item rest none h = not_too_many count none
few_of captures count starts.ShortBalance text item rest none h = absurd cc
few_of captures count starts.Frontier text item rest none h = not_too_many count none
few_of captures count starts.LonePercent text item rest none h = absurd cc
few_of captures count starts.End text item rest none h = not_too_many count none
few_of captures count starts.Any text item rest none h = not_too_many count none
few_of captures count starts.Set text item rest none h = not_too_many count none
few_of captures count (starts.One m n) text item rest none h = not_too_many count none

-- fewer than the greatest number of items stand before another
pub few_before : (captures : List Mark) (count b : ℕ) (text : List ℕ) (item : Item) (rest : List ℕ) → ItemAt captures count b text (Ok (item, rest)) → count < most_items
few_before captures count b text item rest h =
    let start = start_of b text in
    let clear = allowed (refused captures count start) start text item rest h in
    few_of captures count start text item rest clear.0 clear.1

-- the item that was read
item_is : (p q : Item × List ℕ) → (let r : ItemRead = Ok p in r) ≡ Ok q → p.0 ≡ q.0
item_is p q same = let pair : p ≡ q = cc in ap (λ (x : Item × List ℕ). x.0) pair

adds_none : (captures : List Mark) (item : Item) → begins_capture item ≡ false → length captures ≤ most_captures → length captures + count_by begins_capture (item ∷ []) ≤ most_captures
adds_none captures item without room = subst (λ (b : Bool). length captures + (0 + (if b then 1 else 0)) ≤ most_captures) (sym without) (omega arith)

adds_one : (captures : List Mark) (item : Item) → length captures < most_captures → length captures + count_by begins_capture (item ∷ []) ≤ most_captures
adds_one captures item room = elim (begins_capture item) as (λ (b : Bool). length captures + (0 + (if b then 1 else 0)) ≤ most_captures) [ true ↦ omega arith | false ↦ omega arith ]

class_begins_none : (class : ClassRead) (item : Item) (rest : List ℕ) → Ok (item, rest) ≡ with_repeat class → begins_capture item ≡ false
class_begins_none (Ok class) item rest is = ap begins_capture (item_is (item, rest) _ is)
class_begins_none (Err fault) item rest is = absurd cc

room_of : (captures : List Mark) (count : ℕ) (start : Start) (text : List ℕ) (item : Item) (rest : List ℕ) → refused captures count start ≡ None → Stands start text (Ok (item, rest)) → length captures ≤ most_captures → length captures + count_by begins_capture (item ∷ []) ≤ most_captures
room_of captures count starts.Open text item rest none h room = adds_one captures item (below most_captures (length captures) (else_none (nat_le most_captures (length captures)) faults.TooManyCaptures (too_many count) none).0)
room_of captures count starts.Position text item rest none h room = adds_one captures item (below most_captures (length captures) (else_none (nat_le most_captures (length captures)) faults.TooManyCaptures (too_many count) none).0)
room_of captures count starts.Close text item rest none h room = adds_none captures item (ap begins_capture (item_is (item, rest) _ h)) room
room_of captures count (starts.Back k) text item rest none h room = adds_none captures item (ap begins_capture (item_is (item, rest) _ h)) room
room_of captures count (starts.Balance x y) text item rest none h room = adds_none captures item (ap begins_capture (item_is (item, rest) _ h)) room
room_of captures count starts.ShortBalance text item rest none h room = absurd cc
room_of captures count starts.Frontier text item rest none h room = absurd cc
room_of captures count starts.LonePercent text item rest none h room = absurd cc
room_of captures count starts.End text item rest none h room = adds_none captures item (ap begins_capture (item_is (item, rest) _ h)) room
room_of captures count starts.Any text item rest none h room = adds_none captures item (class_begins_none (Ok (classes.Any, text)) item rest h) room
room_of captures count starts.Set text item rest none (class, set, h) room = adds_none captures item (class_begins_none class item rest h) room
room_of captures count (starts.One m n) text item rest none h room = adds_none captures item (class_begins_none (Ok (classes.One m, drop n text)) item rest h) room

-- there is room for the capture that an item begins
pub room_for : (captures : List Mark) (count b : ℕ) (text : List ℕ) (item : Item) (rest : List ℕ) → ItemAt captures count b text (Ok (item, rest)) → length captures ≤ most_captures → length captures + count_by begins_capture (item ∷ []) ≤ most_captures
room_for captures count b text item rest h room =
    let start = start_of b text in
    let clear = allowed (refused captures count start) start text item rest h in
    room_of captures count start text item rest clear.0 clear.1 room

-- ---- one item more

pub with_items-none : (read : Read) → with_items [] read ≡ read
with_items-none (Ok read) = refl
with_items-none (Err fault) = refl

pub with_items-more : (before : List Item) (item : Item) (read : Read) → with_items before (with_items (item ∷ []) read) ≡ with_items (before ++ item ∷ []) read
with_items-more before item (Ok read) = ap (λ (all : List Item). let r : Read = Ok all in r) (sym (append_assoc before (item ∷ []) read))
with_items-more before item (Err fault) = refl

-- one more item was read
pub one_more : (source : List ℕ) (captures : List Mark) (before : List Item) (b : ℕ) (text : List ℕ) (item : Item) (rest : List ℕ) → ItemAt captures (length before) b text (Ok (item, rest))
    → ((read : Read) → Reads captures (length before) (b ∷ text) read → Reads [] 0 source (with_items before read))
    → (read : Read) → Reads (captures_after item captures) (length (before ++ item ∷ [])) rest read → Reads [] 0 source (with_items (before ++ item ∷ []) read)
one_more source captures before b text item rest stands so_far read h =
    let next = subst (λ (count : ℕ). Reads (captures_after item captures) count rest read) (length-append before (item ∷ [])) h in
    subst (λ (all : Read). Reads [] 0 source all) (with_items-more before item read) (so_far (with_items (item ∷ []) read) (then_more item rest stands next))

-- the first fault was read
pub fault_read : (source : List ℕ) (captures : List Mark) (before : List Item) (count b : ℕ) (text rest : List ℕ) (fault : PatternFault) → rest ≡ b ∷ text → count ≡ length before
    → ((read : Read) → Reads captures (length before) rest read → Reads [] 0 source (with_items before read))
    → (fault ≡ faults.Memory) ⊎ ItemAt captures count b text (Err fault) → (fault ≡ faults.Memory) ⊎ Reads [] 0 source (Err fault)
fault_read source captures before count b text rest fault is counted so_far (inl none) = inl none
fault_read source captures before count b text rest fault is counted so_far (inr stands) =
    let here = subst (λ (n : ℕ). ItemAt captures n b text (Err fault)) counted stands in
    inr (so_far (Err fault) (subst (λ (t : List ℕ). Reads captures (length before) t (Err fault)) (sym is) (faults_here here)))

at_end_read : (source : List ℕ) (captures : List Mark) (before : List Item) (rest : List ℕ) → length rest ≡ 0
    → ((read : Read) → Reads captures (length before) rest read → Reads [] 0 source (with_items before read))
    → Reads [] 0 source (with_items before (at_end captures))
at_end_read source captures before [] none so_far = so_far (at_end captures) ends
at_end_read source captures before (b ∷ text) none so_far = absurd (omega arith)

-- a capture is open at the end
pub open_at_end : (source : List ℕ) (captures : List Mark) (before : List Item) (rest : List ℕ) → length rest ≡ 0
    → ((read : Read) → Reads captures (length before) rest read → Reads [] 0 source (with_items before read))
    → is_some (close 0 captures) ≡ true → Reads [] 0 source (Err faults.BadCapture)
open_at_end source captures before rest none so_far is =
    let end = ap (λ (b : Bool). with_items before (if b then Err faults.BadCapture else Ok [])) is in
    subst (λ (read : Read). Reads [] 0 source read) end (at_end_read source captures before rest none so_far)

-- none is open at the end
pub closed_at_end : (source : List ℕ) (captures : List Mark) (before : List Item) (rest : List ℕ) → length rest ≡ 0
    → ((read : Read) → Reads captures (length before) rest read → Reads [] 0 source (with_items before read))
    → is_some (close 0 captures) ≡ false → Reads [] 0 source (Ok before)
closed_at_end source captures before rest none so_far is =
    let end = ap (λ (b : Bool). with_items before (if b then Err faults.BadCapture else Ok [])) is in
    let all = subst (λ (read : Read). Reads [] 0 source read) end (at_end_read source captures before rest none so_far) in
    subst (λ (items : List Item). Reads [] 0 source (Ok items)) (append-nil before) all

pub count_by-append : {X : Type 0} (p : X → Bool) (xs ys : List X) → count_by p (xs ++ ys) ≡ count_by p xs + count_by p ys
count_by-append p xs ys = grind (arith, common_steps)
