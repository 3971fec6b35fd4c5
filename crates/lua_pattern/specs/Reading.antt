-- What text spells which pattern (Lua 5.1 manual §5.4.1), and the first fault of one that spells none. The bytes: 36 $,
-- 37 %, 40 (, 41 ), 42 *, 43 +, 45 -, 46 ., 63 ?, 91 [, 94 ^, 98 b, 102 f.
use Rattle.std.specs.Prelude.{◌≡◌, ℕ, ◌+◌, ◌-◌, ◌<◌, ◌≤◌, Bool, true, false, List, [], ◌∷◌, ◌++◌, drop, length, slice_get, Option, Some, None, Result, Ok, Err, unwrap_or, is_some, not, ◌⊎◌, ◌==◌, ◌&&◌, ◌||◌, nat_le, if◌then◌else◌}
use Rattle.std.specs.Char.{is_ascii_digit}
use Rattle.lua_pattern.specs.Element.{escaped, SetRead, Members}
use Rattle.lua_pattern.specs.Tree.{Tree, most_captures, most_items}
use Rattle.lua_pattern.specs.Ways.{close}
use Rattle.lua_pattern.specs.declared.class.Member.TheVariants as members
use Rattle.lua_pattern.specs.declared.class.Class.{Class}
use Rattle.lua_pattern.specs.declared.class.Class.TheVariants as classes
use Rattle.lua_pattern.specs.declared.item.Item.{Item}
use Rattle.lua_pattern.specs.declared.item.Item.TheVariants as items
use Rattle.lua_pattern.specs.declared.item.Repeat.{Repeat}
use Rattle.lua_pattern.specs.declared.item.Repeat.TheVariants.{Once, Star, Plus, Minus, Question}
use Rattle.lua_pattern.specs.declared.mark.Mark.{Mark}
use Rattle.lua_pattern.specs.declared.mark.Mark.TheVariants as marks
use Rattle.lua_pattern.specs.declared.start.Start.{Start}
use Rattle.lua_pattern.specs.declared.start.Start.TheVariants as starts
use Rattle.lua_pattern.specs.declared.fault.PatternFault.{PatternFault}
use Rattle.lua_pattern.specs.declared.fault.PatternFault.TheVariants as faults

-- what begins with `%b` and this text
abbrev pub balance_start : List ℕ → Start
balance_start [] = starts.ShortBalance
balance_start (x ∷ []) = starts.ShortBalance
balance_start (x ∷ y ∷ text) = starts.Balance x y

-- what begins with a percent sign and this text
unfoldable pub start_behind_percent : List ℕ → Start
start_behind_percent [] = starts.LonePercent
start_behind_percent (b ∷ text) =
    if is_ascii_digit b then starts.Back (b - 48)
    else (if b == 98 then balance_start text
    else (if b == 102 then starts.Frontier
    else starts.One (escaped b) 1))

-- whether a text begins with this byte
abbrev pub first_is : ℕ → List ℕ → Bool
first_is b [] = false
first_is b (c ∷ text) = c == b

abbrev pub is_end : List ℕ → Bool
is_end [] = true
is_end (b ∷ text) = false

-- what begins with a byte that this text follows
unfoldable pub start_of : ℕ → List ℕ → Start
start_of b text =
    if b == 37 then start_behind_percent text
    else (if b == 40 then (if first_is 41 text then starts.Position else starts.Open)
    else (if b == 41 then starts.Close
    else (if b == 36 && is_end text then starts.End
    else (if b == 46 then starts.Any
    else (if b == 91 then starts.Set
    else starts.One (members.Byte b) 0)))))

-- the bytes of what begins, behind the first one, are among so many
abbrev pub StartFits : Start → ℕ → Type 0
StartFits starts.Position limit = 1 ≤ limit
StartFits (starts.Back k) limit = (k < 10) × (1 ≤ limit)
StartFits (starts.Balance x y) limit = 3 ≤ limit
StartFits (starts.One m n) limit = n ≤ limit
StartFits _ limit = Unit {0}

-- how often a class stands that this text follows
abbrev pub repeat_of : List ℕ → Repeat
repeat_of [] = Once
repeat_of (b ∷ text) =
    if b == 42 then Star
    else (if b == 43 then Plus
    else (if b == 45 then Minus
    else (if b == 63 then Question
    else Once)))

-- a class and what follows its bytes, or its fault
abbrev pub ClassRead : Type 0
ClassRead = Result (Class × List ℕ) PatternFault

-- an item and what follows its bytes, or its fault
abbrev pub ItemRead : Type 0
ItemRead = Result (Item × List ℕ) PatternFault

-- the items of a whole pattern, or its fault
abbrev pub Read : Type 0
Read = Result (List Item) PatternFault

-- how many bytes say how often
abbrev pub repeat_length : Repeat → ℕ
repeat_length Once = 0
repeat_length _ = 1

-- the item that a class is, with how often it stands
abbrev pub with_repeat : ClassRead → ItemRead
with_repeat (Ok (class, text)) = Ok (items.Single class (repeat_of text), drop (repeat_length (repeat_of text)) text)
with_repeat (Err fault) = Err fault

-- the class of a set's members, or of their complement
abbrev pub set_class : Bool → SetRead → ClassRead
set_class complement (Ok (ms, rest)) = Ok (if complement then classes.NotSet ms else classes.Set ms, rest)
set_class complement (Err fault) = Err fault

-- what a set's text stands for, or the text of its complement
abbrev pub IsSetOf : Bool → List ℕ → ClassRead → Type 0
IsSetOf complement text class = (set : SetRead) × Members true text set × (class ≡ set_class complement set)

-- what stands behind the bracket that opens a set: its text, or a caret and the text of its complement
abbrev pub IsSet : List ℕ → ClassRead → Type 0
IsSet text class = IsSetOf (first_is 94 text) (if first_is 94 text then drop 1 text else text) class

-- what stands where this begins, with this text behind its first byte: one item of each form, or a fault
abbrev pub Stands : Start → List ℕ → ItemRead → Type 0
Stands starts.Open text item = item ≡ Ok (items.Open, text)
Stands starts.Position text item = item ≡ Ok (items.Position, drop 1 text)
Stands starts.Close text item = item ≡ Ok (items.Close, text)
Stands (starts.Back k) text item = item ≡ Ok (items.Back k, drop 1 text)
Stands (starts.Balance x y) text item = item ≡ Ok (items.Balance x y, drop 3 text)
Stands starts.ShortBalance text item = item ≡ Err faults.BadBalance
Stands starts.Frontier text item = item ≡ Err faults.Frontier
Stands starts.LonePercent text item = item ≡ Err faults.EndsWithPercent
Stands starts.End text item = item ≡ Ok (items.End, text)
Stands starts.Any text item = item ≡ with_repeat (Ok (classes.Any, text))
Stands starts.Set text item = (class : ClassRead) × IsSet text class × (item ≡ with_repeat class)
Stands (starts.One m n) text item = item ≡ with_repeat (Ok (classes.One m, drop n text))

-- whether a capture is closed
abbrev pub is_part : Option Mark → Bool
is_part (Some (marks.Part start end)) = true
is_part (Some (marks.Open start)) = false
is_part (Some (marks.Place place)) = false
is_part None = false

-- one item too many, where so many stand before
abbrev pub too_many : ℕ → Option PatternFault
too_many count = if nat_le most_items count then Some faults.TooManyItems else None

-- What is refused because of the captures and the items that stand before. An item that isn't whole has a fault of its
-- own, which comes first.
abbrev pub refused : List Mark → ℕ → Start → Option PatternFault
refused captures count starts.LonePercent = None
refused captures count starts.ShortBalance = None
refused captures count starts.Close = if not (is_some (close 0 captures)) then Some faults.BadCapture else too_many count
refused captures count (starts.Back k) =
    if k == 0 || not (is_part (slice_get captures (k - 1))) then Some faults.BadCapture else too_many count
refused captures count starts.Open =
    if nat_le most_captures (length captures) then Some faults.TooManyCaptures else too_many count
refused captures count starts.Position =
    if nat_le most_captures (length captures) then Some faults.TooManyCaptures else too_many count
refused captures count _ = too_many count

-- what is refused, or else what stands there
abbrev pub Judged : Option PatternFault → Start → List ℕ → ItemRead → Type 0
Judged (Some fault) start text item = item ≡ Err fault
Judged None start text item = Stands start text item

-- what a byte and this text behind it begin with, behind so many items with these captures
abbrev pub ItemAt : List Mark → ℕ → ℕ → List ℕ → ItemRead → Type 0
ItemAt captures count b text item = Judged (refused captures count (start_of b text)) (start_of b text) text item

-- The captures of a pattern up to a place of it, as those of a match in which each stands at place 0: which of them are
-- open, closed or places.
abbrev pub captures_after : Item → List Mark → List Mark
captures_after items.Open captures = captures ++ marks.Open 0 ∷ []
captures_after items.Position captures = captures ++ marks.Place 0 ∷ []
captures_after items.Close captures = unwrap_or (close 0 captures) captures
captures_after _ captures = captures

-- at the end of a pattern: no capture may be open
abbrev pub at_end : List Mark → Read
at_end captures = if is_some (close 0 captures) then Err faults.BadCapture else Ok []

-- these items, and then what was read
abbrev pub with_items : List Item → Read → Read
with_items before (Ok others) = Ok (before ++ others)
with_items before (Err fault) = Err fault

-- The text of a pattern, behind so many items with these captures, is read so: it ends here; or its first fault stands
-- here; or an item stands here, and the text behind it is read so.
pub data Reads : List Mark → ℕ → List ℕ → Read → Type 0 where
  ends : {captures : List Mark} {count : ℕ} → Reads captures count [] (at_end captures)
  faults_here : {captures : List Mark} {count b : ℕ} {text : List ℕ} {fault : PatternFault}
      → ItemAt captures count b text (Err fault) → Reads captures count (b ∷ text) (Err fault)
  then_more : {captures : List Mark} {count b : ℕ} {text : List ℕ} {read : Read} (item : Item) (rest : List ℕ)
      → ItemAt captures count b text (Ok (item, rest)) → Reads (captures_after item captures) (count + 1) rest read
      → Reads captures count (b ∷ text) (with_items (item ∷ []) read)

-- a pattern of these items
abbrev pub tree : Bool → Read → Result Tree PatternFault
tree anchored (Ok items) = Ok (record { anchored = anchored; items = items })
tree anchored (Err fault) = Err fault

-- whether a caret stands first and is the anchor
abbrev pub is_anchored : List ℕ → Bool → Bool
is_anchored source anchors = anchors && first_is 94 source

-- The answer for the text of a pattern, where a caret at its beginning is the anchor, or not: the pattern that it
-- spells, or its first fault.
abbrev pub IsPatternAnswer : List ℕ → Bool → Result Tree PatternFault → Type 0
IsPatternAnswer source anchors answer =
    let anchored = is_anchored source anchors in
    (read : Read) × Reads [] 0 (if anchored then drop 1 source else source) read × (answer ≡ tree anchored read)

-- what was returned is this answer, unless memory ran out
abbrev pub Gives : Result Tree PatternFault → Result Tree PatternFault → Type 0
Gives (Ok pattern) answer = answer ≡ Ok pattern
Gives (Err fault) answer = (fault ≡ faults.Memory) ⊎ (answer ≡ Err fault)
