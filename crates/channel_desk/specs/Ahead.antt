-- What a state's actions say of all histories that go on from what its pass has seen.
use Rattle.std.specs.Prelude.{◌≡◌, ◌⊎◌, ℕ, zero, suc, ◌+◌, ◌≤◌, All, is_some, List, ◌++◌, map, length, Option, Bool, slice_index}
use mathlib.Core.Option.{some}
use lib.ListN.{get_elem?}
use Rattle.love_base.specs.Prefix.{IsPrefix}
use Rattle.love_base.specs.declared.stamp.Stamp.{Stamp}
use Rattle.variant.specs.declared.action.Action.{Action}
use Rattle.channel_core.specs.declared.entry.Entry.{Entry}
use Rattle.channel_core.specs.declared.entry.Change.{Change}
use Rattle.channel_core.specs.Answers.{IsAnswer}
use Rattle.thread_board.specs.declared.entry.BoardEntry.{BoardEntry}
use Rattle.thread_board.specs.declared.entry.BoardChange.{BoardChange}
use Rattle.thread_board.specs.Answers.{IsAnswer as IsBoardAnswer}
use Rattle.turn_desk.specs.declared.view.Look.{Look}
use Rattle.turn_desk.specs.declared.view.View.{View}
use Rattle.turn_desk.specs.Notes.{IsShown, step_of}
use Rattle.turn_desk.specs.View.{spot}
use Rattle.channel_desk.specs.declared.shared.SharedEntry.{SharedEntry}
use Rattle.channel_desk.specs.declared.shared.SharedEntry.TheVariants.{Board as OnBoard, Channel as OnChannel}
use Rattle.channel_desk.specs.declared.sections.Section.{Section}
use Rattle.channel_desk.specs.Shared.{history_of, summary_of, rests}
use Rattle.channel_desk.specs.Deeds.{entries_by}
use Rattle.channel_desk.specs.OnBoard.{board_entries_by}
use Rattle.channel_desk.specs.Turns.{IsAt}

-- a history of the board, and one of each Channel
pub record Histories : Type 0 where
  pub board : List BoardEntry
  pub channels : ℕ → List Entry

-- the history of the object o
abbrev pub entries_at : Histories → ℕ → List SharedEntry
entries_at hs zero = map OnBoard hs.board
entries_at hs (suc o) = map OnChannel (hs.channels (suc o))

-- histories that go on from all that a pass knows and from the objects that it has, and that have what its
-- looks showed
pub record IsAhead (v : View SharedEntry) (held : List Section) (hs : Histories) : Type 0 where
  pub known : (o : ℕ) → o ≤ 1024 → IsPrefix (spot v o).known (entries_at hs o)
  pub sections : All (λ (s : Section). IsPrefix (history_of s.held.value) (entries_at hs s.held.object)) held
  pub looks : (k : ℕ) (l : Look) → get_elem? v.looks k ≡ some l → l.object ≤ 1024 → IsShown summary_of rests (entries_at hs l.object) l

-- the action of a state that is so deep inside a Channel is the answer at its place of the Channel's history;
-- where it changed that, its entry stands there
pub record IsAnswered (shows : ℕ → Type 0) (by : Stamp) (depth : ℕ) (a : Action) (h : List Entry) : Type 0 where
  pub before : List Entry
  pub change : Option Change
  pub after : List Entry
  pub history : h ≡ before ++ (entries_by by change ++ after)
  pub place : a.place ≡ length (before ++ entries_by by change)
  pub changed : a.changed ≡ is_some change
  pub answered : IsAnswer shows a.deed by.state depth before (record { reply = a.reply; change = change }) a.readings

-- the action of a state at a board with so many workers is the answer at its place of the board's history;
-- where it changed that, its entry stands there
pub record IsAnsweredOnBoard (workers : ℕ) (by : Stamp) (a : Action) (h : List BoardEntry) : Type 0 where
  pub before : List BoardEntry
  pub change : Option BoardChange
  pub after : List BoardEntry
  pub history : h ≡ before ++ (board_entries_by by change ++ after)
  pub place : a.place ≡ length (before ++ board_entries_by by change)
  pub changed : a.changed ≡ is_some change
  pub answered : IsBoardAnswer workers a.deed by.state before (record { reply = a.reply; change = change })

-- a Channel's history has this beginning, of so many entries, of which P holds
pub record Begins (P : ℕ → List Entry → Type 0) (n : ℕ) (h : List Entry) : Type 0 where
  pub depth : ℕ
  pub before : List Entry
  pub after : List Entry
  pub history : h ≡ before ++ after
  pub place : n ≡ length before
  pub holds : P depth before

-- the pass, or the object o that it has, reaches the place n
abbrev pub Reaches : View SharedEntry → List Section → ℕ → ℕ → Type 0
Reaches v held o n = (n ≤ (spot v o).front) ⊎ ((k : ℕ) × (s : Section) × IsAt held o k s × (n ≤ length (history_of s.held.value)))

-- an action stands nowhere before a place that was reached, and behind it where it changed its object
abbrev pub IsPastAll : View SharedEntry → List Section → Action → Type 0
IsPastAll v held a = (n : ℕ) → Reaches v held a.object n → n + step_of a.changed ≤ a.place

-- in these calls the pass noted a step of its own by which it met the object o at this place, or filled it; it
-- noted its fronts just before, which hold all that it had seen when the calls began
pub record IsNoted (v w : View SharedEntry) (o place : ℕ) (changed : Bool) : Type 0 where
  pub at : ℕ
  pub since : length v.actions ≤ at
  pub fronts : List ℕ
  pub seen : (b : ℕ) → (spot v b).front ≤ slice_index fronts b
  pub note : get_elem? w.actions at ≡ some (record { seat = w.number; object = o; place = place; changed = changed; fronts = fronts })
