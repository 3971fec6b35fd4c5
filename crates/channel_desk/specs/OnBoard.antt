-- What the deeds of a state come to at the board.
use Rattle.std.specs.Prelude.{◌≡◌, ℕ, ◌-◌, is_some, List, [], ◌∷◌, ◌++◌, map, length, Option, Some, None, Result, Ok, Err, ⊤}
use Rattle.love_base.specs.declared.memory.Memory.{Memory}
use Rattle.love_base.specs.declared.stamp.Stamp.{Stamp}
use Rattle.variant.specs.declared.ask.Ask.{Ask}
use Rattle.variant.specs.declared.ask.Ask.TheVariants.{Push, Supply, Pop, Peek, Clear, Enter, Leave, Name, NewChannel, NewThread, Start, IsRunning, ErrorOf}
use Rattle.variant.specs.declared.action.Action.{Action}
use Rattle.variant.specs.declared.action.Deed.{Deed}
use Rattle.variant.specs.declared.action.Deed.TheVariants.{Asked}
use Rattle.thread_board.specs.declared.entry.BoardEntry.{BoardEntry}
use Rattle.thread_board.specs.declared.entry.BoardChange.{BoardChange}
use Rattle.thread_board.specs.Answers.{Answer, IsAnswer}
use Rattle.turn_desk.specs.declared.view.View.{View}
use Rattle.turn_desk.specs.Passes.{fixed_at}
use Rattle.channel_desk.specs.declared.given.Given.{Given}
use Rattle.channel_desk.specs.declared.sections.Section.{Section}
use Rattle.channel_desk.specs.declared.shared.SharedEntry.{SharedEntry}
use Rattle.channel_desk.specs.declared.shared.SharedEntry.TheVariants.{Board as OnBoard}
use Rattle.channel_desk.specs.Turns.{Turned}

-- the asks about the board that are answered at once
abbrev pub IsBoardDeed : Ask → Type 0
IsBoardDeed (Name text) = ⊤
IsBoardDeed NewChannel = ⊤
IsBoardDeed (NewThread source) = ⊤
IsBoardDeed (Start thread args) = ⊤
IsBoardDeed (IsRunning thread) = ⊤
IsBoardDeed (ErrorOf thread) = ⊤
IsBoardDeed ask = ⊥

-- the asks that are answered at once, about the board or about a Channel
abbrev pub IsActed : Ask → Type 0
IsActed (Push channel message) = ⊤
IsActed (Supply channel message) = ⊤
IsActed (Pop channel) = ⊤
IsActed (Peek channel) = ⊤
IsActed (Clear channel) = ⊤
IsActed (Enter channel) = ⊤
IsActed (Leave channel) = ⊤
IsActed ask = IsBoardDeed ask

-- the entries that a state's change adds
abbrev pub board_entries_by : Stamp → Option BoardChange → List BoardEntry
board_entries_by by None = []
board_entries_by by (Some change) = record { by = by; what = change } ∷ []

-- what is given is the answer of a board with so many workers, whose change, if there is one, is added
pub record ComesOnBoard (workers : ℕ) (deed : Deed) (by : Stamp) (before after : List BoardEntry) (given : Given) : Type 0 where
  pub change : Option BoardChange
  pub answered : IsAnswer workers deed by.state before (record { reply = given.reply; change = change })
  pub history : after ≡ before ++ board_entries_by by change
  pub changed : given.changed ≡ is_some change

-- the same of a call that may find no memory, and changes nothing then
abbrev pub OutcomeOnBoard : ℕ → Ask → Stamp → List BoardEntry → List BoardEntry → Result Given Memory → Type 0
OutcomeOnBoard workers ask by before after (Ok given) = ComesOnBoard workers (Asked ask) by before after given
OutcomeOnBoard workers ask by before after (Err memory) = after ≡ before

-- what is given is this answer, or there is no memory for it
abbrev pub StandsOnBoard : Option Answer → Result Given Memory → Type 0
StandsOnBoard None (Ok given) = ⊥
StandsOnBoard None (Err memory) = ⊤
StandsOnBoard (Some answer) (Ok given) = (given.reply ≡ answer.reply) × (given.changed ≡ is_some answer.change)
StandsOnBoard (Some answer) (Err memory) = ⊥

-- the change of an answer is added
abbrev pub AppendsOnBoard : Stamp → List BoardEntry → List BoardEntry → Option Answer → Type 0
AppendsOnBoard by before after None = after ≡ before
AppendsOnBoard by before after (Some answer) = after ≡ before ++ board_entries_by by answer.change

-- the action of a deed at the board: it is the answer at the history that the state met in a turn, and its
-- entry, where it has one, is the last of the history that it left
pub record ActedOnBoard (by : Stamp) (v w : View SharedEntry) (held held' : List Section) (done : Deed) (a : Action) : Type 0 where
  pub number : a.number ≡ by.number
  pub object : a.object ≡ 0
  pub deed : a.deed ≡ done
  pub readings : a.readings ≡ None
  pub before : List BoardEntry
  pub after : List BoardEntry
  pub comes : ComesOnBoard (fixed_at v 0 - 1) done by before after (record { reply = a.reply; changed = a.changed })
  pub place : a.place ≡ length after
  pub turned : Turned v w 0 (map OnBoard before) (map OnBoard after)
  pub sections : held' ≡ held
