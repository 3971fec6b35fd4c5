-- What an action of a state says.
use Rattle.std.specs.Prelude.{◌≡◌, ◌≢◌, ◌⊎◌, ℕ, ◌+◌, ◌<◌, ◌≤◌, List, [], map, length, Some, None, ⊤}
use mathlib.Core.Option.{some}
use lib.ListN.{get_elem?}
use Rattle.love_base.specs.declared.stamp.Stamp.{Stamp}
use Rattle.variant.specs.declared.ask.Ask.{Ask}
use Rattle.variant.specs.declared.ask.Ask.TheVariants.{Leave}
use Rattle.variant.specs.declared.action.Action.{Action}
use Rattle.variant.specs.declared.action.Deed.TheVariants.{Asked}
use Rattle.variant.specs.declared.action.Stop.{Stop}
use Rattle.channel_core.specs.declared.entry.Entry.{Entry}
use Rattle.thread_board.specs.Register.{register}
use Rattle.turn_desk.specs.declared.view.View.{View}
use Rattle.turn_desk.specs.Steps.{IsOther}
use Rattle.turn_desk.specs.View.{spot}
use Rattle.channel_desk.specs.declared.shared.SharedEntry.{SharedEntry}
use Rattle.channel_desk.specs.declared.shared.SharedEntry.TheVariants.{Channel as OnChannel}
use Rattle.channel_desk.specs.declared.given.Given.{Given}
use Rattle.channel_desk.specs.declared.sections.Section.{Section}
use Rattle.channel_desk.specs.Shared.{board_entries}
use Rattle.channel_desk.specs.Deeds.{Comes, object_of}
use Rattle.channel_desk.specs.Turns.{IsAt, Step, Waited}

-- the action of an ask, by what it came to
abbrev pub action_of : Stamp → ℕ → ℕ → Ask → Given → Action
action_of by object place ask given = record {
  number = by.number;
  object = object;
  place = place;
  changed = given.changed;
  deed = Asked ask;
  reply = given.reply;
  readings = None;
}

-- the action of an ask about a Channel: it is the answer at the history that the state met, and its entry,
-- where it has one, is the last of the history that it left
pub record Acted (by : Stamp) (v w : View SharedEntry) (held held' : List Section) (ask : Ask) (a : Action) : Type 0 where
  pub number : a.number ≡ by.number
  pub object : a.object ≡ object_of ask
  pub deed : a.deed ≡ Asked ask
  pub readings : a.readings ≡ None
  pub depth : ℕ
  pub before : List Entry
  pub after : List Entry
  pub comes : Comes (Asked ask) by depth before after (record { reply = a.reply; changed = a.changed })
  pub place : a.place ≡ length after
  pub step : Step ask v w held held' a.object depth (map OnChannel before) (map OnChannel after)

-- a section may be left that isn't the outermost one on its Channel, or that was entered last
abbrev pub MayLeave : Ask → List Section → Type 0
MayLeave (Leave channel) held = (k : ℕ) × (s : Section) × IsAt held channel k s × ((1 < s.depth) ⊎ (k + 1 ≡ length held))
MayLeave ask held = ⊤

-- what is known of state 0's end once the board was taken after it
pub record IsEnded (w : View SharedEntry) (board_place main_end : ℕ) : Type 0 where
  pub ended : (register (board_entries (spot w 0).known)).main_end ≡ Some main_end
  pub place : board_place ≡ length (spot w 0).known

-- a take of the object o was refused in these calls, and found this pass
pub record WasRefused (v w : View SharedEntry) (o found : ℕ) : Type 0 where
  pub at : ℕ
  pub since : length v.refused ≤ at
  pub note : get_elem? w.refused at ≡ some (record { seat = w.number; object = o; found = found })
  pub other : IsOther w found

-- a take isn't waited for any longer: state 0 has ended, and another pass has the object while this state is
-- inside a section on some other one
pub record Halted (state : ℕ) (v w : View SharedEntry) (held : List Section) (o board_place main_end seat : ℕ) : Type 0 where
  pub not_main : state ≢ 0
  pub inside : held ≢ []
  pub waited : Waited v w
  pub ended : IsEnded w board_place main_end
  pub refused : WasRefused v w o seat

-- a state other than 0 was stopped at a Channel that another pass had, after state 0's end, while it was
-- inside a section on some other Channel
pub record IsStopped (state : ℕ) (v w : View SharedEntry) (held : List Section) (ask : Ask) (stop : Stop) : Type 0 where
  pub not_main : state ≢ 0
  pub inside : held ≢ []
  pub asked : stop.ask ≡ ask
  pub object : stop.object ≡ object_of ask
  pub place : stop.place ≡ 0
  pub ended : IsEnded w stop.board_place stop.main_end
  pub seat : ℕ
  pub busy : stop.busy ≡ Some seat
  pub refused : WasRefused v w stop.object seat
