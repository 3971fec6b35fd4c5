-- What a state does that is cut short inside its sections.
use Rattle.std.specs.Prelude.{◌≡◌, ℕ, ◌+◌, true, List, [], ◌∷◌, ◌++◌, map, length, None}
use Rattle.love_base.specs.declared.stamp.Stamp.{Stamp}
use Rattle.variant.specs.declared.action.Action.{Action}
use Rattle.variant.specs.declared.action.Deed.TheVariants.{CutLeave}
use Rattle.variant.specs.declared.reply.Reply.TheVariants.{Done}
use Rattle.channel_core.specs.declared.entry.Entry.{Entry}
use Rattle.turn_desk.specs.declared.view.View.{View}
use Rattle.channel_desk.specs.declared.shared.SharedEntry.{SharedEntry}
use Rattle.channel_desk.specs.declared.shared.SharedEntry.TheVariants.{Channel as OnChannel}
use Rattle.channel_desk.specs.declared.sections.Section.{Section}
use Rattle.channel_desk.specs.Deeds.{Comes}
use Rattle.channel_desk.specs.Turns.{Left}

-- the last section was left, by an action of its own
pub record Cut (by : Stamp) (v w : View SharedEntry) (held held' : List Section) (a : Action) : Type 0 where
  pub number : a.number ≡ by.number
  pub deed : a.deed ≡ CutLeave a.object
  pub reply : a.reply ≡ Done
  pub changed : a.changed ≡ true
  pub readings : a.readings ≡ None
  pub depth : ℕ
  pub before : List Entry
  pub after : List Entry
  pub comes : Comes (CutLeave a.object) by depth before after (record { reply = a.reply; changed = a.changed })
  pub place : a.place ≡ length after
  pub left : Left v w held held' a.object depth (map OnChannel before) (map OnChannel after)

-- sections were left from the last one on, and the actions were put behind these
pub data LeftAll (state next : ℕ) (v : View SharedEntry) (held : List Section) (log : List Action) : ℕ → View SharedEntry → List Section → List Action → Type 0 where
  none : LeftAll state next v held log next v held log
  one : (n : ℕ) (m w : View SharedEntry) (more fewer : List Section) (l : List Action) (a : Action)
      → LeftAll state next v held log n m more l
      → Cut (record { state = state; number = n }) m w more fewer a
      → LeftAll state next v held log (n + 1) w fewer (l ++ a ∷ [])

-- one section was left, and its action put behind the others
pub record CutOne (state next : ℕ) (v w : View SharedEntry) (held held' : List Section) (log log' : List Action) : Type 0 where
  pub action : Action
  pub cut : Cut (record { state = state; number = next }) v w held held' action
  pub put : log' ≡ log ++ action ∷ []
