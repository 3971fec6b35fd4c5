-- What a look tells of a Channel, and what it can't tell.
use Rattle.std.specs.Prelude.{◌≡◌, ℕ, ◌<◌, ◌≤◌, false, List, map, take, length, None, ⊤}
use Rattle.love_base.specs.declared.stamp.Stamp.{Stamp}
use Rattle.variant.specs.declared.ask.Ask.{Ask}
use Rattle.variant.specs.declared.ask.Ask.TheVariants.{Pop, Peek, Count, HasRead, Clear}
use Rattle.variant.specs.declared.action.Action.{Action}
use Rattle.variant.specs.declared.action.Deed.TheVariants.{Asked}
use Rattle.channel_core.specs.declared.entry.Entry.{Entry}
use Rattle.channel_core.specs.Answers.{answer, only}
use Rattle.channel_core.specs.History.{sent, received}
use Rattle.turn_desk.specs.declared.view.Look.{Look}
use Rattle.turn_desk.specs.declared.view.View.{View}
use Rattle.turn_desk.specs.Notes.{IsShown}
use Rattle.turn_desk.specs.Steps.{IsTally}
use Rattle.turn_desk.specs.View.{spot, looked}
use Rattle.channel_desk.specs.declared.shared.SharedEntry.{SharedEntry}
use Rattle.channel_desk.specs.declared.shared.SharedEntry.TheVariants.{Channel as OnChannel}
use Rattle.channel_desk.specs.declared.sections.Section.{Section}
use Rattle.channel_desk.specs.Shared.{summary_of, rests, channel_in}
use Rattle.channel_desk.specs.Deeds.{object_of}
use Rattle.channel_desk.specs.Holding.{sections_on}
use Rattle.channel_desk.specs.Turns.{IsAt}

-- a Channel with this history has these counts
abbrev pub AreCounts : List Entry → ℕ → ℕ → Type 0
AreCounts h s r = (sent h ≡ s) × (received h ≡ r)

-- the asks that a look may answer
abbrev pub IsLook : Ask → Type 0
IsLook (Count channel) = ⊤
IsLook (HasRead channel id) = ⊤
IsLook (Pop channel) = ⊤
IsLook (Peek channel) = ⊤
IsLook (Clear channel) = ⊤
IsLook ask = ⊥

-- the counts don't answer the ask: a message waits
abbrev pub IsOpen : Ask → ℕ → ℕ → Type 0
IsOpen (Pop channel) sent received = received < sent
IsOpen (Peek channel) sent received = received < sent
IsOpen (Clear channel) sent received = received < sent
IsOpen ask sent received = IsLook ask → ⊥

-- a look at the object o showed this
abbrev pub look_at : View SharedEntry → ℕ → ℕ → ℕ → Look
look_at v o place summary = record { seat = v.number; object = o; place = place; summary = summary }

-- the pass looked once at the object o
pub record Looked (v w : View SharedEntry) (o place summary : ℕ) : Type 0 where
  pub looked : w ≡ looked o place summary v
  pub tally : IsTally summary_of rests v o place summary
  pub ahead : (spot v o).front ≤ place

-- where an ask found its answer: in the state's own section; or by a look, and then at each history that
-- has what the look showed
pub data Found (by : Stamp) (ask : Ask) (v w : View SharedEntry) (held : List Section) (a : Action) : Type 0 where
  inside : (k : ℕ) (s : Section) → IsAt held a.object k s → w ≡ v → a.place ≡ length (channel_in s.held.value)
      → answer (Asked ask) by.state s.depth (channel_in s.held.value) ≡ only a.reply → Found by ask v w held a
  at_look : (summary : ℕ) → sections_on a.object held ≡ 0 → Looked v w a.object a.place summary
      → ((h : List Entry) → IsShown summary_of rests (map OnChannel h) (look_at v a.object a.place summary)
      → answer (Asked ask) by.state 0 (take a.place h) ≡ only a.reply) → Found by ask v w held a

-- the action of an ask that changes nothing, answered without a turn
pub record Glanced (by : Stamp) (v w : View SharedEntry) (held : List Section) (ask : Ask) (a : Action) : Type 0 where
  pub number : a.number ≡ by.number
  pub object : a.object ≡ object_of ask
  pub changed : a.changed ≡ false
  pub deed : a.deed ≡ Asked ask
  pub readings : a.readings ≡ None
  pub found : Found by ask v w held a

-- why a glance gives nothing: it isn't an ask for looks, or a message waits where it was read
pub data Unseen (by : Stamp) (ask : Ask) (v w : View SharedEntry) (held : List Section) : Type 0 where
  no_look : (IsLook ask → ⊥) → w ≡ v → Unseen by ask v w held
  waits_inside : (k : ℕ) (s : Section) → IsAt held (object_of ask) k s → w ≡ v
      → IsOpen ask (sent (channel_in s.held.value)) (received (channel_in s.held.value)) → Unseen by ask v w held
  waits_at_look : (place summary : ℕ) → sections_on (object_of ask) held ≡ 0 → Looked v w (object_of ask) place summary
      → ((h : List Entry) → IsShown summary_of rests (map OnChannel h) (look_at v (object_of ask) place summary)
      → IsOpen ask (sent (take place h)) (received (take place h))) → Unseen by ask v w held
