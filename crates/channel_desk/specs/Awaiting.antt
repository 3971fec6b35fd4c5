-- What a wait for a change comes to.
use Rattle.std.specs.Prelude.{◌≡◌, ◌≢◌, ℕ, ◌+◌, ◌*◌, ◌<◌, ◌≤◌, false, List, map, take, length, Option, Some, None}
use Rattle.love_base.specs.declared.stamp.Stamp.{Stamp}
use Rattle.variant.specs.declared.ask.Ask.{Ask}
use Rattle.variant.specs.declared.action.Action.{Action}
use Rattle.variant.specs.declared.action.Deed.TheVariants.{Asked}
use Rattle.variant.specs.declared.action.Stop.{Stop}
use Rattle.channel_core.specs.declared.entry.Entry.{Entry}
use Rattle.channel_core.specs.Answers.{IsAnswer, answer, run_out}
use Rattle.channel_core.specs.History.{holder}
use Rattle.channel_core.specs.Lawful.{IsAdmitted}
use Rattle.turn_desk.specs.declared.view.View.{View}
use Rattle.turn_desk.specs.Notes.{IsShown}
use Rattle.channel_desk.specs.declared.shared.SharedEntry.{SharedEntry}
use Rattle.channel_desk.specs.declared.shared.SharedEntry.TheVariants.{Channel as OnChannel}
use Rattle.channel_desk.specs.declared.sections.Section.{Section}
use Rattle.channel_desk.specs.Shared.{summary_of, rests, channel_in}
use Rattle.channel_desk.specs.Deeds.{object_of}
use Rattle.channel_desk.specs.Holding.{sections_on}
use Rattle.channel_desk.specs.Turns.{IsAt, Waited}
use Rattle.channel_desk.specs.Acting.{Acted, IsEnded, IsStopped}
use Rattle.channel_desk.specs.Looking.{Looked, look_at}

-- a Channel that a state is so deep inside is in its section, and one that it isn't inside is in nobody's
pub record IsStanding (state depth : ℕ) (h : List Entry) : Type 0 where
  pub outside : depth ≡ 0 → holder h ≡ None
  pub inside : 0 < depth → holder h ≡ Some state

-- what a state saw of the Channel o after some waiting: in its own section; or by a look, and then of each
-- history that has what the look showed
pub data Seen (P : ℕ → List Entry → Type 0) (v w : View SharedEntry) (held : List Section) (o place : ℕ) : Type 0 where
  inside : (k : ℕ) (s : Section) → IsAt held o k s → 0 < s.depth → Waited v w → place ≡ length (channel_in s.held.value)
      → P s.depth (channel_in s.held.value) → Seen P v w held o place
  at_look : (u : View SharedEntry) (summary : ℕ) → sections_on o held ≡ 0 → Waited v u → Looked u w o place summary
      → ((h : List Entry) → IsShown summary_of rests (map OnChannel h) (look_at u o place summary) → P 0 (take place h)) → Seen P v w held o place

-- two readings, in milliseconds, of a clock that can show them, between which a limit, in seconds, ran out
pub record HaveRunOut (shows : ℕ → Type 0) (limit : Option ℕ) (readings : ℕ × ℕ) : Type 0 where
  pub seconds : ℕ
  pub limited : limit ≡ Some seconds
  pub shown : shows readings.0 × shows readings.1
  pub passed : readings.0 + 1000 * seconds ≤ readings.1

-- the action of a wait that found its answer without a turn, or whose limit ran out at a place where it has none
pub record Awaited (shows : ℕ → Type 0) (by : Stamp) (v w : View SharedEntry) (held : List Section) (ask : Ask) (a : Action) : Type 0 where
  pub number : a.number ≡ by.number
  pub object : a.object ≡ object_of ask
  pub changed : a.changed ≡ false
  pub deed : a.deed ≡ Asked ask
  pub seen : Seen (λ depth h. IsAnswer shows (Asked ask) by.state depth h (record { reply = a.reply; change = None }) a.readings) v w held a.object a.place

-- the action of a demand: a message that was taken, or the refusal inside the state's own section; or its
-- limit ran out
pub data Demanded (shows : ℕ → Type 0) (by : Stamp) (v w : View SharedEntry) (held held' : List Section) (ask : Ask) (a : Action) : Type 0 where
  answered : Acted by v w held held' ask a → Demanded shows by v w held held' ask a
  ran_out : held' ≡ held → Awaited shows by v w held ask a → Demanded shows by v w held held' ask a

-- a state other than 0 was stopped at a wait for a change of a Channel: state 0 has ended, and after that
-- was known the Channel was seen at a place where the wait has no answer
pub record IsStoppedAwaiting (state : ℕ) (v w : View SharedEntry) (held : List Section) (ask : Ask) (stop : Stop) : Type 0 where
  pub not_main : state ≢ 0
  pub asked : stop.ask ≡ ask
  pub object : stop.object ≡ object_of ask
  pub busy : stop.busy ≡ None
  pub ended : IsEnded w stop.board_place stop.main_end
  pub seen : Seen (λ depth h. IsAdmitted h state × (answer (Asked ask) state depth h ≡ None)) v w held stop.object stop.place

-- a demand was stopped: at the Channel's turn, or at the wait for a message
pub data IsStoppedDemanding (state : ℕ) (v w : View SharedEntry) (held : List Section) (ask : Ask) (stop : Stop) : Type 0 where
  at_turn : IsStopped state v w held ask stop → IsStoppedDemanding state v w held ask stop
  at_wait : IsStoppedAwaiting state v w held ask stop → IsStoppedDemanding state v w held ask stop

-- the action of a wait whose limit ran out between these readings
abbrev pub late_action : Stamp → ℕ → ℕ → Ask → ℕ × ℕ → Action
late_action by object place ask readings = record {
  number = by.number;
  object = object;
  place = place;
  changed = false;
  deed = Asked ask;
  reply = run_out (Asked ask);
  readings = Some readings;
}

-- the action of a wait that has no answer, and whose limit ran out
pub record IsLate (by : Stamp) (object place : ℕ) (ask : Ask) (late : Option (ℕ × ℕ)) (a : Action) : Type 0 where
  pub readings : ℕ × ℕ
  pub passed : late ≡ Some readings
  pub action : a ≡ late_action by object place ask readings

-- a wait that has no answer is given up after state 0's end
pub record IsGivenUp (o at : ℕ) (ask : Ask) (known : Option (ℕ × ℕ)) (stop : Stop) : Type 0 where
  pub ended : known ≡ Some (stop.board_place, stop.main_end)
  pub object : stop.object ≡ o
  pub place : stop.place ≡ at
  pub busy : stop.busy ≡ None
  pub asked : stop.ask ≡ ask
