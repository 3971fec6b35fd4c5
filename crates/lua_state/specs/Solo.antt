-- What the deeds of a state come to that runs alone: the objects that it meets are its own deeds' work.
use Rattle.std.specs.Prelude.{◌≡◌, ℕ, ◌+◌, ◌-◌, ◌==◌, Bool, true, false, if◌then◌else◌, is_some, List, [], ◌∷◌, ◌++◌, drop, fold, length, Option, Some, None}
use Rattle.std.specs.Option.{option_map}
use Rattle.love_base.specs.declared.stamp.Stamp.{Stamp}
use Rattle.variant.specs.declared.ask.Ask.{Ask}
use Rattle.variant.specs.declared.ask.Ask.TheVariants.{Enter, Leave, Name, NewChannel, EventPush, EventPoll}
use Rattle.variant.specs.declared.reply.Reply.{Reply}
use Rattle.variant.specs.declared.reply.Reply.TheVariants.{Done, Nothing, Event}
use Rattle.variant.specs.declared.event.Sent.{Sent}
use Rattle.variant.specs.declared.event.Event.TheVariants.{User}
use Rattle.variant.specs.declared.action.Action.{Action}
use Rattle.variant.specs.declared.action.Deed.{Deed}
use Rattle.variant.specs.declared.action.Deed.TheVariants.{Asked, Begin, CutLeave, Told, End, MainEnd}
use Rattle.channel_core.specs.declared.entry.Entry.{Entry}
use Rattle.channel_core.specs.declared.entry.Change.{Change}
use Rattle.channel_core.specs.Answers as channel
use Rattle.thread_board.specs.declared.entry.BoardEntry.{BoardEntry}
use Rattle.thread_board.specs.declared.entry.BoardChange.{BoardChange}
use Rattle.thread_board.specs.Answers as board
use Rattle.channel_desk.specs.declared.given.Given.{Given}
use Rattle.channel_desk.specs.Deeds.{object_of as channel_of, entries_by}
use Rattle.channel_desk.specs.OnBoard.{board_entries_by}

-- ---- objects

-- the number of the event queue among the objects
abbrev pub event_queue : ℕ
event_queue = 1025

-- the object of an ask: the event queue, a Channel by its number, or the board, which is 0
abbrev pub object_of_ask : Ask → ℕ
object_of_ask (EventPush name args) = event_queue
object_of_ask EventPoll = event_queue
object_of_ask ask = channel_of ask

abbrev pub object_of : Deed → ℕ
object_of (Asked ask) = object_of_ask ask
object_of Begin = 0
object_of (CutLeave number) = number
object_of (Told text) = event_queue
object_of (End kind) = 0
object_of MainEnd = 0

-- the action's stamp: the state that runs alone is state 0
abbrev pub stamp_of : Action → Stamp
stamp_of a = record { state = 0; number = a.number }

-- ---- a Channel

-- a Channel's history, and how many sections of the state are open on it
pub record Met : Type 0 where
  pub entries : List Entry
  pub depth : ℕ

abbrev pub unmet : Met
unmet = record { entries = []; depth = 0 }

abbrev pub change_in : Option channel.Answer → Option Change
change_in None = None
change_in (Some given) = given.change

-- how many sections are open after a deed with this reply
abbrev pub depth_after : ℕ → Deed → Reply → ℕ
depth_after depth (Asked (Enter number)) Done = depth + 1
depth_after depth (Asked (Leave number)) reply = depth - 1
depth_after depth (CutLeave number) reply = 0
depth_after depth deed reply = depth

-- a Channel after one more action there: the history grows by the entry of the deed's answer
abbrev pub met_more : Met → Action → Met
met_more m a = record {
  entries = m.entries ++ entries_by (stamp_of a) (change_in (channel.answer a.deed 0 m.depth m.entries));
  depth = depth_after m.depth a.deed a.reply;
}

abbrev pub met_after : ℕ → Met → Action → Met
met_after number m a = if a.object == number then met_more m a else m

-- the Channel of a number after all of these actions
abbrev pub channel_after : List Action → ℕ → Met
channel_after actions number = fold (met_after number) unmet actions

-- ---- the board, which has no workers

abbrev pub board_change_in : Option board.Answer → Option BoardChange
board_change_in None = None
board_change_in (Some given) = given.change

-- the board after one more action: its history grows by the entry of the deed's answer. A deed about
-- another object has no answer there
abbrev pub board_more : List BoardEntry → Action → List BoardEntry
board_more h a = h ++ board_entries_by (stamp_of a) (board_change_in (board.answer 0 0 a.deed 0 h))

abbrev pub board_after : List Action → List BoardEntry
board_after actions = fold board_more [] actions

-- asks that make a Channel, where they add an entry
abbrev pub makes_channel : Ask → Bool
makes_channel (Name text) = true
makes_channel NewChannel = true
makes_channel ask = false

-- ---- the events that were pushed and not polled yet, the oldest first

abbrev pub events_with : List Sent → ℕ → Deed → List Sent
events_with events number (Asked (EventPush name args)) = events ++ record { from = 0; number = number; event = User name args } ∷ []
events_with events number (Asked EventPoll) = drop 1 events
events_with events number deed = events

abbrev pub events_more : List Sent → Action → List Sent
events_more events a = events_with events a.number a.deed

abbrev pub events_after : List Action → List Sent
events_after actions = fold events_more [] actions

-- the oldest event, if there is one
abbrev pub polled : List Sent → Reply
polled [] = Nothing
polled (sent ∷ others) = Event sent

-- ---- what a deed comes to

abbrev pub on_channel : Option channel.Answer → Option Given
on_channel None = None
on_channel (Some given) = Some (record { reply = given.reply; changed = is_some given.change })

abbrev pub on_board : Option board.Answer → Option Given
on_board None = None
on_board (Some given) = Some (record { reply = given.reply; changed = is_some given.change })

-- the answer at a Channel, and at the board
abbrev pub answer_there : Met → Deed → Option Given
answer_there m deed = on_channel (channel.answer deed 0 m.depth m.entries)

abbrev pub answer_by_board : List BoardEntry → Deed → Option Given
answer_by_board h deed = on_board (board.answer 0 0 deed 0 h)

-- the reply to a deed about events
abbrev pub answer_by_events : List Sent → Deed → Option Given
answer_by_events events (Asked (EventPush name args)) = Some (record { reply = Done; changed = false })
answer_by_events events (Asked EventPoll) = Some (record { reply = polled events; changed = false })
answer_by_events events deed = None

-- what a deed about an object comes to behind these actions
abbrev pub comes_at : List Action → Deed → ℕ → Option Given
comes_at before deed object =
    if object == 0
    then answer_by_board (board_after before) deed
    else (if object == event_queue
    then answer_by_events (events_after before) deed
    else answer_there (channel_after before object) deed)

-- what a deed comes to behind these actions; there may be no answer, and then the state waits
abbrev pub comes_to : List Action → Deed → Option Given
comes_to before deed = comes_at before deed (object_of deed)

-- the length of an object's history; that of the event queue isn't counted
abbrev pub length_at : List Action → ℕ → ℕ
length_at before object =
    if object == 0
    then length (board_after before)
    else (if object == event_queue then 0 else length (channel_after before object).entries)

abbrev pub count_of : Bool → ℕ
count_of changed = if changed then 1 else 0

-- the action of a deed that comes to this
abbrev pub action_of : List Action → Deed → Given → Action
action_of before deed given = record {
  number = length before + 1;
  object = object_of deed;
  place = length_at before (object_of deed) + count_of given.changed;
  changed = given.changed;
  deed = deed;
  reply = given.reply;
  readings = None;
}

-- the action that a deed is behind these, if it has an answer
abbrev pub done : List Action → Deed → Option Action
done before deed = option_map (action_of before deed) (comes_to before deed)

-- an action is just the one that its deed is behind these
abbrev pub IsDone : List Action → Action → Type 0
IsDone before a = done before a.deed ≡ Some a

-- ---- sections

-- the Channels that the state holds, in the order in which it entered them
abbrev pub left_from : ℕ → List ℕ → List ℕ
left_from number [] = []
left_from number (held ∷ others) = if held == number then left_from number others else held ∷ left_from number others

abbrev pub held_with : List ℕ → Deed → List ℕ
held_with held (Asked (Enter number)) = held ++ number ∷ []
held_with held (Asked (Leave number)) = left_from number held
held_with held (CutLeave number) = left_from number held
held_with held deed = held

abbrev pub held_more : List ℕ → Action → List ℕ
held_more held a = if a.changed then held_with held a.deed else held

abbrev pub held_after : List Action → List ℕ
held_after actions = fold held_more [] actions
