-- What the functions behind a state's asks give.
use Rattle.std.specs.Prelude.{◌≡◌, ℕ, Bool, true, false, List, [], ◌∷◌, ◌++◌, Option, Some, None, Result, Ok, Err, ⊤}
use Rattle.love_base.specs.declared.memory.Memory.{Memory}
use Rattle.love_base.specs.declared.stamp.Stamp.{Stamp}
use Rattle.variant.specs.declared.message.Variant.{Variant}
use Rattle.variant.specs.declared.ask.Ask.{Ask}
use Rattle.variant.specs.declared.ask.Ask.TheVariants.{Push, Supply, Pop, Peek, Count, HasRead, Clear, Demand, Await, Enter, Leave, EventPush, EventPoll, Name, NewChannel, NewThread, Start, IsRunning, ErrorOf, WaitFor}
use Rattle.variant.specs.declared.reply.Reply.{Reply}
use Rattle.variant.specs.declared.reply.Reply.TheVariants.{Value, Words, Event, Done}
use Rattle.variant.specs.declared.event.Sent.{Sent}
use Rattle.variant.specs.declared.action.Deed.TheVariants.{Asked}
use Rattle.channel_core.specs.declared.entry.Entry.{Entry}
use Rattle.channel_core.specs.Answers as channel
use Rattle.thread_board.specs.declared.entry.BoardEntry.{BoardEntry}
use Rattle.thread_board.specs.Answers as board
use Rattle.channel_desk.specs.declared.given.Given.{Given}
use Rattle.channel_desk.specs.Deeds.{Comes, object_of as channel_of}
use Rattle.channel_desk.specs.OnBoard.{ComesOnBoard}
use Rattle.lua_state.specs.declared.answer.Answer.{Answer}
use Rattle.lua_state.specs.Solo.{polled, events_with}

-- ---- which asks are about which object

abbrev pub IsChannelAsk : Ask → Type 0
IsChannelAsk (Push number message) = ⊤
IsChannelAsk (Supply number message) = ⊤
IsChannelAsk (Pop number) = ⊤
IsChannelAsk (Peek number) = ⊤
IsChannelAsk (Count number) = ⊤
IsChannelAsk (HasRead number id) = ⊤
IsChannelAsk (Clear number) = ⊤
IsChannelAsk (Demand number limit) = ⊤
IsChannelAsk (Await number id limit) = ⊤
IsChannelAsk (Enter number) = ⊤
IsChannelAsk (Leave number) = ⊤
IsChannelAsk ask = ⊥

-- the Channel that an ask is about; none where it is about no Channel
abbrev pub IsChannelOf : Ask → Option ℕ → Type 0
IsChannelOf ask None = IsChannelAsk ask → ⊥
IsChannelOf ask (Some number) = IsChannelAsk ask × (channel_of ask ≡ number)

-- whether the ask leaves something else than the outermost section on the Channel that was entered last
abbrev pub IsLastLeft : List ℕ → ℕ → ℕ → Ask → Bool → Type 0
IsLastLeft held number depth ask false = ⊤
IsLastLeft held number depth (Leave same) true = (depth ≡ 1) → (others : List ℕ) × (held ≡ others ++ number ∷ [])
IsLastLeft held number depth ask true = ⊤

abbrev pub IsBoardAsk : Ask → Type 0
IsBoardAsk (Name text) = ⊤
IsBoardAsk NewChannel = ⊤
IsBoardAsk (NewThread source) = ⊤
IsBoardAsk (Start thread args) = ⊤
IsBoardAsk (IsRunning thread) = ⊤
IsBoardAsk (ErrorOf thread) = ⊤
IsBoardAsk (WaitFor thread) = ⊤
IsBoardAsk ask = ⊥

abbrev pub IsEventAsk : Ask → Type 0
IsEventAsk (EventPush name args) = ⊤
IsEventAsk EventPoll = ⊤
IsEventAsk ask = ⊥

-- ---- replies that are given twice

-- a message that is replied is this one; no text and no event is replied
abbrev pub IsRepeatable : Option Variant → Reply → Type 0
IsRepeatable front (Value message) = front ≡ Some message
IsRepeatable front (Words text) = ⊥
IsRepeatable front (Event sent) = ⊥
IsRepeatable front reply = ⊤

abbrev pub given_of : Answer → Given
given_of a = record { reply = a.reply; changed = a.changed }

-- the message that the ask may be replied, of which this is the front
abbrev pub IsFrontFor : Ask → Option Variant → Option Variant → Type 0
IsFrontFor (Pop number) found front = found ≡ front
IsFrontFor (Peek number) found front = found ≡ front
IsFrontFor (Demand number limit) found front = found ≡ front
IsFrontFor ask found front = found ≡ None

-- ---- what a call at an object gives

-- what is given is the answer of a Channel, whose change was added; where there is none, nothing was; nor
-- where there was no memory
abbrev pub GivesAt : Ask → Stamp → ℕ → List Entry → List Entry → Result (Option Given) Memory → Type 0
GivesAt ask by depth before after (Ok (Some given)) = Comes (Asked ask) by depth before after given
GivesAt ask by depth before after (Ok None) = (channel.answer (Asked ask) by.state depth before ≡ None) × (after ≡ before)
GivesAt ask by depth before after (Err memory) = after ≡ before

-- the same with the reply twice
abbrev pub AnswersAt : Ask → Stamp → ℕ → List Entry → List Entry → Result (Option Answer) Memory → Type 0
AnswersAt ask by depth before after (Ok (Some a)) = Comes (Asked ask) by depth before after (given_of a) × (a.copy ≡ a.reply)
AnswersAt ask by depth before after (Ok None) = (channel.answer (Asked ask) by.state depth before ≡ None) × (after ≡ before)
AnswersAt ask by depth before after (Err memory) = after ≡ before

-- the same of a board with so many workers
abbrev pub AnswersOnBoard : ℕ → Ask → Stamp → List BoardEntry → List BoardEntry → Result (Option Answer) Memory → Type 0
AnswersOnBoard workers ask by before after (Ok (Some a)) = ComesOnBoard workers (Asked ask) by before after (given_of a) × (a.copy ≡ a.reply)
AnswersOnBoard workers ask by before after (Ok None) = (board.answer workers 0 (Asked ask) by.state before ≡ None) × (after ≡ before)
AnswersOnBoard workers ask by before after (Err memory) = after ≡ before

-- what an ask about events is replied, where these wait
abbrev pub event_reply : List Sent → Ask → Reply
event_reply events (EventPush name args) = Done
event_reply events ask = polled events

-- what is given is that reply, and the events are those after it
pub record AnswersByEvents (ask : Ask) (number : ℕ) (before after : List Sent) (a : Answer) : Type 0 where
  pub reply : a.reply ≡ event_reply before ask
  pub copy : a.copy ≡ a.reply
  pub changed : a.changed ≡ false
  pub events : after ≡ events_with before number (Asked ask)
