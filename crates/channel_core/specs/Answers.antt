-- What a Channel answers, as a function of its history.
use Rattle.std.specs.Prelude.{◌≡◌, ℕ, suc, zero, ◌+◌, ◌-◌, ◌*◌, ◌≤◌, nat_eq, nat_lt, nat_le, Bool, true, false, not, if◌then◌else◌, ◌⊎◌, List, [], ◌∷◌, length, Option, Some, None}
use Rattle.variant.specs.declared.message.Variant.{Variant}
use Rattle.variant.specs.declared.ask.Ask.{Ask}
use Rattle.variant.specs.declared.ask.Ask.TheVariants.{Push, Supply, Pop, Peek, Count, HasRead, Clear as AskClear, Demand, Await, Enter as AskEnter, Leave as AskLeave}
use Rattle.variant.specs.declared.reply.Reply.{Reply}
use Rattle.variant.specs.declared.reply.Reply.TheVariants.{Done, Nothing, Flag, Id, Number, Value, Refused}
use Rattle.variant.specs.declared.reply.Refusal.TheVariants.{Full, WouldWaitInside}
use Rattle.variant.specs.declared.action.Deed.{Deed}
use Rattle.variant.specs.declared.action.Deed.TheVariants.{Asked, CutLeave}
use Rattle.channel_core.specs.declared.entry.Entry.{Entry}
use Rattle.channel_core.specs.declared.entry.Change.{Change}
use Rattle.channel_core.specs.declared.entry.Change.TheVariants.{Put, Take, Clear, Enter, Leave}
use Rattle.channel_core.specs.History.{sent, received, queue, is_read, holder}
use Rattle.channel_core.specs.Lawful.{entry_limit, IsAdmitted}

-- a reply, and the change that it adds to the history, if any
pub record Answer : Type 0 where
  pub reply : Reply
  pub change : Option Change

-- a reply that leaves the history as it is
abbrev pub only : Reply → Option Answer
only reply = Some (record { reply = reply; change = None })

-- a reply that adds a change
abbrev pub adds : Reply → Change → Option Answer
adds reply change = Some (record { reply = reply; change = Some change })

-- a reply that adds a change where the history takes one
abbrev pub with_room : List Entry → Reply → Change → Option Answer
with_room h reply change = if nat_lt (length h) entry_limit then adds reply change else only (Refused Full)

-- a push: the id counts the messages with this one
abbrev pub pushed : List Entry → Variant → Option Answer
pushed h message = with_room h (Id (sent h + 1)) (Put message)

-- a pop, by what waits
abbrev pub popped : List Entry → List Variant → Option Answer
popped h [] = only Nothing
popped h (message ∷ others) = with_room h (Value message) Take

-- a peek, by what waits
abbrev pub peeked : List Variant → Option Answer
peeked [] = only Nothing
peeked (message ∷ others) = only (Value message)

-- a clear, by what waits
abbrev pub cleared : List Entry → List Variant → Option Answer
cleared h [] = only Done
cleared h (message ∷ others) = with_room h Done Clear

-- a demand, by what waits, of the state in whose section the Channel is or of another
abbrev pub demanded : List Entry → Bool → List Variant → Option Answer
demanded h inside [] = if inside then only (Refused WouldWaitInside) else None
demanded h inside (message ∷ others) = with_room h (Value message) Take

-- a leave, by how many sections of its state on this Channel are open
abbrev pub left : ℕ → Option Answer
left zero = None
left (suc zero) = adds Done Leave
left (suc (suc outer)) = only Done

-- what an ask about a Channel is answered, by whether the Channel is in the asking state's section, how
-- many sections of that state on it are open, and its history; there may be no answer, and then the ask
-- waits
abbrev pub answer_to : Ask → Bool → ℕ → List Entry → Option Answer
answer_to (Push channel message) inside depth h = pushed h message
answer_to (Supply channel message) inside depth h = if inside then only (Refused WouldWaitInside) else pushed h message
answer_to (Pop channel) inside depth h = popped h (queue h)
answer_to (Peek channel) inside depth h = peeked (queue h)
answer_to (Count channel) inside depth h = only (Number (sent h - received h))
answer_to (HasRead channel id) inside depth h = only (Flag (is_read h id))
answer_to (AskClear channel) inside depth h = cleared h (queue h)
answer_to (Demand channel limit) inside depth h = demanded h inside (queue h)
answer_to (Await channel id limit) inside depth h = if nat_le id (received h) then only (Flag true) else None
answer_to (AskEnter channel) inside depth h = if inside then only Done else with_room h Done Enter
answer_to (AskLeave channel) inside depth h = left depth
answer_to ask inside depth h = None

-- the same for every deed
abbrev pub answer_within : Deed → Bool → ℕ → List Entry → Option Answer
answer_within (Asked ask) inside depth h = answer_to ask inside depth h
answer_within (CutLeave channel) inside depth h = if inside then adds Done Leave else None
answer_within deed inside depth h = None

-- whether this state holds the Channel
abbrev pub holds : Option ℕ → ℕ → Bool
holds None state = false
holds (Some held) state = nat_eq held state

-- whether another state holds it
abbrev pub keeps_out : Option ℕ → ℕ → Bool
keeps_out None state = false
keeps_out (Some held) state = not (nat_eq held state)

-- what a deed of a state is answered by a Channel with this history, where that state has so many
-- sections open on it: none where another state holds the Channel
abbrev pub answer : Deed → ℕ → ℕ → List Entry → Option Answer
answer deed state depth h = if keeps_out (holder h) state then None else answer_within deed (holds (holder h) state) depth h

-- the limit of a wait, in seconds
abbrev pub limit_of : Deed → Option ℕ
limit_of (Asked (Demand channel limit)) = limit
limit_of (Asked (Await channel id limit)) = limit
limit_of deed = None

-- what a wait is answered whose limit ran out
abbrev pub run_out : Deed → Reply
run_out (Asked (Demand channel limit)) = Nothing
run_out deed = Flag false

-- a wait that has no answer, though no other state holds the Channel, and whose limit ran out between two
-- readings, in milliseconds, that the clock can show
pub record RanOut (shows : ℕ → Type 0) (deed : Deed) (state depth : ℕ) (h : List Entry) (given : Answer) (readings : Option (ℕ × ℕ)) : Type 0 where
  pub limit : ℕ
  pub first : ℕ
  pub last : ℕ
  pub limited : limit_of deed ≡ Some limit
  pub admitted : IsAdmitted h state
  pub unanswered : answer deed state depth h ≡ None
  pub read : readings ≡ Some (first, last)
  pub shown : shows first × shows last
  pub passed : first + 1000 * limit ≤ last
  pub nothing : given ≡ record { reply = run_out deed; change = None }

-- the answer of a deed, under what the clock can show: that of the table, without readings, or that of a
-- wait whose limit ran out, with two of them
abbrev pub IsAnswer : (ℕ → Type 0) → Deed → ℕ → ℕ → List Entry → Answer → Option (ℕ × ℕ) → Type 0
IsAnswer shows deed state depth h given readings =
    ((answer deed state depth h ≡ Some given) × (readings ≡ None)) ⊎ RanOut shows deed state depth h given readings
