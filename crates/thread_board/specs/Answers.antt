-- What the board answers, as a function of its history.
use Rattle.std.specs.Prelude.{◌≡◌, ℕ, ◌+◌, nat_eq, nat_lt, nat_le, true, false, ◌&&◌, if◌then◌else◌, is_some, is_none, List, [], ◌∷◌, length, Option, Some, None}
use Rattle.variant.specs.declared.ask.Ask.{Ask}
use Rattle.variant.specs.declared.ask.Ask.TheVariants.{Name as AskName, NewChannel as AskNewChannel, NewThread as AskNewThread, Start as AskStart, IsRunning, ErrorOf, WaitFor}
use Rattle.variant.specs.declared.reply.Reply.{Reply}
use Rattle.variant.specs.declared.reply.Reply.TheVariants.{Done, Nothing, Flag, Channel, Thread as ReplyThread, Words, Refused}
use Rattle.variant.specs.declared.reply.Refusal.TheVariants.{TooManyChannels, TooManyThreads, TooManyRunning, TooManyStarts, GameEnded}
use Rattle.variant.specs.declared.action.Deed.{Deed}
use Rattle.variant.specs.declared.action.Deed.TheVariants.{Asked, Begin as DeedBegin, End as DeedEnd, MainEnd as DeedMainEnd}
use Rattle.thread_board.specs.declared.entry.BoardEntry.{BoardEntry}
use Rattle.thread_board.specs.declared.entry.BoardChange.{BoardChange}
use Rattle.thread_board.specs.declared.entry.BoardChange.TheVariants.{Name, NewChannel, NewThread, Start, Begin, End, MainEnd}
use Rattle.thread_board.specs.declared.job.Job.{Job}
use Rattle.thread_board.specs.declared.place.Thread.{Thread}
use Rattle.thread_board.specs.Register.{Register, register, numbered, channel_of, running, state_of, error_of, is_working}

-- how many Channels, Threads and states there may be
abbrev pub channel_limit : ℕ
channel_limit = 1024

abbrev pub thread_limit : ℕ
thread_limit = 1000

abbrev pub start_limit : ℕ
start_limit = 1000

-- a reply, and the change that it adds to the history, if any
pub record Answer : Type 0 where
  pub reply : Reply
  pub change : Option BoardChange

-- a reply that leaves the history as it is
abbrev pub only : Reply → Option Answer
only reply = Some (record { reply = reply; change = None })

-- a reply that adds a change
abbrev pub adds : Reply → BoardChange → Option Answer
adds reply change = Some (record { reply = reply; change = Some change })

-- a Channel that is made by this change has the next number, where there may be one more
abbrev pub made_channel : Register → BoardChange → Option Answer
made_channel r change = if nat_lt r.channels channel_limit then adds (Channel (r.channels + 1)) change else only (Refused TooManyChannels)

-- the Channel of a name, by the one that has it already
abbrev pub named : Register → List ℕ → Option ℕ → Option Answer
named r name (Some channel) = only (Channel channel)
named r name None = made_channel r (Name (r.channels + 1) name)

-- a Thread that is made has the next number, where there may be one more
abbrev pub made_thread : Register → BoardChange → Option Answer
made_thread r change = if nat_lt (length r.threads) thread_limit then adds (ReplyThread (length r.threads + 1)) change else only (Refused TooManyThreads)

-- a start of a Thread that doesn't run: the state has the next number
abbrev pub started : ℕ → Register → BoardChange → Option Answer
started workers r change =
    if nat_lt (length r.states) start_limit
    then (if nat_eq (running r) workers then only (Refused (TooManyRunning workers)) else adds (Flag true) change)
    else only (Refused TooManyStarts)

-- a start before state 0's end, by the Thread, if it was made, and its state, if it runs
abbrev pub started_thread : ℕ → Register → BoardChange → Option Thread → Option Answer
started_thread workers r change None = only (Flag false)
started_thread workers r change (Some thread) = if is_some thread.runs then only (Flag false) else started workers r change

-- a start, by the place of state 0's end
abbrev pub start_answer : ℕ → Register → ℕ → BoardChange → Option ℕ → Option Answer
start_answer workers r thread change (Some place) = only (Refused (GameEnded place))
start_answer workers r thread change None = started_thread workers r change (numbered r.threads thread)

-- the text of a Thread's failure, if there is one
abbrev pub words : Option (List ℕ) → Option Answer
words None = only Nothing
words (Some text) = only (Words text)

-- what an ask about the board is answered, by the number of workers, what stands on the board and the
-- history; there may be no answer, and then the ask waits
abbrev pub answer_to : ℕ → Ask → Register → List BoardEntry → Option Answer
answer_to workers (AskName name) r h = named r name (channel_of r.names name)
answer_to workers AskNewChannel r h = made_channel r (NewChannel (r.channels + 1))
answer_to workers (AskNewThread source) r h = made_thread r (NewThread (length r.threads + 1) source)
answer_to workers (AskStart thread args) r h = start_answer workers r thread (Start (length r.states + 1) thread args) r.main_end
answer_to workers (IsRunning thread) r h = only (Flag (is_some (state_of r thread)))
answer_to workers (ErrorOf thread) r h = words (error_of h thread)
answer_to workers (WaitFor thread) r h = if is_some (state_of r thread) then None else only Done
answer_to workers ask r h = None

-- the beginning of a state by a worker, by the jobs that wait
abbrev pub begun : ℕ → ℕ → ℕ → List Job → Option Answer
begun workers worker state [] = None
begun workers worker state (job ∷ others) =
    if nat_eq job.state state && nat_le 1 worker && nat_le worker workers then adds Done (Begin worker) else None

-- what a deed of a state is answered by a board with so many workers and this history, where a worker of
-- this number does it
abbrev pub answer_by : ℕ → ℕ → Deed → ℕ → Register → List BoardEntry → Option Answer
answer_by workers worker (Asked ask) state r h = answer_to workers ask r h
answer_by workers worker DeedBegin state r h = begun workers worker state r.waiting
answer_by workers worker (DeedEnd end) state r h = if is_working r state then adds Done (End end) else None
answer_by workers worker DeedMainEnd state r h = if nat_eq state 0 && is_none r.main_end then adds Done MainEnd else None
answer_by workers worker deed state r h = None

abbrev pub answer : ℕ → ℕ → Deed → ℕ → List BoardEntry → Option Answer
answer workers worker deed state h = answer_by workers worker deed state (register h) h

-- the answer of a deed: that of the table, for some worker; only a beginning asks which
abbrev pub IsAnswer : ℕ → Deed → ℕ → List BoardEntry → Answer → Type 0
IsAnswer workers deed state h given = (worker : ℕ) × (answer workers worker deed state h ≡ Some given)
