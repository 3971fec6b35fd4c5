-- What stands on the board after a history.
use Rattle.std.specs.Prelude.{◌≡◌, ℕ, zero, suc, ◌+◌, ◌-◌, ◌≤◌, nat_eq, nat_le, Bool, true, false, not, ◌&&◌, if◌then◌else◌, List, [], ◌∷◌, ◌++◌, drop, fold, slice_get, slice_set, Option, Some, None, IsSome}
use Rattle.std.specs.Cmp.Lexicographic.{pointwise}
use Rattle.std.specs.Option.{option_and_then, option_map_or}
use Rattle.variant.specs.End.{end_text}
use Rattle.variant.specs.declared.message.Variant.{Variant}
use Rattle.thread_board.specs.declared.entry.BoardEntry.{BoardEntry}
use Rattle.thread_board.specs.declared.entry.BoardChange.{BoardChange}
use Rattle.thread_board.specs.declared.entry.BoardChange.TheVariants.{Name, NewChannel, NewThread, Start, Begin, End, MainEnd}
use Rattle.thread_board.specs.declared.job.Job.{Job}
use Rattle.thread_board.specs.declared.place.Thread.{Thread}
use Rattle.thread_board.specs.declared.place.Started.{Started}

-- how many entries there are; how many Channels were made; the names, each with its Channel; the Threads;
-- the states that were started; the jobs of those that haven't begun, the oldest first; how many have
-- begun; and the place of state 0's end
pub record Register : Type 0 where
  pub entries : ℕ
  pub channels : ℕ
  pub names : List (List ℕ × ℕ)
  pub threads : List Thread
  pub states : List Started
  pub waiting : List Job
  pub begun : ℕ
  pub main_end : Option ℕ

-- a board to which nothing was done
abbrev pub blank : Register
blank = record { entries = 0; channels = 0; names = []; threads = []; states = []; waiting = []; begun = 0; main_end = None }

-- the item of a number, counted from 1
abbrev pub numbered : {A : Type 0} → List A → ℕ → Option A
numbered xs zero = None
numbered xs (suc k) = slice_get xs k

-- the Threads, where one of them changes
abbrev pub change_thread : List Thread → ℕ → Option ℕ → Option ℕ → List Thread
change_thread threads number runs ended =
    option_map_or (λ thread. slice_set threads (number - 1) (record { source = thread.source; runs = runs; ended = ended })) (numbered threads number) threads

-- the job of a state of this Thread
abbrev pub jobs_of : Option Thread → ℕ → ℕ → List Variant → List Job
jobs_of None state thread args = []
jobs_of (Some made) state thread args = record { state = state; thread = thread; source = made.source; args = args } ∷ []

-- the board after the end of a state, by what that state is
abbrev pub ended_as : Register → ℕ → Option Started → Register
ended_as r by None = record r { entries = r.entries + 1 }
ended_as r by (Some state) = record r {
  entries = r.entries + 1;
  threads = change_thread r.threads state.thread None (Some r.entries);
  states = slice_set r.states (by - 1) (record { thread = state.thread; ended = true });
}

-- the board after a start, with these new jobs
abbrev pub started_as : Register → ℕ → ℕ → List Job → Register
started_as r state thread jobs = record r {
  entries = r.entries + 1;
  threads = change_thread r.threads thread (Some state) None;
  states = r.states ++ record { thread = thread; ended = false } ∷ [];
  waiting = r.waiting ++ jobs;
}

-- the board after one more change, by a state
abbrev pub after_change : Register → ℕ → BoardChange → Register
after_change r by (Name channel name) = record r { entries = r.entries + 1; channels = r.channels + 1; names = r.names ++ (name, channel) ∷ [] }
after_change r by (NewChannel channel) = record r { entries = r.entries + 1; channels = r.channels + 1 }
after_change r by (NewThread thread source) = record r { entries = r.entries + 1; threads = r.threads ++ record { source = source; runs = None; ended = None } ∷ [] }
after_change r by (Start state thread args) = started_as r state thread (jobs_of (numbered r.threads thread) state thread args)
after_change r by (Begin worker) = record r { entries = r.entries + 1; waiting = drop 1 r.waiting; begun = r.begun + 1 }
after_change r by (End end) = ended_as r by (numbered r.states by)
after_change r by MainEnd = record r { entries = r.entries + 1; main_end = Some (r.entries + 1) }

-- what stands on the board after a history, going through it from its first entry
abbrev pub register : List BoardEntry → Register
register h = fold (λ r e. after_change r e.by.state e.what) blank h

-- the Channel of a name
abbrev pub channel_of : List (List ℕ × ℕ) → List ℕ → Option ℕ
channel_of [] name = None
channel_of (known ∷ others) name = if pointwise nat_eq name known.0 then Some known.1 else channel_of others name

-- how many of these states haven't ended
abbrev pub not_ended : List Started → ℕ
not_ended [] = 0
not_ended (state ∷ others) = if state.ended then not_ended others else not_ended others + 1

-- how many states are started and not ended
abbrev pub running : Register → ℕ
running r = not_ended r.states

-- the state of a Thread that was started and hasn't ended
abbrev pub state_of : Register → ℕ → Option ℕ
state_of r thread = option_and_then (λ made. made.runs) (numbered r.threads thread)

-- a Thread that was made and of which no state runs, before state 0's end
abbrev pub IsIdle : Register → ℕ → Type 0
IsIdle r thread = (r.main_end ≡ None) × IsSome (numbered r.threads thread) × (state_of r thread ≡ None)

-- the text of a failure that a change tells
abbrev pub failure_of : BoardChange → Option (List ℕ)
failure_of (End end) = end_text end
failure_of change = None

-- the text of the last end of a Thread, where that has one and no start of the Thread follows
abbrev pub error_of : List BoardEntry → ℕ → Option (List ℕ)
error_of h thread =
    option_and_then (λ made. option_and_then (λ place. option_and_then (λ e. failure_of e.what) (slice_get h place)) made.ended) (numbered (register h).threads thread)

-- states begin in the order of their numbers; state 0 has no beginning of its own
abbrev pub HasBegun : Register → ℕ → Type 0
HasBegun r state = state ≤ r.begun

-- whether a state has begun and hasn't ended
abbrev pub is_working : Register → ℕ → Bool
is_working r state = nat_le state r.begun && option_map_or (λ started. not started.ended) (numbered r.states state) false
