-- What a board keeps beside its history.
use Rattle.std.specs.Prelude.{◌≡◌, ◌≢◌, ◌<◌, ℕ, suc, ◌+◌, ◌*◌, ◌≤◌, List, [], ◌∷◌, length, map, Option, Some, None, All, if◌then◌else◌, nat_lt, ⊤}
use Rattle.std.specs.Global.{Vec}
use Rattle.variant.specs.declared.message.Variant.{Variant}
use Rattle.thread_board.specs.declared.entry.BoardEntry.{BoardEntry}
use Rattle.thread_board.specs.declared.job.Job.{Job}
use Rattle.thread_board.specs.Register.{Register, register, running, state_of, jobs_of, numbered}
use Rattle.thread_board.specs.Lawful.{IsLawful}
use Rattle.thread_board.specs.Answers.{channel_limit, thread_limit, start_limit}

-- the names as they are kept, each as a vector of bytes
abbrev pub kept_names : List (Vec ℕ × ℕ) → List (List ℕ × ℕ)
kept_names names = map (λ (name : Vec ℕ × ℕ). (name.0.items, name.1)) names

-- 1 where state 0 has ended
abbrev pub ended_count : Option ℕ → ℕ
ended_count None = 0
ended_count (Some place) = 1

-- the entries that must not be refused: state 0's end, where there are workers and it hasn't ended
abbrev pub main_owed : ℕ → Option ℕ → ℕ
main_owed workers None = if nat_lt 0 workers then 1 else 0
main_owed workers (Some place) = 0

-- and a beginning for each job that waits, and an end for each state that runs
abbrev pub owed : ℕ → Register → ℕ
owed workers r = length r.waiting + running r + main_owed workers r.main_end

-- jobs whose states are numbered from here on
abbrev pub NumberedFrom : ℕ → List Job → Type 0
NumberedFrom n [] = ⊤
NumberedFrom n (job ∷ others) = (job.state ≡ n) × NumberedFrom (suc n) others

-- a lawful history, what stands on the board after it, and room for what is owed
pub record IsSound (workers : ℕ) (h : List BoardEntry) (r : Register) (count room : ℕ) : Type 0 where
  pub same : r ≡ register h
  pub lawful : IsLawful workers h
  pub entries : r.entries ≡ length h
  pub channels : r.channels ≤ channel_limit
  pub threads : length r.threads ≤ thread_limit
  pub states : length r.states ≤ start_limit
  pub counted : count ≡ running r
  pub begun : r.begun + length r.waiting ≡ length r.states
  pub order : NumberedFrom (suc r.begun) r.waiting
  pub owners : All (λ state. (1 ≤ state.thread) × (state.thread ≤ length r.threads)) r.states
  pub active : All (λ e. e.by.state ≤ r.begun) h
  pub total : length h + running r ≡ r.channels + length r.threads + 2 * length r.states + r.begun + ended_count r.main_end
  pub spare : length h + owed workers r ≤ room

-- a Thread may be started as this job: before state 0's end, where no state of it runs, and within both
-- limits
pub record MayStart (workers : ℕ) (r : Register) (thread : ℕ) (args : List Variant) (job : Job) : Type 0 where
  pub goes_on : r.main_end ≡ None
  pub idle : state_of r thread ≡ None
  pub states_left : length r.states < start_limit
  pub workers_left : running r ≢ workers
  pub made : jobs_of (numbered r.threads thread) (length r.states + 1) thread args ≡ job ∷ []
