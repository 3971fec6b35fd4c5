-- What a machine has done grows only: asks, output and prints are beginnings of those of the whole run.
use Rattle.std.specs.Prelude.{ℕ, ◌≡◌, List, [], ◌∷◌, ◌++◌, length, ◌⊎◌, Contains, Some, ⊤}
use Rattle.love_base.specs.Prefix.{IsPrefix}
use Rattle.lua_tree.specs.Tree.{Block}
use Rattle.lua_meaning.specs.Value.{Value}
use Rattle.lua_meaning.specs.Message.{Ask, Reply}
use Rattle.lua_meaning.specs.World.{Outcome}
use Rattle.lua_meaning.specs.Control.{ready}
use Rattle.lua_meaning.specs.Run.{Start, Run, run_code}
use Rattle.lua_code.specs.State.{Registers, State, Frame, Config, End, ended, failed, no_ticks, needed, stuck, Pending, Step, on, stop, asks}
use Rattle.lua_code.specs.Frames.{finish}
use Rattle.lua_code.specs.Natives.{Program, asked, resume}
use Rattle.lua_code.specs.Act.{act, exec}
use Rattle.lua_code.specs.Follows.{first_config}
use Rattle.lua_code.specs.Talks.{fed, Reached}

-- what was done so far: the asks that were answered, the output, and its length after each print
pub record Past : Type 0 where
  pub asks : List Ask
  pub output : List ℕ
  pub ends : List ℕ

abbrev pub past_of : State → Past
past_of st = record { asks = st.asks; output = st.output; ends = st.ends }

-- the last of some numbers
abbrev pub last_or : ℕ → List ℕ → ℕ
last_or none [] = none
last_or none (n ∷ ns) = last_or n ns

-- the output ends where the last print did; nothing is there before the first
abbrev pub IsWhole : Past → Type 0
IsWhole p = length p.output ≡ last_or 0 p.ends

-- what was done is a beginning of what was done later, and whole prints stay whole prints
pub record Grows (before after : Past) : Type 0 where
  pub asks : IsPrefix before.asks after.asks
  pub output : IsPrefix before.output after.output
  pub ends : IsPrefix before.ends after.ends
  pub whole : IsWhole before → IsWhole after

-- ---- steps

-- the state where a step leads has a property; a machine that is stuck has none
abbrev pub EndHas : (State → Type 0) → End → Type 0
EndHas P (ended vs st) = P st
EndHas P (failed v st) = P st
EndHas P (no_ticks st) = P st
EndHas P (needed question st) = P st
EndHas P stuck = ⊤

abbrev pub StepHas : (State → Type 0) → Step → Type 0
StepHas P (on c) = P c.state
StepHas P (stop end) = EndHas P end
StepHas P (asks question p) = P p.state

-- a step leads on from what was done
abbrev pub GrowsTo : Past → Step → Type 0
GrowsTo before x = StepHas (λ st. Grows before (past_of st)) x

-- ---- runs

-- what was done is a beginning of what a run has done, and where it ends with a whole print, that is one of the run's
pub record IsBeginning (p : Past) (r : Run) : Type 0 where
  pub asks : IsPrefix p.asks r.asks
  pub output : IsPrefix p.output r.output
  pub ends : IsPrefix p.ends r.ends
  pub whole : IsWhole p → (p.output ≡ []) ⊎ Contains r.ends (length p.output)

-- Steps, replies, and results and errors that go to frames only add to what was done; each run comes to an end, from
-- wherever it starts; and where the run of a start is at a step, whatever replies are still to come, what was done before
-- that step is a beginning of what that run does.
pub record AllGrow : Type 0 where
  pub steps : (program : Program) (c : Config) → GrowsTo (past_of c.state) (act program c)
  pub resumes :
      (program : Program) (question : Ask) (reply : Reply) (p : Pending) →
      GrowsTo (past_of (asked question p.state)) (resume program question reply p)
  pub finishes :
      (o : Outcome (List Value)) (frames : List Frame) (r : Registers) (st : State) →
      GrowsTo (past_of st) (finish o frames r st)
  pub end_comes :
      (program : Program) (c : Config) (replies : List Reply) →
      (n : ℕ) × (end : End) × (exec program n c replies ≡ Some end)
  pub begins : (start : Start) (b : Block) → IsWhole (past_of (first_config start b).state)
  pub reached :
      (start : Start) (b : Block) (replies : List Reply) (x : Step) → Reached start b replies x →
      (before : Past) → GrowsTo before x → (more : List Reply) →
      IsBeginning before (run_code (fed start (replies ++ more)) (ready b))
