-- Runs of an engine past its prints, and to where memory is wanted.
use Rattle.std.specs.Prelude.{◌≡◌, ℕ, List, [], Option, Some, None, Result, Ok, Err, ⊤}
use Rattle.love_base.specs.Prefix.{IsPrefix}
use Rattle.love_base.specs.declared.memory.Memory.{Memory}
use Rattle.variant.specs.declared.reply.Reply.{Reply}
use Rattle.lua_meaning.specs.MessageView.{ask_view, reply_view}
use Rattle.lua_code.specs.State.{Step, on, stop, stuck}
use Rattle.lua_code.specs.Natives.{Program, resume}
use Rattle.lua_code.specs.Growing.{Past, IsWhole, GrowsTo}
use Rattle.lua_machine.specs.declared.standing.Standing.{Standing}
use Rattle.lua_machine.specs.declared.standing.Standing.TheVariants.{Fresh, Waits, Over}
use Rattle.lua_machine.specs.declared.status.Status.{Status}
use Rattle.lua_machine.specs.declared.status.Status.TheVariants.{Gives}
use Rattle.lua_machine.specs.declared.status.Pause.{Pause}
use Rattle.lua_machine.specs.View.{EngineView, config_of}
use Rattle.lua_machine.specs.Ready.{IsServing, IsReady}
use Rattle.lua_machine.specs.Does.{step_as, pending_of, IsKept, IsMadeErrand}
use Rattle.lua_machine.specs.Runs.{pause_as, IsKeptPause, stepped}
use Rattle.lua_machine.specs.Asking.{with_ask}

-- ---- some steps on

-- With a past a run is at a step; some steps on it is at another one, past some prints: nothing was asked between them.
pub record LeadsTo (program : Program) (from : Step) (past : Past) (to : Past → Step) (output : List ℕ) :
    Type 0 where
  pub later : Past
  pub output_is : later.output ≡ output
  pub asks : later.asks ≡ past.asks
  pub whole : IsWhole past → IsWhole later
  pub count : ℕ
  pub comes : stepped program count from ≡ to later

-- the same, to some step that goes on from what was done
pub record IsCutAt (program : Program) (from : Step) (past : Past) (output : List ℕ) : Type 0 where
  pub later : Past
  pub output_is : later.output ≡ output
  pub asks : later.asks ≡ past.asks
  pub whole : IsWhole past → IsWhole later
  pub count : ℕ
  pub step : Step
  pub comes : stepped program count from ≡ step
  pub grows : GrowsTo later step

-- from each past with an output
abbrev pub Leads : Program → (from : Past → Step) → (before : List ℕ) → (to : Past → Step) →
    (after : List ℕ) → Type 0
Leads program from before to after =
    (past : Past) → past.output ≡ before → LeadsTo program (from past) past to after

abbrev pub IsCut : Program → (from : Past → Step) → (before after : List ℕ) → Type 0
IsCut program from before after =
    (past : Past) → past.output ≡ before → IsCutAt program (from past) past after

-- ---- a turn, and turns up to a pause

-- it stands still
pub record Pauses (program : Program) (from : Past → Step) (before : List ℕ) (pause : Pause) (m : EngineView)
    (after : List ℕ) : Type 0 where
  pub leads : Leads program from before (λ past. pause_as pause past m) after
  pub kept : IsKeptPause pause m
  pub longer : IsPrefix before after

-- want of memory cut it
pub record Stops (program : Program) (from : Past → Step) (before after : List ℕ) : Type 0 where
  pub cut : IsCut program from before after
  pub longer : IsPrefix before after

-- a line was printed, and nothing is to be given
pub record HasPrinted (program : Program) (from : Past → Step) (before : List ℕ) (m : EngineView)
    (after : List ℕ) : Type 0 where
  pub leads : Leads program from before (λ past. step_as Gives past m) after
  pub kept : IsKept Gives m
  pub longer : IsPrefix before after

abbrev pub HasTurned : Program → Status → Result (Option Pause) Memory → (old : EngineView) →
    (before : List ℕ) → (new : EngineView) → (after : List ℕ) → Type 0
HasTurned program status (Ok None) old before new after =
    HasPrinted program (λ past. step_as status past old) before new after
HasTurned program status (Ok (Some pause)) old before new after =
    Pauses program (λ past. step_as status past old) before pause new after
HasTurned program status (Err e) old before new after =
    Stops program (λ past. step_as status past old) before after

abbrev pub HasRun : Program → (from : Past → Step) → Result Pause Memory → (before : List ℕ) →
    (new : EngineView) → (after : List ℕ) → Type 0
HasRun program from (Ok pause) before new after = Pauses program from before pause new after
HasRun program from (Err e) before new after = Stops program from before after

-- ---- where a machine stands

abbrev pub IsKeptStanding : Standing → EngineView → Type 0
IsKeptStanding Fresh m = IsReady m
IsKeptStanding (Waits question errand) m = IsServing m × IsMadeErrand errand m
IsKeptStanding Over m = ⊤

-- where the definitions' machine is then
abbrev pub point_of : Standing → EngineView → Past → Step
point_of Fresh m past = on (config_of past m)
point_of (Waits question errand) m past = Step.asks (ask_view question) (pending_of errand past m)
point_of Over m past = stop stuck

-- where it is once the reply has come
abbrev pub resumed : Program → Standing → Option Reply → EngineView → Past → Step
resumed program (Waits question errand) (Some reply) m past =
    resume program (ask_view question) (reply_view reply) (pending_of errand past m)
resumed program standing reply m past = on (config_of past m)

-- the ask counts as answered then
abbrev pub told_past : Standing → Past → Past
told_past (Waits question errand) past = with_ask (ask_view question) past
told_past standing past = past

-- it went on with a reply
pub record Reaches (program : Program) (standing : Standing) (reply : Option Reply) (old : EngineView)
    (before : List ℕ) (pause : Pause) (m : EngineView) (after : List ℕ) : Type 0 where
  pub leads :
      (past : Past) → past.output ≡ before →
      LeadsTo program (resumed program standing reply old past) (told_past standing past)
      (λ past. pause_as pause past m) after
  pub kept : IsKeptPause pause m
  pub longer : IsPrefix before after

pub record Fails (program : Program) (standing : Standing) (reply : Option Reply) (old : EngineView)
    (before after : List ℕ) : Type 0 where
  pub cut :
      (past : Past) → past.output ≡ before →
      IsCutAt program (resumed program standing reply old past) (told_past standing past) after
  pub longer : IsPrefix before after

abbrev pub HasGone : Program → Standing → Option Reply → Result Pause Memory → (old : EngineView) →
    (before : List ℕ) → (new : EngineView) → (after : List ℕ) → Type 0
HasGone program standing reply (Ok pause) old before new after =
    Reaches program standing reply old before pause new after
HasGone program standing reply (Err e) old before new after =
    Fails program standing reply old before after
