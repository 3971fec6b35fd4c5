-- Runs of the engine are runs of the definitions' machine.
use Rattle.std.specs.Prelude.{◌≡◌, ℕ, zero, suc, [], map, ⊤}
use Rattle.lua_meaning.specs.MessageView.{ask_view}
use Rattle.lua_meaning.specs.World.{given}
use Rattle.lua_heap.specs.Value.{value_view}
use Rattle.lua_heap.specs.Heap.{IsMade}
use Rattle.lua_code.specs.State as s
use Rattle.lua_code.specs.State.{Step, on, stop}
use Rattle.lua_code.specs.Natives.{Program}
use Rattle.lua_code.specs.Act.{act}
use Rattle.lua_machine.specs.declared.status.Status.{Status}
use Rattle.lua_machine.specs.declared.status.Turn.{Turn}
use Rattle.lua_machine.specs.declared.status.Turn.TheVariants.{Goes, Serves, Pauses}
use Rattle.lua_machine.specs.declared.status.Pause.{Pause}
use Rattle.lua_machine.specs.declared.status.Pause.TheVariants.{Ended, Failed, NoTick, Prints, Asks}
use Rattle.lua_machine.specs.Past.{Past}
use Rattle.lua_machine.specs.View.{EngineView, state_of, config_of, serving_config}
use Rattle.lua_machine.specs.Ready.{AreFit, IsServing, IsReady}
use Rattle.lua_machine.specs.Does.{step_as, finishing, with_line, pending_of, IsMadeErrand, Came}

-- one step, in whatever program
abbrev pub Steps : Status → EngineView → EngineView → Type 0
Steps status old new = (program : Program) → Came (λ past. act program (config_of past old)) status new

-- where the engine is when it stands still
abbrev pub pause_as : Pause → Past → EngineView → Step
pause_as Ended past m = stop (s.ended (map (value_view m.heap.texts) m.args) (state_of past m))
pause_as (Failed v) past m = stop (s.failed (value_view m.heap.texts v) (state_of past m))
pause_as NoTick past m = stop (s.no_ticks (state_of past m))
pause_as (Prints line) past m = finishing (given []) (with_line line.items past) m
pause_as (Asks question errand) past m = s.asks (ask_view question) (pending_of errand past m)

-- where it is once results and errors have gone to the frames
abbrev pub turn_as : Turn → Past → EngineView → Step
turn_as Goes past m = on (config_of past m)
turn_as (Serves f) past m = on (serving_config f past m)
turn_as (Pauses pause) past m = pause_as pause past m

-- what is kept there
abbrev pub IsKeptPause : Pause → EngineView → Type 0
IsKeptPause Ended m = ⊤
IsKeptPause (Failed v) m = IsMade m.heap v
IsKeptPause NoTick m = ⊤
IsKeptPause (Prints line) m = AreFit m × (m.args ≡ [])
IsKeptPause (Asks question errand) m = IsServing m × IsMadeErrand errand m

abbrev pub IsKeptTurn : Turn → EngineView → Type 0
IsKeptTurn Goes m = IsReady m
IsKeptTurn (Serves f) m = IsServing m
IsKeptTurn (Pauses pause) m = IsKeptPause pause m

-- results and errors went to the frames
pub record Lands (status : Status) (turn : Turn) (old new : EngineView) : Type 0 where
  pub step : (past : Past) → step_as status past old ≡ turn_as turn past new
  pub kept : IsKeptTurn turn new

-- so many steps of the definitions' machine, or fewer where it stands still before
abbrev pub stepped : Program → ℕ → Step → Step
stepped program zero x = x
stepped program (suc n) (on c) = stepped program n (act program c)
stepped program (suc n) x = x

-- A run comes to where the definitions' machine does after some steps.
pub record Runs (program : Program) (from : Status) (pause : Pause) (old new : EngineView) : Type 0 where
  pub comes :
      (past : Past) →
      (n : ℕ) × (stepped program n (step_as from past old) ≡ pause_as pause past new)
  pub kept : IsKeptPause pause new
