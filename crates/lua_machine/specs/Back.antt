-- Calls that functions of the library make, as steps of the definitions' machine.
use Rattle.std.specs.Prelude.{◌≡◌, ℕ, zero, suc, ◌-◌, ◌<◌, ◌≤◌, List, ◌∷◌, length, map, Option, Some, None, codes, ⊤}
use Rattle.lua_meaning.specs.Value as meant
use Rattle.lua_heap.specs.declared.value.Value.{Value}
use Rattle.lua_heap.specs.Value.{value_view}
use Rattle.lua_code.specs.State as s
use Rattle.lua_code.specs.State.{Step}
use Rattle.lua_code.specs.Frames.{Callee, raised, entering, calling}
use Rattle.lua_machine.specs.declared.frame.Duty.{Duty}
use Rattle.lua_machine.specs.declared.status.Status.{Status}
use Rattle.lua_machine.specs.declared.status.Status.TheVariants.{NoTick, Gives, Raises}
use Rattle.lua_machine.specs.Past.{Past}
use Rattle.lua_machine.specs.View.{EngineView, kept_in, duty_view, frames_of, registers_of, state_of}
use Rattle.lua_machine.specs.Does.{Came}
use Rattle.lua_machine.specs.Serving.{IsRefusal}

-- what a function of the library keeps while it runs
abbrev pub kept_of : EngineView → List meant.Value
kept_of m = kept_in m.heap.texts m.extras m.extra_base (length m.extras)

abbrev pub args_of : EngineView → List meant.Value
args_of m = map (value_view m.heap.texts) m.args

-- a function of the library waits
abbrev pub back_frames : Duty → EngineView → List s.Frame
back_frames duty m = s.serves (duty_view duty (kept_of m)) m.base m.cell_base ∷ frames_of m

abbrev pub a_tick_less : EngineView → EngineView
a_tick_less m = record m { ticks = m.ticks - 1 }

-- a call took its tick, or there is a status
abbrev pub TakesCall : Option Status → EngineView → EngineView → Type 0
TakesCall None old new =
    (0 < old.ticks) × (length old.frames ≤ 4096) × (new ≡ a_tick_less old)
TakesCall (Some NoTick) old new = (old.ticks ≡ 0) × (new ≡ old)
TakesCall (Some (Raises v)) old new =
    (0 < old.ticks) × (4096 < length old.frames)
    × IsRefusal (codes "stack overflow") v (a_tick_less old) new
TakesCall (Some status) old new = ⊥

-- how many frames there are at most when results or an error go on
abbrev pub FewFrames : Status → (frames : ℕ) → EngineView → Type 0
FewFrames Gives frames m = length m.frames ≤ frames
FewFrames (Raises v) frames m = length m.frames ≤ suc frames
FewFrames status frames m = ⊤

-- a function, whose caller's frame is on top, is called on the arguments that were put together
abbrev pub starting_step : Callee → Past → EngineView → Step
starting_step f past m =
    entering (raised (frames_of m) (registers_of m)) f (args_of m) (frames_of m) m.base m.cell_base
    (registers_of m) (state_of past m)

pub record Starts (f : Callee) (status : Status) (old new : EngineView) : Type 0 where
  pub came : Came (λ past. starting_step f past old) status new
  pub few : FewFrames status (length old.frames - 1) new

-- a function of the library calls a value, and waits
abbrev pub back_step : Duty → Value → Past → EngineView → Step
back_step duty v past m =
    calling (value_view m.heap.texts v) (args_of m) (back_frames duty m) m.base m.cell_base
    (registers_of m) (state_of past m)

pub record CallsBack (duty : Duty) (v : Value) (status : Status) (old new : EngineView) : Type 0 where
  pub came : Came (λ past. back_step duty v past old) status new
  pub few : FewFrames status (length old.frames) new
