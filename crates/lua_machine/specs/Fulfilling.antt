-- What functions of the library do with the results of what they called.
use Rattle.std.specs.Prelude.{◌≡◌, List, [], ◌∷◌, length}
use Rattle.lua_meaning.specs.Value as meant
use Rattle.lua_meaning.specs.World.{Outcome, failed}
use Rattle.lua_heap.specs.declared.value.Value.{Value}
use Rattle.lua_heap.specs.Value.{value_view}
use Rattle.lua_code.specs.State.{Step}
use Rattle.lua_code.specs.Frames.{serving, finish}
use Rattle.lua_machine.specs.declared.frame.Duty.{Duty}
use Rattle.lua_machine.specs.declared.status.Status.{Status}
use Rattle.lua_machine.specs.declared.status.Status.TheVariants.{Gives}
use Rattle.lua_machine.specs.Past.{Past}
use Rattle.lua_machine.specs.View.{EngineView, duty_view, frames_of, registers_of, state_of}
use Rattle.lua_machine.specs.Does.{given_args, Came}
use Rattle.lua_machine.specs.Back.{kept_of, FewFrames}

-- a function whose frame was taken off goes on with values or an error
abbrev pub fulfilling_step : Duty → Outcome (List meant.Value) → Past → EngineView → Step
fulfilling_step duty o past m =
    serving (duty_view duty (kept_of m)) o (frames_of m) m.base m.cell_base (registers_of m)
    (state_of past m) (λ o st. finish o (frames_of m) (registers_of m) st)

-- with the results, which were put together as arguments are
pub record Fulfils (duty : Duty) (status : Status) (old new : EngineView) : Type 0 where
  pub came : Came (λ past. fulfilling_step duty (given_args old) past old) status new
  pub few : FewFrames status (length old.frames) new

-- with an error
pub record Fails (duty : Duty) (v : Value) (status : Status) (old new : EngineView) : Type 0 where
  pub came :
      Came (λ past. fulfilling_step duty (failed (value_view old.heap.texts v)) past old) status new
  pub frames : new.frames ≡ old.frames

-- one value is given
abbrev pub GivesOne : Value → Status → EngineView → EngineView → Type 0
GivesOne v status old new = (status ≡ Gives) × (new ≡ record old { args = v ∷ [] })
