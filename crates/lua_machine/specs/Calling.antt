-- Calls of values, as steps of the definitions' machine.
use Rattle.std.specs.Prelude.{◌≡◌, ℕ, List, ◌∷◌, Some, None, ⊤}
use Rattle.lua_meaning.specs.Value as meant
use Rattle.lua_machine.specs.Past.{Past}
use Rattle.lua_heap.specs.declared.value.Value.{Value}
use Rattle.lua_heap.specs.declared.value.Value.TheVariants.{Func, Native}
use Rattle.lua_heap.specs.Value.{value_view}
use Rattle.lua_heap.specs.Native.{native_view}
use Rattle.lua_code.specs.State.{Step, waits}
use Rattle.lua_code.specs.State as s
use Rattle.lua_code.specs.Frames.{Callee as Target, built_in, raised, entering, calling}
use Rattle.lua_code.specs.Act.{next, at_line}
use Rattle.lua_machine.specs.declared.arguments.Behind.{Behind}
use Rattle.lua_machine.specs.declared.frame.Wants.{Wants}
use Rattle.lua_machine.specs.declared.invoke.Callee.{Callee}
use Rattle.lua_machine.specs.declared.invoke.Callee.TheVariants.{Runs, Handles, Library, HandlesLibrary, Nothing}
use Rattle.lua_machine.specs.declared.status.Status.{Status}
use Rattle.lua_machine.specs.View.{EngineView, wants_view, registers_of, run_of, frames_of, state_of}
use Rattle.lua_machine.specs.Does.{site_at, Came}
use Rattle.lua_machine.specs.Arguments.{args_at}
use Rattle.lua_machine.specs.Callees.{callee_at, called_at}
use Rattle.lua_machine.specs.Entering.{HasFunction, free_cells}

abbrev pub IsNoFunction : Value → Type 0
IsNoFunction (Func id) = ⊥
IsNoFunction (Native f) = ⊥
IsNoFunction v = ⊤

-- a value's call runs this
abbrev pub IsCallee : Callee → Value → EngineView → Type 0
IsCallee (Runs id) v m =
    HasFunction m id
    × ((args : List meant.Value) → called_at m v args ≡ Some (callee_at m id, args))
IsCallee (Handles id) v m =
    HasFunction m id
    × ((args : List meant.Value) →
    called_at m v args ≡ Some (callee_at m id, value_view m.heap.texts v ∷ args))
IsCallee (Library f) v m =
    (args : List meant.Value) → called_at m v args ≡ Some (built_in (native_view f), args)
IsCallee (HandlesLibrary f) v m =
    (args : List meant.Value) →
    called_at m v args ≡ Some (built_in (native_view f), value_view m.heap.texts v ∷ args)
IsCallee Nothing v m = (args : List meant.Value) → called_at m v args ≡ None

-- the frames of a call that the running function makes
abbrev pub calling_frames : Wants → EngineView → List s.Frame
calling_frames wants m =
    waits (next (run_of m)) (wants_view wants) (at_line (run_of m) (site_at m.proto m.pc))
    ∷ frames_of m

-- what a call of a function does
abbrev pub entering_step : Wants → Target → (first : ℕ) → List meant.Value → Past → EngineView →
    Step
entering_step wants f first args past m =
    entering (raised (calling_frames wants m) (registers_of m)) f args (calling_frames wants m)
    first (free_cells m) (registers_of m) (state_of past m)

-- a call of a function came to a status
abbrev pub EntersAs : Wants → Target → (first count : ℕ) → Behind → Status → EngineView →
    EngineView → Type 0
EntersAs wants f first count behind status old new =
    Came (λ past. entering_step wants f first (args_at old first count behind) past old) status new

-- what a call of a value does
abbrev pub calling_step : Wants → Value → (first : ℕ) → List meant.Value → Past → EngineView →
    Step
calling_step wants v first args past m =
    calling (value_view m.heap.texts v) args (calling_frames wants m) first (free_cells m)
    (registers_of m) (state_of past m)

-- a call of a value came to a status
abbrev pub CallsAs : Wants → Value → (first count : ℕ) → Behind → Status → EngineView → EngineView →
    Type 0
CallsAs wants v first count behind status old new =
    Came (λ past. calling_step wants v first (args_at old first count behind) past old) status new
