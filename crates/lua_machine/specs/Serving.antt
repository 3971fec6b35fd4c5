-- Functions of the library, as steps of the definitions' machine.
use Rattle.std.specs.Prelude.{◌≡◌, ℕ, suc, ◌*◌, ◌-◌, ◌<◌, Bool, true, false, List, [], ◌∷◌, ◌++◌, length, Option, Some, None, IsFalse, ⊤}
use Rattle.lua_tree.specs.Tree.{Bytes}
use Rattle.lua_meaning.specs.Value.{str}
use Rattle.lua_machine.specs.Past.{Past}
use Rattle.lua_meaning.specs.Fault.{Fault as Error, placed, fault_value}
use Rattle.lua_meaning.specs.Calls.{caller}
use Rattle.lua_heap.specs.declared.native.Native.{Native}
use Rattle.lua_heap.specs.declared.value.Value.{Value}
use Rattle.lua_heap.specs.Native.{native_view}
use Rattle.lua_heap.specs.Value.{value_view}
use Rattle.lua_heap.specs.Heap.{IsMade}
use Rattle.lua_lib.specs.declared.fault.Fault.TheVariants.{Memory}
use Rattle.lua_lib.specs.declared.call.cause.Cause.{Cause}
use Rattle.lua_lib.specs.declared.call.cause.Cause.TheVariants.{By}
use Rattle.lua_lib.specs.Causes.{error_of}
use Rattle.lua_code.specs.Frames.{places}
use Rattle.lua_code.specs.Natives.{Program}
use Rattle.lua_code.specs.Act.{act}
use Rattle.lua_machine.specs.declared.frame.Frame.{Frame}
use Rattle.lua_machine.specs.declared.status.Status.{Status}
use Rattle.lua_machine.specs.declared.status.Status.TheVariants.{Gives, Raises}
use Rattle.lua_machine.specs.View.{EngineView, protos_at, proto_at, place_of, frames_of, config_of, serving_config}
use Rattle.lua_machine.specs.Does.{step_as, Came}
use Rattle.lua_machine.specs.Ready.{AreFit}

-- ---- results

-- results, which were put together as arguments are, went to the frame on top
abbrev pub Delivers : Status → EngineView → EngineView → Type 0
Delivers status old new = Came (λ past. step_as Gives past old) status new

-- so did an error
abbrev pub Unwinds : Value → Status → EngineView → EngineView → Type 0
Unwinds v status old new = Came (λ past. step_as (Raises v) past old) status new

-- how far there is to go to the last frame
abbrev pub frames_left : Status → EngineView → ℕ
frames_left Gives m = suc (suc (2 * length m.frames))
frames_left (Raises v) m = suc (2 * length m.frames)
frames_left status m = 0

-- there is less to go
abbrev pub Falls : (from to : Status) → EngineView → EngineView → Type 0
Falls from Gives old new = frames_left Gives new < frames_left from old
Falls from (Raises v) old new = frames_left (Raises v) new < frames_left from old
Falls from to old new = ⊤

-- ---- errors

-- the function of Lua that made the call of the one that runs, where one did: its code is there, and so is the call's site
pub record IsCallerOf (f : Frame) (m : EngineView) : Type 0 where
  pub place : caller (places (frames_of m)) ≡ Some (place_of m.chunks f)
  pub known : f.func < length (protos_at m.chunks f.chunk)
  pub inside : f.pc - 1 < length (proto_at m.chunks f.chunk f.func).sites

abbrev pub IsCaller : Option Frame → EngineView → Type 0
IsCaller None m = caller (places (frames_of m)) ≡ None
IsCaller (Some f) m = IsCallerOf f m

-- memory was refused
abbrev pub is_memory : Cause → Bool
is_memory (By Memory) = true
is_memory cause = false

-- a text's value is there, and to the definitions nothing else has changed
pub record IsText (text : Bytes) (value : Value) (old new : EngineView) : Type 0 where
  pub value_is : value_view new.heap.texts value ≡ str text
  pub made : IsMade new.heap value
  pub same : (past : Past) → config_of past new ≡ config_of past old
  pub fit : AreFit new

-- so is that of an error with a text, behind the place of the caller where that is a function of Lua
abbrev pub IsRefusal : Bytes → Value → EngineView → EngineView → Type 0
IsRefusal text value old new =
    IsText (placed (caller (places (frames_of old))) text) value old new

-- the value of a cause's error is there, and to the definitions nothing else has changed
pub record Failed (f : Native) (cause : Cause) (value : Value) (old new : EngineView) : Type 0 where
  pub error : Error
  pub is : error_of old.heap.texts cause ≡ Some error
  pub value_is :
      value_view new.heap.texts value
      ≡ fault_value (native_view f) (caller (places (frames_of old))) error
  pub made : IsMade new.heap value
  pub same : (past : Past) → config_of past new ≡ config_of past old
  pub fit : AreFit new

-- ---- calls

-- a function of the library came to a status
abbrev pub Served : Program → Native → Status → EngineView → EngineView → Type 0
Served program f status old new =
    Came (λ past. act program (serving_config f past old)) status new

-- or it is elsewhere, and the engine is as it was
abbrev pub ServedOr : (here : Bool) → Option Status → Native → EngineView → EngineView → Type 0
ServedOr here (Some status) f old new = (program : Program) → Served program f status old new
ServedOr here None f old new = IsFalse here × (new ≡ old)
