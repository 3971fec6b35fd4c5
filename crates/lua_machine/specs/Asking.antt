-- Functions of LÖVE and replies, as steps of the definitions' machine.
use Rattle.std.specs.Prelude.{◌≡◌, ℕ, Bool, [], ◌∷◌, ◌++◌, Option, Some, None, IsFalse}
use Rattle.lua_meaning.specs.Value.{str}
use Rattle.lua_meaning.specs.Message.{Ask}
use Rattle.lua_meaning.specs.MessageView.{ask_view, reply_view}
use Rattle.lua_meaning.specs.World.{given, failed}
use Rattle.lua_meaning.specs.Fault.{placed}
use Rattle.lua_meaning.specs.Calls.{caller}
use Rattle.lua_meaning.specs.Love.{waited}
use Rattle.variant.specs.declared.reply.Reply.{Reply}
use Rattle.lua_heap.specs.declared.native.Native.{Native}
use Rattle.lua_heap.specs.Heap.{HeapView}
use Rattle.lua_lib.specs.Causes.{values_of}
use Rattle.lua_code.specs.State as s
use Rattle.lua_code.specs.State.{Step}
use Rattle.lua_code.specs.Frames.{places}
use Rattle.lua_code.specs.Natives.{Program, resume}
use Rattle.love_functions.specs.declared.errand.Called.{Called}
use Rattle.love_functions.specs.declared.errand.Called.TheVariants as called
use Rattle.love_functions.specs.Asking as asking
use Rattle.love_functions.specs.View.{called_view, IsMadeCalled}
use Rattle.lua_machine.specs.declared.errand.Errand.{Errand}
use Rattle.lua_machine.specs.declared.errand.Errand.TheVariants.{Answers}
use Rattle.lua_machine.specs.declared.status.Status.{Status}
use Rattle.lua_machine.specs.Past.{Past}
use Rattle.lua_machine.specs.View.{EngineView, frames_of}
use Rattle.lua_machine.specs.Does.{finishing, step_as, pending_of, IsKept, Came}
use Rattle.lua_machine.specs.Serving.{Served}

-- ---- what a function of LÖVE, or a reply, came to

-- values go to the frames that wait, an error has the place of the caller, and an ask waits for its reply
abbrev pub called_step : Called → Past → EngineView → Step
called_step (called.Gives values) past m = finishing (given (values_of m.heap values.items)) past m
called_step (called.Refuses text) past m =
    finishing (failed (str (placed (caller (places (frames_of m))) text.items))) past m
called_step (called.Asks question errand) past m =
    s.asks (ask_view question) (pending_of (Answers errand) past m)

abbrev pub ComesTo : Called → Status → EngineView → EngineView → Type 0
ComesTo x status old new = Came (λ past. called_step x past old) status new

-- ---- calls

-- a function of LÖVE came to a status, or it is elsewhere, and the engine is as it was
abbrev pub Asks : Program → (here : Bool) → Option Status → Native → EngineView → EngineView → Type 0
Asks program here (Some status) f old new = Served program f status old new
Asks program here None f old new = IsFalse here × (new ≡ old)

-- ---- replies

-- an ask was answered
abbrev pub with_ask : Ask → Past → Past
with_ask question past =
    record { asks = past.asks ++ question ∷ []; output = past.output; ends = past.ends }

-- a reply came to a status, in whatever program
pub record Attends (errand : Errand) (reply : Reply) (status : Status) (old new : EngineView) :
    Type 0 where
  pub step :
      (program : Program) (question : Ask) (past : Past) →
      resume program question (reply_view reply) (pending_of errand past old)
      ≡ step_as status (with_ask question past) new
  pub kept : IsKept status new

-- without a limit a wait gives true where it ends
abbrev pub waited_view : Option ℕ → asking.Called → asking.Called
waited_view limit (asking.gives vs) = asking.gives (waited limit vs)
waited_view limit (asking.refuses text) = asking.refuses text
waited_view limit (asking.asks question errand) = asking.asks question errand

-- what a wait gives is that of what the reply gives, and is made by each heap that made this
pub record IsWaited (limit : Option ℕ) (came gives : Called) : Type 0 where
  pub view : (h : HeapView) → called_view h gives ≡ waited_view limit (called_view h came)
  pub made : (h : HeapView) → IsMadeCalled h came → IsMadeCalled h gives
