-- What the crate's types are to the definitions, and what a call comes to.
use Rattle.std.specs.Prelude.{◌≡◌, ℕ, Bool, true, false, List, map, Result, Ok, Err, IfOk, ⊤}
use Rattle.lua_tree.specs.Tree.{Bytes}
use Rattle.lua_meaning.specs.Value as meant
use Rattle.lua_meaning.specs.MessageView.{ask_view}
use Rattle.lua_meaning.specs.Packing as packing
use Rattle.lua_meaning.specs.Packing.{pack_text}
use Rattle.lua_meaning.specs.Arguments.{Lib, answers}
use Rattle.lua_heap.specs.declared.value.Value.{Value}
use Rattle.lua_heap.specs.Value.{value_view}
use Rattle.lua_heap.specs.Heap.{HeapView, IsMade, Extends, store_of}
use Rattle.lua_code.specs.State as state
use Rattle.lua_code.specs.declared.program.File.{File}
use Rattle.lua_lib.specs.declared.call.cause.Cause.{Cause}
use Rattle.lua_lib.specs.declared.call.cause.LibFault.{LibFault}
use Rattle.lua_lib.specs.declared.call.cause.LibFault.TheVariants.{Fails, Elsewhere}
use Rattle.lua_lib.specs.Causes.{AreMade, values_of}
use Rattle.lua_lib.specs.Runs.{Runs}
use Rattle.crossing.specs.Fault as crossed
use Rattle.crossing.specs.Fault.{fault_of}
use Rattle.crossing.specs.declared.fault.PackFault.{PackFault}
use Rattle.crossing.specs.declared.fault.PackFault.TheVariants.{Memory}
use Rattle.love_functions.specs.declared.errand.Errand.{Errand}
use Rattle.love_functions.specs.declared.errand.Errand.TheVariants.{GivesValues, Awaits, GivesWaited, Enters, GivesTrue, Clears}
use Rattle.love_functions.specs.declared.errand.Called.{Called}
use Rattle.love_functions.specs.declared.errand.Called.TheVariants.{Gives, Refuses, Asks}
use Rattle.love_functions.specs.Asking as asking
use Rattle.love_functions.specs.Asking.{Files}

abbrev pub errand_view : HeapView → Errand → state.Errand
errand_view h GivesValues = state.gives_values
errand_view h (Awaits c limit) = state.awaits c limit
errand_view h (GivesWaited limit) = state.gives_waited limit
errand_view h (Enters c f args) = state.enters c (value_view h.texts f) (values_of h args.items)
errand_view h GivesTrue = state.gives_true
errand_view h Clears = state.clears

abbrev pub called_view : HeapView → Called → asking.Called
called_view h (Gives values) = asking.gives (values_of h values.items)
called_view h (Refuses text) = asking.refuses text.items
called_view h (Asks question errand) = asking.asks (ask_view question) (errand_view h errand)

-- what is given, or kept for a reply, was made by the heap
abbrev pub IsMadeErrand : HeapView → Errand → Type 0
IsMadeErrand h (Enters c f args) = IsMade h f × AreMade h args.items
IsMadeErrand h errand = ⊤

abbrev pub IsMadeCalled : HeapView → Called → Type 0
IsMadeCalled h (Gives values) = AreMade h values.items
IsMadeCalled h (Refuses text) = ⊤
IsMadeCalled h (Asks question errand) = IsMadeErrand h errand

-- the paths and the bytes of files
abbrev pub file_view : File → Bytes × List ℕ
file_view file = (file.name, file.content.bytes)

abbrev pub files_view : List File → Files
files_view files = map file_view files

-- a function comes to what its definition does
abbrev pub Comes : (before after : HeapView) → Lib asking.Called → Result Called Cause → Type 0
Comes before after part result = Runs (called_view after) before after part result

abbrev pub MakesCalled : HeapView → Result Called Cause → Type 0
MakesCalled h result = IfOk result (IsMadeCalled h)

-- so it does in a heap that it may change: what it gives was made, and all that the heap had made is there
pub record IsCalled (before after : HeapView) (part : Lib asking.Called) (result : Result Called Cause) : Type 0 where
  pub comes : Comes before after part result
  pub made : MakesCalled after result
  pub extends : Extends before after
  pub functions : after.functions ≡ before.functions

-- ---- refusals of values as messages

-- a text tells of each fault of the definitions that this is
abbrev pub Tells : PackFault → Bytes → Type 0
Tells fault text = (refused : packing.PackFault) → fault ≡ fault_of refused → text ≡ pack_text refused

-- the definitions refuse with this fault, or memory is wanting
abbrev pub AnswersFault : {M : Type 0} → Result M packing.PackFault → PackFault → Type 0
AnswersFault meaning Memory = ⊤
AnswersFault meaning fault = crossed.Refuses meaning fault

-- ---- all of the functions

abbrev pub here : Result Called Cause → Result Called LibFault
here (Ok called) = Ok called
here (Err cause) = Err (Fails cause)

-- a call comes to what the function's definition does
abbrev pub Calls : (before after : HeapView) → Lib asking.Called → Result Called LibFault → Type 0
Calls before after part (Ok called) = Comes before after part (Ok called)
Calls before after part (Err (Fails cause)) = Comes before after part (Err cause)
Calls before after part (Err Elsewhere) = ⊥

pub record IsCall (before after : HeapView) (part : Lib asking.Called) (result : Result Called LibFault) : Type 0 where
  pub calls : Calls before after part result
  pub made : IfOk result (IsMadeCalled after)
  pub extends : Extends before after
  pub functions : after.functions ≡ before.functions

-- a function that is here is called; any other one is refused, and the heap stays as it is
abbrev pub CalledIf : Bool → (before after : HeapView) → Lib asking.Called → Result Called LibFault → Type 0
CalledIf true before after part result = IsCall before after part result
CalledIf false before after part result = (result ≡ Err Elsewhere) × (after ≡ before)

-- ---- replies

-- a text as a value of a heap, whose store stays
pub record IsText (text : Bytes) (before after : HeapView) (v : Value) : Type 0 where
  pub value : value_view after.texts v ≡ meant.str text
  pub made : IsMade after v
  pub store : store_of after ≡ store_of before

-- a reply gives what its definition does
pub record IsReply (part : Lib asking.Called) (before after : HeapView) (called : Called) : Type 0 where
  pub comes : part (store_of before) ≡ answers (called_view after called) (store_of after)
  pub made : IsMadeCalled after called
