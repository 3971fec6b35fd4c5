-- What operators and fields come to, for the engine.
use Rattle.std.specs.Prelude.{ℕ, ◌+◌, List}
use Rattle.lua_tree.specs.View.{binary_view}
use Rattle.lua_tree.specs.declared.tree.BinOp.{BinOp}
use Rattle.lua_machine.specs.Past.{Past}
use Rattle.lua_meaning.specs.Handlers as handlers
use Rattle.lua_meaning.specs.Handlers.{Setting}
use Rattle.lua_heap.specs.declared.value.Value.{Value}
use Rattle.lua_heap.specs.Value.{value_view}
use Rattle.lua_heap.specs.Heap.{store_of}
use Rattle.lua_code.specs.Valid.{Leads, cells_at}
use Rattle.lua_code.specs.State.{Step}
use Rattle.lua_code.specs.Doing as code
use Rattle.lua_code.specs.Act as act
use Rattle.lua_operators.specs.declared.doing.Doing.{Doing}
use Rattle.lua_operators.specs.Doing.{does}
use Rattle.lua_machine.specs.declared.status.Status.{Status}
use Rattle.lua_machine.specs.View.{EngineView, run_of, frames_of, registers_of, state_of}
use Rattle.lua_machine.specs.Changes.{EachTakes}
use Rattle.lua_machine.specs.Does.{Came, site_at}

-- the next instruction leads to the one behind it
abbrev pub GoesOn : EngineView → Type 0
GoesOn m = Leads m.proto (cells_at m.proto m.pc) (m.pc + 1)

-- an operator came to something, for a slot
abbrev pub doing_step : (to : ℕ) → Doing → EngineView → Past → Step
doing_step to doing m past =
    act.does (run_of m) (frames_of m) (registers_of m) (state_of past m) (site_at m.proto m.pc) to
    (does m.heap doing)

abbrev pub Settles : (to : ℕ) → Doing → Status → EngineView → EngineView → Type 0
Settles to doing status old new =
    Came (doing_step to doing old) status new

-- what setting a field comes to
abbrev pub storing_step : Setting → (key value : Value) → EngineView → Past → Step
storing_step s key value m past =
    act.sets (run_of m) (frames_of m) (registers_of m) (state_of past m) (site_at m.proto m.pc)
    (value_view m.heap.texts key) (value_view m.heap.texts value) s

abbrev pub StoresAs : Setting → (key value : Value) → Status → EngineView → EngineView → Type 0
StoresAs s key value status old new =
    EachTakes (storing_step s key value old) status old new

-- a field is set
abbrev pub setting_of : (base key : Value) → EngineView → Setting
setting_of base key m =
    handlers.setting (store_of m.heap) (value_view m.heap.texts base) (value_view m.heap.texts key)

abbrev pub Sets : (base key value : Value) → Status → EngineView → EngineView → Type 0
Sets base key value status old new = StoresAs (setting_of base key old) key value status old new

-- a binary operator on two values
abbrev pub operation : BinOp → (left right : Value) → EngineView → code.Doing
operation op left right m =
    code.binary_doing (binary_view op) (store_of m.heap) (value_view m.heap.texts left)
    (value_view m.heap.texts right)

abbrev pub operation_step : BinOp → (to : ℕ) → (left right : Value) → EngineView → Past → Step
operation_step op to left right m past =
    act.does (run_of m) (frames_of m) (registers_of m) (state_of past m) (site_at m.proto m.pc) to
    (operation op left right m)

abbrev pub Operates : BinOp → (to : ℕ) → (left right : Value) → Status → EngineView → EngineView →
    Type 0
Operates op to left right status old new =
    Came (operation_step op to left right old) status new
