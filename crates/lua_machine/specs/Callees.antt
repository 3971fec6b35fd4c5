-- What a call of a value runs.
use Rattle.std.specs.Prelude.{ℕ, List, map, Option}
use Rattle.lua_meaning.specs.Value as meant
use Rattle.lua_heap.specs.declared.entries.Function.{Function}
use Rattle.lua_heap.specs.declared.value.Value.{Value}
use Rattle.lua_heap.specs.Value.{value_view}
use Rattle.lua_heap.specs.Heap.{store_of, function_at}
use Rattle.lua_code.specs.Frames.{Callee, runs, called}
use Rattle.lua_machine.specs.View.{EngineView, code_of, made_view}

-- a function of a program
abbrev pub callee_for : EngineView → Function → Callee
callee_for m f = runs (code_of m.chunks f.code f.proto) f.cells

abbrev pub callee_at : EngineView → (id : ℕ) → Callee
callee_at m id = callee_for m (function_at m.heap id)

-- what a value's call runs, and on what
abbrev pub called_at : EngineView → Value → List meant.Value → Option (Callee × List meant.Value)
called_at m v args =
    called (map (made_view m.chunks) m.heap.functions) (store_of m.heap)
    (value_view m.heap.texts v) args
