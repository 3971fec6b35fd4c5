-- Handlers of operators and fields, called.
use Rattle.std.specs.Prelude.{List, map}
use Rattle.lua_machine.specs.Past.{Past}
use Rattle.lua_heap.specs.declared.value.Value.{Value}
use Rattle.lua_heap.specs.Value.{value_view}
use Rattle.lua_code.specs.State.{Step}
use Rattle.lua_code.specs.Act as act
use Rattle.lua_machine.specs.declared.frame.Wants.{Wants}
use Rattle.lua_machine.specs.declared.status.Status.{Status}
use Rattle.lua_machine.specs.View.{EngineView, wants_view, run_of, frames_of, registers_of, state_of}
use Rattle.lua_machine.specs.Does.{site_at, Came}

-- a handler is called on values
abbrev pub handling_step : Wants → Value → List Value → EngineView → Past → Step
handling_step wants h args m past =
    act.handling (run_of m) (frames_of m) (registers_of m) (state_of past m) (site_at m.proto m.pc)
    (wants_view wants) (value_view m.heap.texts h) (map (value_view m.heap.texts) args)

abbrev pub Handles : Wants → Value → List Value → Status → EngineView → EngineView → Type 0
Handles wants h args status old new = Came (handling_step wants h args old) status new
