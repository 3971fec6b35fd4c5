-- What functions of the library come to in whatever program.
use Rattle.std.specs.Prelude.{List, [], ◌∷◌}
use Rattle.lua_meaning.specs.Value as meant
use Rattle.lua_meaning.specs.World.{given}
use Rattle.lua_heap.specs.declared.native.Native.{Native}
use Rattle.lua_code.specs.Natives.{Program}
use Rattle.lua_machine.specs.declared.status.Status.{Status}
use Rattle.lua_machine.specs.View.{EngineView}
use Rattle.lua_machine.specs.Does.{finishing, Came}
use Rattle.lua_machine.specs.Serving.{Served}

abbrev pub ServedAlone : Native → Status → EngineView → EngineView → Type 0
ServedAlone f status old new = (program : Program) → Served program f status old new

-- one value is given
abbrev pub GivesValue : meant.Value → Status → EngineView → EngineView → Type 0
GivesValue w status old new = Came (λ past. finishing (given (w ∷ [])) past old) status new
