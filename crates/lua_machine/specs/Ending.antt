-- How a run ends where an engine stands still.
use Rattle.std.specs.Prelude.{◌≡◌, map, ⊤}
use Rattle.variant.specs.declared.end_kind.EndKind.{EndKind}
use Rattle.variant.specs.declared.end_kind.EndKind.TheVariants.{Done, Error, OutOfSteps, Memory}
use Rattle.lua_meaning.specs.Value.{first}
use Rattle.lua_meaning.specs.Run.{done_value, error_text}
use Rattle.lua_heap.specs.Value.{value_view}
use Rattle.lua_machine.specs.declared.status.Pause.{Pause}
use Rattle.lua_machine.specs.declared.status.Pause.TheVariants.{Ended, Failed, NoTick}
use Rattle.lua_machine.specs.View.{EngineView}

-- an end is that of a pause; memory may be wanted at any
abbrev pub IsEnd : Pause → EngineView → EndKind → Type 0
IsEnd pause m Memory = ⊤
IsEnd Ended m (Done n) = n ≡ done_value (first (map (value_view m.heap.texts) m.args))
IsEnd (Failed v) m (Error text) = text ≡ error_text (value_view m.heap.texts v)
IsEnd NoTick m OutOfSteps = ⊤
IsEnd pause m end = ⊥
