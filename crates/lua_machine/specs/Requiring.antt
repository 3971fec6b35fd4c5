-- Modules.
use Rattle.std.specs.Prelude.{◌≡◌, ℕ, List, [], ◌∷◌, ◌++◌, Some}
use Rattle.lua_meaning.specs.Value as meant
use Rattle.lua_meaning.specs.Control.{module_value}
use Rattle.lua_heap.specs.declared.value.Value.{Value}
use Rattle.lua_heap.specs.Value.{value_view}
use Rattle.lua_machine.specs.declared.module.Module.{Module}
use Rattle.lua_machine.specs.declared.status.Status.{Status}
use Rattle.lua_machine.specs.declared.status.Status.TheVariants.{Gives}
use Rattle.lua_machine.specs.View.{EngineView}
use Rattle.lua_machine.specs.Back.{args_of}

-- what a module's first result is kept as
abbrev pub IsModuleValue : Value → EngineView → Type 0
IsModuleValue v m = value_view m.heap.texts v ≡ module_value (meant.first (args_of m))

-- a module with its value
abbrev pub with_module : (name : ℕ) → Value → EngineView → EngineView
with_module name v m =
    record m { modules = m.modules ++ record { name = name; value = Some v } ∷ []; args = v ∷ [] }

-- it is kept, and its value is given
abbrev pub KeepsModule : (name : ℕ) → Value → Status → EngineView → EngineView → Type 0
KeepsModule name v status old new = (status ≡ Gives) × (new ≡ with_module name v old)
