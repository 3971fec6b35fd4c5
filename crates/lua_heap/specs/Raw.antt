-- A table of a heap that gets a value.
use Rattle.std.specs.Prelude.{Bool, if◌then◌else◌, true, false}
use Rattle.lua_table.specs.Table.{Places, set, clear_key}
use Rattle.lua_heap.specs.declared.value.Value.{Value}
use Rattle.lua_heap.specs.declared.value.Value.TheVariants.{Nil}
use Rattle.lua_heap.specs.Alike.{value_eq}

abbrev pub is_nil : Value → Bool
is_nil Nil = true
is_nil v = false

-- places with a value for a key; nil takes the key's value away
abbrev pub with_raw : Places Value Value → (key value : Value) → Places Value Value
with_raw places key value =
    if is_nil value then clear_key value_eq places key else set value_eq places key value
