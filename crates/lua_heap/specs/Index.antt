-- What reading and setting a field come to, as the definitions say it.
use Rattle.std.specs.Prelude.{◌<◌, List, length, Option, IfSome, ⊤}
use Rattle.std.specs.Option.{option_map}
use Rattle.lua_tree.specs.Tree.{Bytes}
use Rattle.lua_meaning.specs.Value as meant
use Rattle.lua_meaning.specs.Handlers as handlers
use Rattle.lua_heap.specs.declared.value.Value.{Value}
use Rattle.lua_heap.specs.declared.index.Lookup.{Lookup}
use Rattle.lua_heap.specs.declared.index.Lookup.TheVariants as read
use Rattle.lua_heap.specs.declared.index.Store.{Store}
use Rattle.lua_heap.specs.declared.index.Store.TheVariants as write
use Rattle.lua_heap.specs.declared.index.Step.{Step}
use Rattle.lua_heap.specs.declared.index.Step.TheVariants.{Ends, Goes}
use Rattle.lua_heap.specs.Value.{value_view}
use Rattle.lua_heap.specs.Heap.{HeapView, IsMade}

abbrev pub lookup_view : List Bytes → Lookup → handlers.Lookup
lookup_view texts (read.Found v) = handlers.found (value_view texts v)
lookup_view texts (read.Ask h base) = handlers.asks (value_view texts h) (value_view texts base)
lookup_view texts (read.Not v) = handlers.unindexed (value_view texts v)
lookup_view texts read.Loop = handlers.endless

abbrev pub setting_view : List Bytes → Store → handlers.Setting
setting_view texts (write.Raw id) = handlers.in_table id
setting_view texts (write.Ask h base) = handlers.asks_set (value_view texts h) (value_view texts base)
setting_view texts (write.Not v) = handlers.unindexed_set (value_view texts v)
setting_view texts write.Loop = handlers.endless_set

-- the values in what reading and setting come to were made by the heap
abbrev pub IsMadeLookup : HeapView → Lookup → Type 0
IsMadeLookup h (read.Found v) = IsMade h v
IsMadeLookup h (read.Ask f base) = IsMade h f × IsMade h base
IsMadeLookup h (read.Not v) = IsMade h v
IsMadeLookup h read.Loop = ⊤

abbrev pub IsMadeStore : HeapView → Store → Type 0
IsMadeStore h (write.Raw id) = id < length h.tables
IsMadeStore h (write.Ask f base) = IsMade h f × IsMade h base
IsMadeStore h (write.Not v) = IsMade h v
IsMadeStore h write.Loop = ⊤

-- ---- one value of a chain

-- what it comes to, where a further handler comes to what a function says
abbrev pub found_by : List Bytes → (meant.Value → handlers.Lookup) → Step Lookup → handlers.Lookup
found_by texts next (Ends lookup) = lookup_view texts lookup
found_by texts next (Goes handler) = next (value_view texts handler)

abbrev pub set_by : List Bytes → (meant.Value → handlers.Setting) → Step Store → handlers.Setting
set_by texts next (Ends store) = setting_view texts store
set_by texts next (Goes handler) = next (value_view texts handler)

abbrev pub IsMadeStep : {T : Type 0} → (T → Type 0) → HeapView → Step T → Type 0
IsMadeStep IsMadeEnd h (Ends end) = IsMadeEnd end
IsMadeStep IsMadeEnd h (Goes handler) = IsMade h handler

abbrev pub IsMadeOption : HeapView → Option Value → Type 0
IsMadeOption h value = IfSome value (λ v. IsMade h v)

abbrev pub value_option_view : List Bytes → Option Value → Option meant.Value
value_option_view texts value = option_map (value_view texts) value
