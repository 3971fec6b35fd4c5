-- What single instructions change before the next one comes.
use Rattle.std.specs.Prelude.{◌≡◌, ℕ, zero, suc, ◌+◌, List, [], ◌∷◌, map}
use Rattle.lua_meaning.specs.Value as meant
use Rattle.lua_machine.specs.Past.{Past}
use Rattle.lua_meaning.specs.Store.{Store, set_cell, raw_set}
use Rattle.lua_meaning.specs.Tables.{set_items}
use Rattle.lua_heap.specs.declared.value.Value.{Value}
use Rattle.lua_heap.specs.Value.{value_view}
use Rattle.lua_heap.specs.Heap.{HeapView, Becomes, Extends}
use Rattle.lua_code.specs.declared.instr.Instr.{Instr}
use Rattle.lua_code.specs.Valid.{Leads, cells_at}
use Rattle.lua_code.specs.State.{Step}
use Rattle.lua_code.specs.Act as act
use Rattle.lua_machine.specs.declared.status.Status.{Status}
use Rattle.lua_machine.specs.View.{EngineView, cell_at, slots_view, proto_at, run_of, frames_of, registers_of, state_of}
use Rattle.lua_machine.specs.Ready.{IsReadyFor}
use Rattle.lua_machine.specs.Does.{site_at, step_at, Takes}

-- the store changed, and the next instruction comes
pub record HasStored (change : Store → Store) (old new : EngineView) : Type 0 where
  pub heap : HeapView
  pub is : new ≡ record old { heap = heap; pc = old.pc + 1 }
  pub becomes : Becomes old.heap heap change
  pub extends : Extends old.heap heap

-- a cell of the running function gets a value
abbrev pub cell_change : (cell : ℕ) → meant.Value → EngineView → Store → Store
cell_change cell v m s = set_cell s (cell_at m.cells (m.cell_base + cell)) v

-- a value that is a table gets items from a number on
abbrev pub filled : (number : ℕ) → List meant.Value → meant.Value → Store → Store
filled number vs target s = act.in_table (λ t s. set_items t number vs s) target s

-- so does what stands in a slot
abbrev pub items_change : (table number : ℕ) → List meant.Value → EngineView → Store → Store
items_change table number vs m s =
    filled number vs (slots_view m.heap.texts m.values (m.base + table)) s

-- a table gets a value for a key
abbrev pub raw_change : (table : ℕ) → (key value : Value) → EngineView → Store → Store
raw_change table key value m s =
    raw_set s table (value_view m.heap.texts key) (value_view m.heap.texts value)

-- the table in a slot gets a field
abbrev pub new_field_step : (table : ℕ) → (key value : Value) → EngineView → Past → Step
new_field_step table key value m past =
    act.sets_new (run_of m) (frames_of m) (registers_of m) (state_of past m) (site_at m.proto m.pc)
    (slots_view m.heap.texts m.values (m.base + table)) (value_view m.heap.texts key)
    (value_view m.heap.texts value)

-- a table gets one
abbrev pub raw_step : (table : ℕ) → (key value : Value) → EngineView → Past → Step
raw_step table key value m past =
    act.sets_raw (run_of m) (frames_of m) (registers_of m) (state_of past m) (site_at m.proto m.pc)
    table (value_view m.heap.texts key) (value_view m.heap.texts value)

-- a list with an item at a place, or behind its last one
abbrev pub with_cell : List ℕ → ℕ → ℕ → List ℕ
with_cell [] at id = id ∷ []
with_cell (c ∷ cells) zero id = id ∷ cells
with_cell (c ∷ cells) (suc at) id = c ∷ with_cell cells at id

-- the cells of the running function that a function of its chunk holds
abbrev pub held_cells : EngineView → ℕ → List ℕ
held_cells m n = map (λ c. cell_at m.cells (m.cell_base + c)) (proto_at m.chunks m.chunk n).captures

-- each instruction that does this and leads to the next one came to a status
abbrev pub EachTakes : (Past → Step) → Status → EngineView → EngineView → Type 0
EachTakes does status old new =
    (x : Instr) → IsReadyFor x old → Leads old.proto (cells_at old.proto old.pc) (old.pc + 1) →
    ((past : Past) → step_at x past old ≡ does past) → Takes x status old new
