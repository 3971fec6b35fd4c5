-- Fields that are set.
use Rattle.std.proofs.Common.{◌≡◌, ℕ, ◌+◌, List, [], ◌∷◌, ◌++◌, sym, ap, ◌∙◌, subst}
use Rattle.std.specs.Prelude.{Result, Ok, Err, IfOk, codes}
use Rattle.lua_tree.specs.Tree.{Bytes}
use Rattle.lua_meaning.specs.Value as meant
use Rattle.lua_meaning.specs.Text.{type_name}
use Rattle.lua_meaning.specs.Fault.{index_text}
use Rattle.lua_meaning.specs.Handlers as handlers
use Rattle.lua_meaning.specs.Handlers.{Setting}
use Rattle.lua_machine.specs.Past.{Past}
use Rattle.lua_heap.specs.declared.value.Value.{Value}
use Rattle.lua_heap.specs.declared.index.Store.{Store}
use Rattle.lua_heap.specs.declared.index.Store.TheVariants as found
use Rattle.lua_heap.specs.Value.{value_view}
use Rattle.lua_heap.specs.Heap.{store_of}
use Rattle.lua_heap.specs.Index.{setting_view}
use Rattle.lua_code.specs.declared.instr.Instr.{Instr}
use Rattle.lua_code.specs.State.{Step}
use Rattle.lua_code.specs.Act as act
use Rattle.lua_code.specs.Valid.{Leads, cells_at}
use Rattle.lua_operators.specs.declared.type_name.TypeName.{TypeName}
use Rattle.lua_operators.specs.declared.fault.Fault.TheVariants.{Index, IndexLoop}
use Rattle.lua_operators.specs.Faults.{type_text, fault_text}
use Rattle.lua_machine.specs.declared.status.Status.{Status}
use Rattle.lua_machine.specs.declared.status.Status.TheVariants.{Raises}
use Rattle.lua_machine.specs.View.{EngineView, registers_of, run_of, frames_of, state_of}
use Rattle.lua_machine.specs.Ready.{IsReadyFor}
use Rattle.lua_machine.specs.Does.{site_at, step_at, Takes}
use Rattle.lua_machine.specs.Changes.{raw_step, EachTakes}
use Rattle.lua_machine.specs.Errors.{Raised}
use Rattle.lua_machine.specs.Settled.{storing_step, StoresAs, setting_of, Sets}
use Rattle.lua_machine.specs.declared.frame.Wants.TheVariants.{Nothing}
use Rattle.lua_machine.specs.Handling.{handling_step, Handles}
use Rattle.lua_machine.proofs.Called.{came_as}
use Rattle.lua_machine.proofs.Storing.{takes_raised, takes_each}

-- the error of a value without fields
pub raised_unindexed : {E : Type 0} (o : Result Value E) (m new : EngineView) (v : Value) (name : TypeName) → ((texts : List Bytes) → type_text name ≡ type_name (value_view texts v)) → IfOk o (λ error. Raised (fault_text (Index name)) error m new) → IfOk o (λ error. Raised (index_text (value_view m.heap.texts v)) error m new)
raised_unindexed o m new v name named c =
    subst (λ (t : Bytes). IfOk o (λ error. Raised t error m new))
    (ap (λ (b : Bytes). codes "attempt to index a " ++ (b ++ codes " value")) (named m.heap.texts)) c

-- ---- by what setting a field comes to

module _ (m : EngineView) (key value : Value) (to : Store) where
  abbrev Stored : Status → EngineView → Type 0
  Stored status new = StoresAs (setting_view m.heap.texts to) key value status m new

  abbrev stores_by : Store → Past → Step
  stores_by s past = storing_step (setting_view m.heap.texts s) key value m past

  -- a table gets the raw value
  pub stores_table : {E : Type 0} (o : Result Status E) (new : EngineView) (id : ℕ) → to ≡ found.Raw id → IfOk o (λ status. EachTakes (raw_step id key value m) status m new) → IfOk o (λ status. Stored status new)
  stores_table (Ok status) new id same each = λ x r leads does. each x r leads (λ past. does past ∙ ap (λ (s : Store). stores_by s past) same)
  stores_table (Err error) new id same each = each

  -- a value without fields
  pub stores_unindexed : (new : EngineView) (v error : Value) → to ≡ found.Not v → Raised (index_text (value_view m.heap.texts v)) error m new → Stored (Raises error) new
  stores_unindexed new v error same raised = λ x r leads does. takes_raised x m r new (index_text (value_view m.heap.texts v)) error raised (λ past. does past ∙ ap (λ (s : Store). stores_by s past) same)

  -- too long a chain
  pub stores_endless : (new : EngineView) (error : Value) → to ≡ found.Loop → Raised (fault_text IndexLoop) error m new → Stored (Raises error) new
  stores_endless new error same raised = λ x r leads does. takes_raised x m r new (codes "index loop") error raised (λ past. does past ∙ ap (λ (s : Store). stores_by s past) same)

  -- a handler is called
  pub stores_asked : {E : Type 0} (o : Result Status E) (new : EngineView) (h at : Value) → to ≡ found.Ask h at → IfOk o (λ status. Handles Nothing h (at ∷ key ∷ value ∷ []) status m new) → IfOk o (λ status. Stored status new)
  stores_asked (Ok status) new h at same c = λ x r leads does. came_as (handling_step Nothing h (at ∷ key ∷ value ∷ []) m) (λ past. step_at x past m) status new (λ past. does past ∙ ap (λ (s : Store). stores_by s past) same) c
  stores_asked (Err error) new h at same c = c

-- a field is set as its setting says
pub sets_found : {E : Type 0} (o : Result Status E) (e m new : EngineView) → e ≡ m → (base key value : Value) (to : Store) → setting_view e.heap.texts to ≡ setting_of base key e → IfOk o (λ status. StoresAs (setting_view m.heap.texts to) key value status m new) → IfOk o (λ status. Sets base key value status m new)
sets_found o e m new seen base key value to is c =
    subst (λ (s : Setting). IfOk o (λ status. StoresAs s key value status m new))
    (subst (λ (y : EngineView). setting_view y.heap.texts to ≡ setting_of base key y) seen is) c

-- ---- instructions that set one

module _ {E : Type 0} (o : Result Status E) (x : Instr) (m new : EngineView) (r : IsReadyFor x m) (leads : Leads m.proto (cells_at m.proto m.pc) (m.pc + 1)) where
  abbrev set_with : (b k v : meant.Value) → Past → Step
  set_with b k v past = act.sets (run_of m) (frames_of m) (registers_of m) (state_of past m) (site_at m.proto m.pc) k v (handlers.setting (store_of m.heap) b k)

  pub takes_set : (base key value : Value) (b k v : meant.Value) → value_view m.heap.texts base ≡ b → value_view m.heap.texts key ≡ k → value_view m.heap.texts value ≡ v → ((past : Past) → step_at x past m ≡ set_with b k v past) → IfOk o (λ status. Sets base key value status m new) → IfOk o (λ status. Takes x status m new)
  takes_set base key value b k v is_base is_key is_value so c =
      takes_each x m new (storing_step (setting_of base key m) key value m) o c r leads
      (λ past.
      so past
      ∙ ap (λ (w : meant.Value). set_with w k v past) (sym is_base)
      ∙ ap (λ (w : meant.Value). set_with (value_view m.heap.texts base) w v past) (sym is_key)
      ∙ ap (λ (w : meant.Value). set_with (value_view m.heap.texts base) (value_view m.heap.texts key) w past) (sym is_value))
