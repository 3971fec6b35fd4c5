-- Instructions that change the store, and those that raise an error.
use Rattle.std.proofs.Common.{◌≡◌, ℕ, ◌+◌, List, refl, sym, ap, ◌∙◌, subst, arith}
use Rattle.std.specs.Prelude.{Result, Ok, Err, IfOk}
use Rattle.std.specs.List.{AllByRecursion}
use Rattle.lua_tree.specs.Tree.{Bytes}
use Rattle.lua_meaning.specs.Value as meant
use Rattle.lua_machine.specs.Past.{Past}
use Rattle.lua_meaning.specs.Store.{Store, set_cell}
use Rattle.lua_heap.specs.declared.value.Value.{Value}
use Rattle.lua_heap.specs.Value.{value_view}
use Rattle.lua_heap.specs.Heap.{HeapView, store_of, Becomes, Extends}
use Rattle.lua_code.specs.declared.instr.Instr.{Instr}
use Rattle.lua_code.specs.Valid.{Leads, cells_at}
use Rattle.lua_code.specs.State.{Config, Step, on}
use Rattle.lua_code.specs.Frames.{raised}
use Rattle.lua_code.specs.Act as act
use Rattle.lua_machine.specs.declared.status.Status.{Status}
use Rattle.lua_machine.specs.declared.status.Status.TheVariants.{Goes, Raises}
use Rattle.lua_machine.specs.View.{EngineView, cell_at, registers_of, run_of, frames_of, state_of, config_in}
use Rattle.lua_machine.specs.Ready.{IsCode, IsLoaded, IsReadyFor}
use Rattle.lua_machine.specs.Does.{site_at, step_at, at_pc, Takes}
use Rattle.lua_machine.specs.Changes.{HasStored, cell_change, EachTakes}
use Rattle.lua_machine.specs.Errors.{Raised}
use Rattle.lua_machine.proofs.Doing.{becomes_config}
use Rattle.lua_machine.proofs.Keeping.{goes_on}

-- ---- the store changed

module _ (e m : EngineView) (seen : e ≡ m) (h : HeapView) where
  pub stored_of : (change : Store → Store) → Becomes e.heap h change → Extends e.heap h → HasStored change m (record e { heap = h; pc = e.pc + 1 })
  stored_of change b more =
      record {
        heap = h;
        is = ap (λ (v : EngineView). record v { heap = h; pc = v.pc + 1 }) seen;
        becomes = subst (λ (v : EngineView). Becomes v.heap h change) seen b;
        extends = subst (λ (v : EngineView). Extends v.heap h) seen more;
      }

  pub cell_stored : (cell id : ℕ) (v : Value) → id ≡ cell_at m.cells (m.cell_base + cell) → Becomes e.heap h (λ s. set_cell s id (value_view e.heap.texts v)) → Extends e.heap h → HasStored (cell_change cell (value_view m.heap.texts v) m) m (record e { heap = h; pc = e.pc + 1 })
  cell_stored cell id v same b more =
      stored_of (cell_change cell (value_view m.heap.texts v) m)
      (subst (λ (w : meant.Value). Becomes e.heap h (cell_change cell w m)) (ap (λ (y : EngineView). value_view y.heap.texts v) seen)
      (subst (λ n. Becomes e.heap h (λ s. set_cell s n (value_view e.heap.texts v))) same b)) more

module _ (x : Instr) (m : EngineView) (r : IsReadyFor x m) where
  -- and the next instruction comes
  pub takes_stored : (new : EngineView) (change : Store → Store) → HasStored change m new → Leads m.proto (cells_at m.proto m.pc) (m.pc + 1) → ((past : Past) → step_at x past m ≡ on (config_in m.heap.texts m.heap.functions (change (store_of m.heap)) past (at_pc m (m.pc + 1)))) → Takes x Goes m new
  takes_stored new change s leads does =
      subst (Takes x Goes m) (sym s.is)
      (record {
        step = λ past. does past ∙ ap on (sym (becomes_config (at_pc m (m.pc + 1)) s.heap change past s.becomes));
        kept = goes_on m (record m { heap = s.heap; pc = m.pc + 1 }) (cells_at m.proto m.pc) r.ready (subst (λ (texts : List Bytes). AllByRecursion (IsLoaded texts) m.chunks) (sym s.becomes.texts) r.ready.fit.chunks)
            (record {
              chunks = refl;
              proto = refl;
              chunk = refl;
              func = refl;
              base = refl;
              cell_base = refl;
              frames = refl;
              functions = λ all. subst (AllByRecursion (IsCode m.chunks)) (sym s.becomes.functions) all;
              slots = omega arith;
              cells = omega arith;
            }) r.cells leads;
      })

  -- an error is raised
  pub takes_raised : (new : EngineView) (text : Bytes) (v : Value) → Raised text v m new → ((past : Past) → step_at x past m ≡ act.fault (run_of m) (frames_of m) (registers_of m) (state_of past m) (site_at m.proto m.pc) text) → Takes x (Raises v) m new
  takes_raised new text v s does =
      record {
        step = λ past.
            does past
            ∙ ap (λ (w : meant.Value). raised (frames_of m) (registers_of m) w (state_of past m)) (sym s.text_is)
            ∙ ap (λ (c : Config). raised c.frames c.registers (value_view new.heap.texts v) c.state) (sym (s.same past));
        kept = (s.made, s.fit);
      }

-- an instruction that hands on
pub takes_each : {E : Type 0} (x : Instr) (old new : EngineView) (does : Past → Step) (o : Result Status E) → IfOk o (λ status. EachTakes does status old new) → IsReadyFor x old → Leads old.proto (cells_at old.proto old.pc) (old.pc + 1) → ((past : Past) → step_at x past old ≡ does past) → IfOk o (λ status. Takes x status old new)
takes_each x old new does (Ok status) each r leads same = each x r leads same
takes_each x old new does (Err e) each r leads same = each
