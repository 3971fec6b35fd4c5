-- What single instructions come to.
use Rattle.std.proofs.Common.{◌≡◌, ℕ, zero, suc, ◌+◌, ◌≤◌, List, [], ◌∷◌, length, set, refl, sym, ap, ◌∙◌, subst, ◌⊎◌, inl, inr, Some, Ok, ◌-◌, true, false, arith}
use Rattle.std.specs.Prelude.{ℤ}
use Rattle.std.specs.List.{AllByRecursion}
use Rattle.lua_value.specs.Arithmetic as arithmetic
use Rattle.lua_meaning.specs.Value as meant
use Rattle.lua_machine.specs.Past.{Past}
use Rattle.lua_meaning.specs.Store.{add_table}
use Rattle.lua_heap.specs.declared.value.Value.{Value}
use Rattle.lua_heap.specs.declared.value.Value.TheVariants.{Table}
use Rattle.lua_heap.specs.Value.{value_view}
use Rattle.lua_heap.specs.Heap.{HeapView, Becomes, Extends}
use Rattle.lua_code.specs.declared.instr.Instr.{Instr}
use Rattle.lua_code.specs.declared.instr.Instr.TheVariants.{NewTable, ForBegin, ForNext}
use Rattle.lua_code.specs.Valid.{Leads, cells_at}
use Rattle.lua_code.specs.State.{on}
use Rattle.lua_code.specs.Act as act
use Rattle.lua_machine.specs.declared.status.Status.TheVariants.{Goes, NoTick}
use Rattle.lua_machine.specs.View.{EngineView, registers_of, run_of, frames_of, state_of, config_of}
use Rattle.lua_machine.specs.Made.{IsEngine}
use Rattle.lua_machine.specs.Ready.{IsCode, IsReady, IsReadyFor, Stays}
use Rattle.lua_machine.specs.Turns.{numbers_at, TurnedOr, HasTurned}
use Rattle.lua_machine.specs.Does.{site_at, step_at, Takes, HasSlot, with_slot}
use Rattle.lua_machine.proofs.Doing.{puts, table_made}
use Rattle.lua_machine.proofs.Turning.{begin_turns, next_turns}
use Rattle.lua_machine.proofs.Keeping.{goes_on, loaded_later}

pub length_set : (xs : List Value) (n : ℕ) (v : Value) → length (set xs n v) ≡ length xs
length_set [] n v = refl
length_set (x ∷ xs) zero v = refl
length_set (x ∷ xs) (suc n) v = ap suc (length_set xs n v)

-- where slots, ticks and the place change alone
pub stays_at : (m : EngineView) (values : List Value) (pc ticks : ℕ) → length m.values ≤ length values → Stays m (record m { values = values; pc = pc; ticks = ticks })
stays_at m values pc ticks le =
    record {
      chunks = refl;
      proto = refl;
      chunk = refl;
      func = refl;
      base = refl;
      cell_base = refl;
      frames = refl;
      functions = λ all. all;
      slots = le;
      cells = omega arith;
    }

module _ (x : Instr) (m : EngineView) (r : IsReadyFor x m) where
  -- a slot gets a value
  pub ready_put : (to : ℕ) (v : Value) → Leads m.proto (cells_at m.proto m.pc) (m.pc + 1) → IsReady (with_slot m to v)
  ready_put to v leads =
      let long = length_set m.values (m.base + to) v in
      goes_on m (with_slot m to v) (cells_at m.proto m.pc) r.ready r.ready.fit.chunks (stays_at m (set m.values (m.base + to) v) (m.pc + 1) m.ticks (omega (arith, long))) r.cells leads

  pub takes_put : (to : ℕ) (v : Value) (w : meant.Value) → Leads m.proto (cells_at m.proto m.pc) (m.pc + 1) → HasSlot m to → w ≡ value_view m.heap.texts v → ((past : Past) → step_at x past m ≡ act.puts (run_of m) (frames_of m) (registers_of m) (state_of past m) to w) → Takes x Goes m (with_slot m to v)
  takes_put to v w leads slot same does =
      record { step = λ past. does past ∙ puts m to v w slot same past; kept = ready_put to v leads }

  -- another instruction comes, with so many ticks left
  pub takes_jump : (pc ticks : ℕ) → Leads m.proto (cells_at m.proto m.pc) pc → ((past : Past) → step_at x past m ≡ on (config_of past (record m { pc = pc; ticks = ticks }))) → Takes x Goes m (record m { pc = pc; ticks = ticks })
  takes_jump pc ticks leads does =
      record {
        step = does;
        kept = goes_on m (record m { pc = pc; ticks = ticks }) (cells_at m.proto m.pc) r.ready r.ready.fit.chunks (stays_at m m.values pc ticks (omega arith)) r.cells leads;
      }

  -- a turn of a loop, or its end
  pub takes_turned : (new : EngineView) (body exit : ℕ) → HasTurned body exit m new → Leads m.proto (cells_at m.proto m.pc) body → Leads m.proto (cells_at m.proto m.pc) exit → ((past : Past) → step_at x past m ≡ on (config_of past new)) → Takes x Goes m new
  takes_turned new body exit t at_body at_exit does =
      let long = t.long in
      record {
        step = does;
        kept = subst IsReady (sym t.is)
            (goes_on m (record m { values = t.values; pc = t.pc; ticks = t.ticks }) (cells_at m.proto m.pc) r.ready r.ready.fit.chunks (stays_at m t.values t.pc t.ticks (omega (arith, long))) r.cells (either t.place));
      }
    where
      either : (t.pc ≡ body) ⊎ (t.pc ≡ exit) → Leads m.proto (cells_at m.proto m.pc) t.pc
      either (inl e) = subst (Leads m.proto (cells_at m.proto m.pc)) (sym e) at_body
      either (inr e) = subst (Leads m.proto (cells_at m.proto m.pc)) (sym e) at_exit

-- a new table
pub takes_table : (m : EngineView) (h : HeapView) (to id : ℕ) → IsEngine m → IsReadyFor (NewTable to) m → id ≡ length m.heap.tables → Becomes m.heap h add_table → Extends m.heap h → Takes (NewTable to) Goes m (with_slot (record m { heap = h }) to (Table id))
takes_table m h to id is r same b more =
    let slots : m.base + suc to ≤ length m.values = r.slots in
    let long = length_set m.values (m.base + to) (Table id) in
    record {
      step = table_made m h to id (omega (arith, slots)) same b;
      kept = goes_on m (with_slot (record m { heap = h }) to (Table id)) (cells_at m.proto m.pc) r.ready (loaded_later m.heap h more m.chunks is.chunks r.ready.fit.chunks)
          (record {
            chunks = refl;
            proto = refl;
            chunk = refl;
            func = refl;
            base = refl;
            cell_base = refl;
            frames = refl;
            functions = λ all. subst (AllByRecursion (IsCode m.chunks)) (sym b.functions) all;
            slots = omega (arith, long);
            cells = omega arith;
          }) r.cells r.leads;
    }

-- the same, where the engine is seen through its fields
pub takes_table_of : (e m : EngineView) → e ≡ m → (h : HeapView) (to id : ℕ) → IsEngine e → IsReadyFor (NewTable to) m → id ≡ length e.heap.tables → Becomes e.heap h add_table → Extends e.heap h → Takes (NewTable to) Goes m (with_slot (record e { heap = h }) to (Table id))
takes_table_of e m seen h to id is r same b more =
    subst (λ (v : EngineView). Takes (NewTable to) Goes v (with_slot (record e { heap = h }) to (Table id))) seen
    (takes_table e h to id is (subst (IsReadyFor (NewTable to)) (sym seen) r) same b more)

-- a loop's numbers are tested, and a turn begins or none
module _ (at count : ℕ) (m new : EngineView) (n limit step : ℤ) where
  pub begins_so : IsReadyFor (ForBegin at count) m → numbers_at m at ≡ Some (n, limit, step) → TurnedOr true at (m.pc + 1) (m.pc + 1 + count) n limit step m new → HasTurned (m.pc + 1) (m.pc + 1 + count) m new → Takes (ForBegin at count) Goes m new
  begins_so r numbers turned moved =
      takes_turned (ForBegin at count) m r new (m.pc + 1) (m.pc + 1 + count) moved r.leads.0 r.leads.1
      (λ past. begin_turns m at count (site_at m.proto m.pc) n limit step numbers past ∙ turned past)

  -- no tick is left for it
  pub begins_not : numbers_at m at ≡ Some (n, limit, step) → TurnedOr false at (m.pc + 1) (m.pc + 1 + count) n limit step m m → Takes (ForBegin at count) NoTick m m
  begins_not numbers turned = record { step = λ past. begin_turns m at count (site_at m.proto m.pc) n limit step numbers past ∙ turned past; kept = tt }

module _ (at count : ℕ) (m new : EngineView) (n limit step next : ℤ) where
  pub counts_so : IsReadyFor (ForNext at count) m → numbers_at m at ≡ Some (n, limit, step) → arithmetic.add n step ≡ Ok next → TurnedOr true at (m.pc - count) (m.pc + 1) next limit step m new → HasTurned (m.pc - count) (m.pc + 1) m new → Takes (ForNext at count) Goes m new
  counts_so r numbers sum turned moved =
      takes_turned (ForNext at count) m r new (m.pc - count) (m.pc + 1) moved r.leads.2 r.leads.0
      (λ past. next_turns m at count n limit step next numbers sum past ∙ turned past)

  pub counts_not : numbers_at m at ≡ Some (n, limit, step) → arithmetic.add n step ≡ Ok next → TurnedOr false at (m.pc - count) (m.pc + 1) next limit step m m → Takes (ForNext at count) NoTick m m
  counts_not numbers sum turned = record { step = λ past. next_turns m at count n limit step next numbers sum past ∙ turned past; kept = tt }
