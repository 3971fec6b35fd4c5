-- New cells, and functions that hold cells.
use Rattle.std.proofs.Common.{◌≡◌, ℕ, zero, suc, ◌+◌, ◌<◌, ◌≤◌, List, [], ◌∷◌, ◌++◌, length, set, Bool, true, false, refl, sym, ap, ◌∙◌, subst, arith}
use Rattle.std.specs.Prelude.{◌==◌, if◌then◌else◌, map, max}
use Rattle.std.specs.List.{AllByRecursion}
use Rattle.std.proofs.lemmas.Bool.{eq-eqb, eqb-true}
use Rattle.std.proofs.lemmas.List.{length-map}
use Rattle.lua_machine.specs.Past.{Past}
use Rattle.lua_meaning.specs.Store.{Store, add_cell}
use Rattle.lua_heap.specs.declared.value.Value.{Value}
use Rattle.lua_heap.specs.Value.{value_view}
use Rattle.lua_heap.specs.Heap.{HeapView, store_of, Becomes}
use Rattle.lua_code.specs.declared.instr.Instr.TheVariants.{NewCell}
use Rattle.lua_code.specs.State.{put, Config, on}
use Rattle.lua_tree.specs.Tree.{Bytes}
use Rattle.lua_code.specs.Valid.{cells_at}
use Rattle.lua_machine.specs.declared.status.Status.TheVariants.{Goes}
use Rattle.lua_machine.specs.View.{EngineView, value_at, cell_at, registers_of, frames_of, state_in, config_of}
use Rattle.lua_machine.specs.Made.{IsEngine}
use Rattle.lua_machine.specs.Ready.{IsCode, IsLoaded, IsReadyFor}
use Rattle.lua_machine.specs.Does.{at_pc, Takes}
use Rattle.lua_machine.specs.Changes.{with_cell}
use Rattle.lua_machine.proofs.Doing.{becomes_config}
use Rattle.lua_machine.proofs.Keeping.{goes_on}

-- ---- a list with a cell at a place

pub set_with : (cells : List ℕ) (at id : ℕ) → at < length cells → set cells at id ≡ with_cell cells at id
set_with [] at id lt = absurd (let e : ⊥ = omega (arith, lt) in e)
set_with (c ∷ cells) zero id lt = refl
set_with (c ∷ cells) (suc at) id lt = ap (λ cs. c ∷ cs) (set_with cells at id (omega (arith, lt)))

pub push_with : (cells : List ℕ) (at id : ℕ) → at ≡ length cells → cells ++ id ∷ [] ≡ with_cell cells at id
push_with [] at id e = refl
push_with (c ∷ cells) zero id e = absurd (let z : ⊥ = omega (arith, e) in z)
push_with (c ∷ cells) (suc at) id e = ap (λ cs. c ∷ cs) (push_with cells at id (omega (arith, e)))

pub longer_with : (cells : List ℕ) (at id : ℕ) → at ≤ length cells → (length cells ≤ length (with_cell cells at id)) × (suc at ≤ length (with_cell cells at id))
longer_with [] at id le = (omega arith, omega (arith, le))
longer_with (c ∷ cells) zero id le = (omega arith, omega arith)
longer_with (c ∷ cells) (suc at) id le = let rest = longer_with cells at id (omega (arith, le)) in (omega (arith, rest.0), omega (arith, rest.1))

pub all_with : (n : ℕ) (cells : List ℕ) (at id : ℕ) → id < n → AllByRecursion (λ (c : ℕ). c < n) cells → AllByRecursion (λ (c : ℕ). c < n) (with_cell cells at id)
all_with n [] at id lt all = (lt, tt)
all_with n (c ∷ cells) zero id lt all = (lt, all.1)
all_with n (c ∷ cells) (suc at) id lt all = (all.0, all_with n cells at id lt all.1)

same_with : (cells : List ℕ) (at id : ℕ) → at ≤ length cells → cell_at (with_cell cells at id) at ≡ id
same_with [] zero id le = refl
same_with [] (suc at) id le = absurd (let e : ⊥ = omega (arith, le) in e)
same_with (c ∷ cells) zero id le = refl
same_with (c ∷ cells) (suc at) id le = same_with cells at id (omega (arith, le))

other_with : (cells : List ℕ) (at k id : ℕ) → at ≤ length cells → (k ≡ at → ⊥) → cell_at (with_cell cells at id) k ≡ cell_at cells k
other_with [] (suc at) k id le other = absurd (let e : ⊥ = omega (arith, le) in e)
other_with [] zero zero id le other = absurd (other refl)
other_with [] zero (suc k) id le other = refl
other_with (c ∷ cells) zero zero id le other = absurd (other refl)
other_with (c ∷ cells) zero (suc k) id le other = refl
other_with (c ∷ cells) (suc at) zero id le other = refl
other_with (c ∷ cells) (suc at) (suc k) id le other = other_with cells at k id (omega (arith, le)) (λ e. other (ap suc e))

module _ (cells : List ℕ) (at id : ℕ) (le : at ≤ length cells) where
  at_each : (k : ℕ) (b : Bool) → (k == at) ≡ b → (if b then id else cell_at cells k) ≡ cell_at (with_cell cells at id) k
  at_each k true e = sym (same_with cells at id le) ∙ ap (cell_at (with_cell cells at id)) (sym (eqb-true k at e))
  at_each k false e = sym (other_with cells at k id le (λ same. differ (sym e ∙ eq-eqb k at same)))
    where
      differ : false ≡ true → ⊥
      differ h = cc

  pub cells_put : put (cell_at cells) at id ≡ cell_at (with_cell cells at id)
  cells_put = λ i k. at_each k (k == at) refl i

-- the engine with it
pub cells_same : (e m : EngineView) → e ≡ m → (at id : ℕ) (cells : List ℕ) → cells ≡ with_cell e.cells at id → record e { cells = cells } ≡ record m { cells = with_cell m.cells at id }
cells_same e m seen at id cells is =
    ap (λ (cs : List ℕ). record e { cells = cs }) is
    ∙ ap (λ (v : EngineView). record v { cells = with_cell v.cells at id }) seen

-- ---- a new cell

with_cell_is : (m : EngineView) (at id pc : ℕ) → IsEngine m → id < length m.heap.cells → IsEngine (record m { cells = with_cell m.cells at id; pc = pc })
with_cell_is m at id pc is lt =
    record {
      events = is.events;
      extra = is.extra;
      below = is.below;
      values = is.values;
      tail = is.tail;
      extras = is.extras;
      args = is.args;
      cells = all_with (length m.heap.cells) m.cells at id lt is.cells;
      chunks = is.chunks;
      modules = is.modules;
    }

pub put_cell_is : (m : EngineView) (at id : ℕ) → IsEngine m → id < length m.heap.cells → IsEngine (record m { cells = with_cell m.cells at id })
put_cell_is m at id is lt = with_cell_is m at id m.pc is lt

pub takes_new_cell : (m : EngineView) (h : HeapView) (cell from id : ℕ) (v : Value) → IsReadyFor (NewCell cell from) m → v ≡ value_at m.values (m.base + from) → id ≡ length m.heap.cells → Becomes m.heap h (λ s. add_cell s (value_view m.heap.texts v)) → Takes (NewCell cell from) Goes m (record m { heap = h; cells = with_cell m.cells (m.cell_base + cell) id; pc = m.pc + 1 })
takes_new_cell m h cell from id v r is_value is_id b =
    let there = r.cells in
    let below : cell ≤ cells_at m.proto m.pc = r.uses in
    let le : m.cell_base + cell ≤ length m.cells = omega (arith, there, below) in
    let long = longer_with m.cells (m.cell_base + cell) id le in
    let l0 = long.0 in
    let l1 = long.1 in
    let height : m.cell_base + max (cells_at m.proto m.pc) (suc cell) ≤ length (with_cell m.cells (m.cell_base + cell) id) = omega (arith, there, l0, l1) in
    record {
      step = λ past.
          ap (λ (w : Value). on (with_all past (put (cell_at m.cells) (m.cell_base + cell) (length (map (value_view m.heap.texts) m.heap.cells))) (add_cell (store_of m.heap) (value_view m.heap.texts w)))) (sym is_value)
          ∙ ap (λ n. on (with_all past (put (cell_at m.cells) (m.cell_base + cell) n) (add_cell (store_of m.heap) (value_view m.heap.texts v)))) (length-map m.heap.cells (value_view m.heap.texts) ∙ sym is_id)
          ∙ ap (λ (cells : ℕ → ℕ). on (with_all past cells (add_cell (store_of m.heap) (value_view m.heap.texts v)))) (cells_put m.cells (m.cell_base + cell) id le)
          ∙ ap on (sym (becomes_config (record m { cells = with_cell m.cells (m.cell_base + cell) id; pc = m.pc + 1 }) h (λ s. add_cell s (value_view m.heap.texts v)) past b));
      kept = goes_on m (record m { heap = h; cells = with_cell m.cells (m.cell_base + cell) id; pc = m.pc + 1 }) (max (cells_at m.proto m.pc) (suc cell)) r.ready (subst (λ (texts : List Bytes). AllByRecursion (IsLoaded texts) m.chunks) (sym b.texts) r.ready.fit.chunks)
          (record {
            chunks = refl;
            proto = refl;
            chunk = refl;
            func = refl;
            base = refl;
            cell_base = refl;
            frames = refl;
            functions = λ all. subst (AllByRecursion (IsCode m.chunks)) (sym b.functions) all;
            slots = omega arith;
            cells = l0;
          }) height r.leads;
    }
  where
    with_all : Past → (ℕ → ℕ) → Store → Config
    with_all past cells s = record {
      active = (config_of past (at_pc m (m.pc + 1))).active;
      frames = frames_of m;
      registers = record { slots = (registers_of m).slots; cells = cells; tail = (registers_of m).tail };
      state = state_in m.heap.texts m.heap.functions s past m;
    }

-- the same, where the engine is seen through its fields
pub takes_new_cell_of : (e m : EngineView) → e ≡ m → (h : HeapView) (cell from id : ℕ) (v : Value) → IsReadyFor (NewCell cell from) m → v ≡ value_at m.values (m.base + from) → id ≡ length e.heap.cells → Becomes e.heap h (λ s. add_cell s (value_view e.heap.texts v)) → Takes (NewCell cell from) Goes m (record e { heap = h; cells = with_cell e.cells (e.cell_base + cell) id; pc = e.pc + 1 })
takes_new_cell_of e m seen h cell from id v r is_value is_id b =
    subst (λ (y : EngineView). Takes (NewCell cell from) Goes y (record e { heap = h; cells = with_cell e.cells (e.cell_base + cell) id; pc = e.pc + 1 })) seen
    (takes_new_cell e h cell from id v (subst (IsReadyFor (NewCell cell from)) (sym seen) r) (subst (λ (y : EngineView). v ≡ value_at y.values (y.base + from)) (sym seen) is_value) is_id b)
