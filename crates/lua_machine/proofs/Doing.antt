-- What a change of the machine's is to the definitions.
use Rattle.std.proofs.Common.{◌≡◌, ℕ, zero, suc, ◌+◌, ◌<◌, List, [], ◌∷◌, length, set, Bool, true, false, refl, sym, ap, ◌∙◌, arith}
use Rattle.std.proofs.lemmas.Bool.{eq-eqb, eqb-true}
use Rattle.std.specs.Prelude.{◌==◌, if◌then◌else◌, Option, None, Some, IfSome}
use Rattle.std.specs.List.{AllByRecursion}
use Rattle.std.proofs.lemmas.List.{length-map}
use Rattle.lua_tree.specs.Tree.{Bytes}
use Rattle.lua_meaning.specs.Value as meant
use Rattle.lua_meaning.specs.Value.{num}
use Rattle.lua_meaning.specs.Store.{Store, set_cell, add_table}
use Rattle.lua_machine.specs.Past.{Past}
use Rattle.lua_heap.specs.declared.value.Value.{Value}
use Rattle.lua_heap.specs.declared.value.Value.TheVariants.{Table, Str}
use Rattle.lua_heap.specs.Value.{value_view, IsCounted}
use Rattle.lua_heap.specs.Heap.{HeapView, store_of, table_view, counts, IsMade, Becomes, Extends}
use Rattle.lua_heap.proofs.Callers.{IsMade-later}
use Rattle.lua_code.specs.Instr as i
use Rattle.lua_code.specs.Instr.{Site, binary, get_field, slot}
use Rattle.lua_code.specs.Doing.{Doing, gives}
use Rattle.lua_code.specs.State.{put, Config, on}
use Rattle.lua_code.specs.Act as act
use Rattle.lua_operators.proofs.Callers.{AreEvents-later}
use Rattle.lua_machine.specs.declared.module.Module.{Module}
use Rattle.lua_machine.specs.View.{EngineView, value_at, cell_at, slots_view, registers_of, run_of, frames_of, state_in, state_of, config_in, config_of}
use Rattle.lua_machine.specs.Made.{AreMade, IsMadeChunk, IsMadeModule, IsEngine}
use Rattle.lua_machine.specs.Does.{with_slot, at_pc, Did}

-- ---- lists

pub value_set_same : (xs : List Value) (n : ℕ) (x : Value) → n < length xs → value_at (set xs n x) n ≡ x
value_set_same [] n x lt = absurd (let e : ⊥ = omega (arith, lt) in e)
value_set_same (y ∷ xs) zero x lt = refl
value_set_same (y ∷ xs) (suc n) x lt = value_set_same xs n x (omega (arith, lt))

pub value_set_other : (xs : List Value) (n k : ℕ) (x : Value) → (k ≡ n → ⊥) → value_at (set xs n x) k ≡ value_at xs k
value_set_other [] n k x other = refl
value_set_other (y ∷ xs) zero zero x other = absurd (other refl)
value_set_other (y ∷ xs) zero (suc k) x other = refl
value_set_other (y ∷ xs) (suc n) zero x other = refl
value_set_other (y ∷ xs) (suc n) (suc k) x other = value_set_other xs n k x (λ e. other (ap suc e))

module _ (texts : List Bytes) (xs : List Value) (n : ℕ) (x : Value) (lt : n < length xs) where
  at_each : (k : ℕ) (b : Bool) → (k == n) ≡ b → (if b then value_view texts x else slots_view texts xs k) ≡ slots_view texts (set xs n x) k
  at_each k true e =
      ap (λ v. value_view texts v) (sym (value_set_same xs n x lt)) ∙ ap (slots_view texts (set xs n x)) (sym (eqb-true k n e))
  at_each k false e = ap (value_view texts) (sym (value_set_other xs n k x (λ same. differ (sym e ∙ eq-eqb k n same))))
    where
      differ : false ≡ true → ⊥
      differ h = cc

  -- a slot that gets a value
  pub slots_set : put (slots_view texts xs) n (value_view texts x) ≡ slots_view texts (set xs n x)
  slots_set = λ i k. at_each k (k == n) refl i

all_set : (P : Value → Type 0) (xs : List Value) (n : ℕ) (x : Value) → AllByRecursion P xs → P x → AllByRecursion P (set xs n x)
all_set P [] n x all own = tt
all_set P (y ∷ xs) zero x all own = (own, all.1)
all_set P (y ∷ xs) (suc n) x all own = (all.0, all_set P xs n x all.1 own)

all_at : (P : Value → Type 0) (xs : List Value) (n : ℕ) → n < length xs → AllByRecursion P xs → P (value_at xs n)
all_at P [] n lt all = absurd (let e : ⊥ = omega (arith, lt) in e)
all_at P (x ∷ xs) zero lt all = all.0
all_at P (x ∷ xs) (suc n) lt all = all_at P xs n (omega (arith, lt)) all.1

pub made_at : (h : HeapView) (xs : List Value) (n : ℕ) → n < length xs → AreMade h xs → IsMade h (value_at xs n)
made_at h xs n lt all = all_at (IsCounted (counts h)) xs n lt all

pub with_slot_is : (m : EngineView) (n : ℕ) (v : Value) → IsEngine m → IsMade m.heap v → IsEngine (with_slot m n v)
with_slot_is m n v is made =
    record {
      events = is.events;
      extra = is.extra;
      below = is.below;
      values = all_set (IsCounted (counts m.heap)) m.values (m.base + n) v is.values made;
      tail = is.tail;
      extras = is.extras;
      args = is.args;
      cells = is.cells;
      chunks = is.chunks;
      modules = is.modules;
    }

-- ---- steps

-- where a slot gets a value
pub puts : (m : EngineView) (n : ℕ) (v : Value) (w : meant.Value) → m.base + n < length m.values → w ≡ value_view m.heap.texts v → (past : Past) → act.puts (run_of m) (frames_of m) (registers_of m) (state_of past m) n w ≡ on (config_of past (with_slot m n v))
puts m n v w lt same past =
    ap (act.puts (run_of m) (frames_of m) (registers_of m) (state_of past m) n) same
    ∙ ap (λ (slots : ℕ → meant.Value). on (record {
      active = (config_of past (at_pc m (m.pc + 1))).active;
      frames = frames_of m;
      registers = record { slots = slots; cells = (registers_of m).cells; tail = (registers_of m).tail };
      state = state_of past m;
    })) (slots_set m.heap.texts m.values (m.base + n) v lt)

-- ---- a heap that changes

module _ {X : Type 0} where
  weaker : (P Q : X → Type 0) (xs : List X) → ((x : X) → P x → Q x) → AllByRecursion P xs → AllByRecursion Q xs
  weaker P Q [] f all = tt
  weaker P Q (x ∷ xs) f all = (f x all.0, weaker P Q xs f all.1)

-- a machine whose heap has made more
pub later_at : (m : EngineView) (h : HeapView) (pc : ℕ) → Extends m.heap h → IsEngine m → IsEngine (record m { heap = h; pc = pc })
later_at m h pc more is =
    record {
      events = AreEvents-later m.heap h more m.events is.events;
      extra = is.extra;
      below = is.below;
      values = values m.values is.values;
      tail = values m.tail is.tail;
      extras = values m.extras is.extras;
      args = values m.args is.args;
      cells = weaker (λ (c : ℕ). c < length m.heap.cells) (λ (c : ℕ). c < length h.cells) m.cells (λ c lt. let le = more.cells in omega (arith, lt, le)) is.cells;
      chunks = weaker (IsMadeChunk m.heap) (IsMadeChunk h) m.chunks (λ x all. weaker (AreMade m.heap) (AreMade h) x.constants.items values all) is.chunks;
      modules = weaker (IsMadeModule m.heap) (IsMadeModule h) m.modules named is.modules;
    }
  where
    values : (vs : List Value) → AreMade m.heap vs → AreMade h vs
    values vs all = weaker (IsCounted (counts m.heap)) (IsCounted (counts h)) vs (λ v made. IsMade-later m.heap h more v made) all

    loaded : (o : Option Value) → IfSome o (IsCounted (counts m.heap)) → IfSome o (IsCounted (counts h))
    loaded None made = tt
    loaded (Some v) made = IsMade-later m.heap h more v made

    named : (x : Module) → IsMadeModule m.heap x → IsMadeModule h x
    named x made = record { name = IsMade-later m.heap h more (Str x.name) made.name; value = loaded x.value made.value }

-- what it is to the definitions, where the heap's strings and functions stay
pub becomes_config : (m : EngineView) (h : HeapView) (change : Store → Store) (past : Past) → Becomes m.heap h change → config_of past (record m { heap = h }) ≡ config_in m.heap.texts m.heap.functions (change (store_of m.heap)) past m
becomes_config m h change past b =
    ap (λ t. config_in t h.functions (store_of h) past m) b.texts
    ∙ ap (λ f. config_in m.heap.texts f (store_of h) past m) b.functions
    ∙ ap (λ s. config_in m.heap.texts m.heap.functions s past m) b.store

-- where a cell is set
pub cell_set : (m : EngineView) (h : HeapView) (cell from id : ℕ) (v : Value) → id ≡ cell_at m.cells (m.cell_base + cell) → v ≡ value_at m.values (m.base + from) → Becomes m.heap h (λ s. set_cell s id (value_view m.heap.texts v)) → Did (i.set_cell cell (slot from)) m (record m { heap = h; pc = m.pc + 1 })
cell_set m h cell from id v same_id same_value b past =
    ap (λ n. on (config_in m.heap.texts m.heap.functions (set_cell (store_of m.heap) n (slots_view m.heap.texts m.values (m.base + from))) past (at_pc m (m.pc + 1)))) (sym same_id)
    ∙ ap (λ w. on (config_in m.heap.texts m.heap.functions (set_cell (store_of m.heap) id (value_view m.heap.texts w)) past (at_pc m (m.pc + 1)))) (sym same_value)
    ∙ ap on (sym (becomes_config (at_pc m (m.pc + 1)) h (λ s. set_cell s id (value_view m.heap.texts v)) past b))

-- where a table is made
pub table_made : (m : EngineView) (h : HeapView) (to id : ℕ) → m.base + to < length m.values → id ≡ length m.heap.tables → Becomes m.heap h add_table → Did (i.new_table to) m (with_slot (record m { heap = h }) to (Table id))
table_made m h to id lt same_id b past =
    ap (λ n. on (going n)) (length-map m.heap.tables (table_view m.heap.texts) ∙ sym same_id)
    ∙ ap (λ (slots : ℕ → meant.Value). on (with_slots slots)) (slots_set m.heap.texts m.values (m.base + to) (Table id) lt)
    ∙ ap on (sym (becomes_config (with_slot m to (Table id)) h add_table past b))
  where
    with_slots : (ℕ → meant.Value) → Config
    with_slots slots = record {
      active = (config_of past (at_pc m (m.pc + 1))).active;
      frames = frames_of m;
      registers = record { slots = slots; cells = (registers_of m).cells; tail = (registers_of m).tail };
      state = state_in m.heap.texts m.heap.functions (add_table (store_of m.heap)) past m;
    }

    going : ℕ → Config
    going n = with_slots (put (slots_view m.heap.texts m.values) (m.base + to) (meant.table n))

-- where an operator gives a value
pub gives_did : (m : EngineView) (s : Site) (to : ℕ) (d : Doing) (v : Value) → m.base + to < length m.values → d ≡ gives (value_view m.heap.texts v) → (past : Past) → act.does (run_of m) (frames_of m) (registers_of m) (state_of past m) s to d ≡ on (config_of past (with_slot m to v))
gives_did m s to d v lt e past =
    ap (λ d. act.does (run_of m) (frames_of m) (registers_of m) (state_of past m) s to d) e ∙ puts m to v _ lt refl past
