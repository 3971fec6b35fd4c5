-- Fields and items of tables that are made.
use Rattle.std.proofs.Common.{◌≡◌, ℕ, zero, suc, ◌+◌, ◌<◌, ◌≤◌, List, [], ◌∷◌, ◌++◌, length, true, refl, sym, ap, ◌∙◌, subst, arith}
use Rattle.std.specs.Prelude.{pos, nat_le, map, unwrap_or, Some, None, Result, Ok, Err, IfOk, codes, if◌then◌else◌}
use Rattle.lua_value.specs.Num.{IsNum}
use Rattle.lua_meaning.specs.Value as meant
use Rattle.lua_meaning.specs.Store.{Store, raw_set, position_key}
use Rattle.lua_meaning.specs.Tables.{set_items}
use Rattle.lua_heap.specs.declared.value.Value.{Value}
use Rattle.lua_heap.specs.declared.value.Value.TheVariants.{Nil, Bool as Flag, Num, Str, Table, Func, Native, Channel, Thread, Data}
use Rattle.lua_heap.specs.Value.{value_view}
use Rattle.lua_heap.specs.Heap.{HeapView, store_of, Becomes, Extends}
use Rattle.lua_code.specs.Instr as i
use Rattle.lua_code.specs.State.{Registers, Frame, State, Running}
use Rattle.lua_code.specs.Act as act
use Rattle.lua_tree.specs.Tree.{Bytes}
use Rattle.lua_machine.specs.declared.status.Status.{Status}
use Rattle.lua_machine.specs.declared.status.Status.TheVariants.{Goes, Raises}
use Rattle.lua_machine.specs.View.{EngineView, value_at, run_of, frames_of, registers_of, state_of}
use Rattle.lua_machine.specs.Does.{site_at, at_pc, Takes}
use Rattle.lua_machine.specs.Changes.{HasStored, filled, items_change, raw_change, new_field_step, raw_step, EachTakes}
use Rattle.lua_machine.specs.Errors.{Raised}
use Rattle.lua_machine.proofs.Taking.{takes_jump}
use Rattle.lua_machine.proofs.Storing.{stored_of, takes_stored, takes_raised}

-- ---- items of a heap's table

nat_le_true : (n m : ℕ) → n ≤ m → nat_le n m ≡ true
nat_le_true n m le = grind arith

-- a number's key
pub key_is : (n : ℕ) → 0 < n → IsNum (pos n) → position_key n ≡ meant.num (pos n)
key_is zero lt is = absurd (let e : ⊥ = omega (arith, lt) in e)
key_is (suc n) lt is = ap (λ b. unwrap_or (if b then Some (meant.num (pos (suc n))) else None) meant.nil) (nat_le_true (suc n) 99999999999999 is)

pub item_stored : (h k : HeapView) (id n : ℕ) (v : Value) → 0 < n → IsNum (pos n) → Becomes h k (λ s. raw_set s id (meant.num (pos n)) (value_view h.texts v)) → Becomes h k (set_items id n (value_view h.texts v ∷ []))
item_stored h k id n v lt is b = record {
  texts = b.texts;
  functions = b.functions;
  store = b.store ∙ ap (λ key. raw_set (store_of h) id key (value_view h.texts v)) (sym (key_is n lt is));
}

items_more : (t n : ℕ) (vs : List meant.Value) (v : meant.Value) (s : Store) → set_items t n (vs ++ v ∷ []) s ≡ set_items t (n + length vs) (v ∷ []) (set_items t n vs s)
items_more t n [] v s = ap (λ k. set_items t k (v ∷ []) s) (let e : n ≡ n + 0 = omega arith in e)
items_more t n (w ∷ vs) v s =
    items_more t (suc n) vs v (raw_set s t (position_key n) w)
    ∙ ap (λ k. set_items t k (v ∷ []) (set_items t (suc n) vs (raw_set s t (position_key n) w))) (let e : suc n + length vs ≡ n + suc (length vs) = omega arith in e)

-- a heap whose table got so many items
pub record HasItems (first heap : HeapView) (id n : ℕ) (values : List Value) : Type 0 where
  pub becomes : Becomes first heap (set_items id n (map (value_view first.texts) values))
  pub extends : Extends first heap

map_length : (f : Value → meant.Value) (vs : List Value) → length (map f vs) ≡ length vs
map_length f [] = refl
map_length f (v ∷ vs) = ap suc (map_length f vs)

map_last : (f : Value → meant.Value) (vs : List Value) (v : Value) → map f (vs ++ v ∷ []) ≡ map f vs ++ f v ∷ []
map_last f [] v = refl
map_last f (w ∷ vs) v = ap (λ ws. f w ∷ ws) (map_last f vs v)

pub items_next : (first heap later : HeapView) (id n : ℕ) (values : List Value) (v : Value) → HasItems first heap id n values → Becomes heap later (set_items id (n + length values) (value_view heap.texts v ∷ [])) → Extends first later → HasItems first later id n (values ++ v ∷ [])
items_next first heap later id n values v so b more =
    record {
      becomes = record {
        texts = b.texts ∙ so.becomes.texts;
        functions = b.functions ∙ so.becomes.functions;
        store =
            b.store
            ∙ ap (λ (texts : List Bytes). set_items id (n + length values) (value_view texts v ∷ []) (store_of heap)) so.becomes.texts
            ∙ ap (λ s. set_items id (n + length values) (value_view first.texts v ∷ []) s) so.becomes.store
            ∙ ap (λ k. set_items id (n + k) (value_view first.texts v ∷ []) (set_items id n (map (value_view first.texts) values) (store_of first))) (sym (map_length (value_view first.texts) values))
            ∙ sym (items_more id n (map (value_view first.texts) values) (value_view first.texts v) (store_of first))
            ∙ ap (λ vs. set_items id n vs (store_of first)) (sym (map_last (value_view first.texts) values v));
      };
      extends = more;
    }

-- ---- what a slot that is a table, or isn't, leads to

module _ (run : Running) (frames : List Frame) (r : Registers) (st : State) (s : i.Site) (texts : List Bytes) where
  -- a key that isn't nil
  pub raw_so : (t : ℕ) (key : Value) (v : meant.Value) → (key ≡ Nil → ⊥) → act.sets_raw run frames r st s t (value_view texts key) v ≡ act.stores run frames r st (raw_set st.store t (value_view texts key) v)
  raw_so t Nil v some = absurd (some refl)
  raw_so t (Flag b) v some = refl
  raw_so t (Num n) v some = refl
  raw_so t (Str id) v some = refl
  raw_so t (Table id) v some = refl
  raw_so t (Func id) v some = refl
  raw_so t (Native f) v some = refl
  raw_so t (Channel n) v some = refl
  raw_so t (Thread n) v some = refl
  raw_so t (Data id) v some = refl

  -- no table
  pub new_passes : (w : Value) (key v : meant.Value) → ((id : ℕ) → w ≡ Table id → ⊥) → act.sets_new run frames r st s (value_view texts w) key v ≡ act.onward run frames r st r st
  new_passes Nil key v other = refl
  new_passes (Flag b) key v other = refl
  new_passes (Num n) key v other = refl
  new_passes (Str id) key v other = refl
  new_passes (Table id) key v other = absurd (other id refl)
  new_passes (Func id) key v other = refl
  new_passes (Native f) key v other = refl
  new_passes (Channel n) key v other = refl
  new_passes (Thread n) key v other = refl
  new_passes (Data id) key v other = refl

-- nothing is changed where it is no table
pub change_passes : (texts : List Bytes) (w : Value) (change : ℕ → Store → Store) (s : Store) → ((id : ℕ) → w ≡ Table id → ⊥) → act.in_table change (value_view texts w) s ≡ s
change_passes texts Nil change s other = refl
change_passes texts (Flag b) change s other = refl
change_passes texts (Num n) change s other = refl
change_passes texts (Str id) change s other = refl
change_passes texts (Table id) change s other = absurd (other id refl)
change_passes texts (Func id) change s other = refl
change_passes texts (Native f) change s other = refl
change_passes texts (Channel n) change s other = refl
change_passes texts (Thread n) change s other = refl
change_passes texts (Data id) change s other = refl

-- ---- what a value gets

pub fill_table : (h k : HeapView) (w : Value) (id n : ℕ) (vs : List meant.Value) → w ≡ Table id → Becomes h k (set_items id n vs) → Becomes h k (filled n vs (value_view h.texts w))
fill_table h k w id n vs is b = subst (λ (x : Value). Becomes h k (filled n vs (value_view h.texts x))) (sym is) b

pub fill_passes : (h : HeapView) (w : Value) (n : ℕ) (vs : List meant.Value) → ((id : ℕ) → w ≡ Table id → ⊥) → Becomes h h (filled n vs (value_view h.texts w))
fill_passes h w n vs other = record {
  texts = refl;
  functions = refl;
  store = sym (change_passes h.texts w (λ t s. set_items t n vs s) (store_of h) other);
}

-- ---- steps

module _ (e m : EngineView) (seen : e ≡ m) (h : HeapView) where
  pub filled_so : (table n : ℕ) (w : Value) (values : List Value) → w ≡ value_at m.values (m.base + table) → Becomes e.heap h (filled n (map (value_view e.heap.texts) values) (value_view e.heap.texts w)) → Extends e.heap h → HasStored (items_change table n (map (value_view m.heap.texts) values) m) m (record e { heap = h; pc = e.pc + 1 })
  filled_so table n w values is b more =
      stored_of e m seen h (items_change table n (map (value_view m.heap.texts) values) m)
      (subst (λ (x : Value). Becomes e.heap h (filled n (map (value_view m.heap.texts) values) (value_view m.heap.texts x))) is
      (subst (λ (y : EngineView). Becomes e.heap h (filled n (map (value_view y.heap.texts) values) (value_view y.heap.texts w))) seen b)) more

  pub rest_filled : (table n : ℕ) (w : Value) (values : List Value) → values ≡ m.tail → w ≡ value_at m.values (m.base + table) → Becomes e.heap h (filled n (map (value_view e.heap.texts) values) (value_view e.heap.texts w)) → Extends e.heap h → HasStored (items_change table n (map (value_view m.heap.texts) m.tail) m) m (record e { heap = h; pc = e.pc + 1 })
  rest_filled table n w values same is b more =
      subst (λ (vs : List Value). HasStored (items_change table n (map (value_view m.heap.texts) vs) m) m (record e { heap = h; pc = e.pc + 1 })) same
      (filled_so table n w values is b more)

  pub raw_stored : (id : ℕ) (key v : Value) → Becomes e.heap h (λ s. raw_set s id (value_view e.heap.texts key) (value_view e.heap.texts v)) → Extends e.heap h → HasStored (raw_change id key v m) m (record e { heap = h; pc = e.pc + 1 })
  raw_stored id key v b more =
      stored_of e m seen h (raw_change id key v m)
      (subst (λ (y : EngineView). Becomes e.heap h (raw_change id key v y)) seen b) more

-- a key that is nil
pub raw_raises : (m new : EngineView) (id : ℕ) (key v error : Value) → key ≡ Nil → Raised (codes "table index is nil") error m new → EachTakes (raw_step id key v m) (Raises error) m new
raw_raises m new id key v error is raised x r leads does =
    takes_raised x m r new (codes "table index is nil") error raised
    (λ past. does past ∙ ap (λ (k : Value). raw_step id k v m past) is)

-- another one
pub raw_takes : (m new : EngineView) (id : ℕ) (key v : Value) → (key ≡ Nil → ⊥) → HasStored (raw_change id key v m) m new → EachTakes (raw_step id key v m) Goes m new
raw_takes m new id key v some stored x r leads does =
    takes_stored x m r new (raw_change id key v m) stored leads
    (λ past. does past ∙ raw_so (run_of m) (frames_of m) (registers_of m) (state_of past m) (site_at m.proto m.pc) m.heap.texts id key (value_view m.heap.texts v) some)

-- a slot that is a table
pub field_takes : {E : Type 0} (m new : EngineView) (table id : ℕ) (w key v : Value) (o : Result Status E) → w ≡ value_at m.values (m.base + table) → w ≡ Table id → IfOk o (λ status. EachTakes (raw_step id key v m) status m new) → IfOk o (λ status. EachTakes (new_field_step table key v m) status m new)
field_takes m new table id w key v (Err e) is is_table each = each
field_takes m new table id w key v (Ok status) is is_table each = λ x r leads does. each x r leads (λ past. does past ∙ ap (λ (y : Value). act.sets_new (run_of m) (frames_of m) (registers_of m) (state_of past m) (site_at m.proto m.pc) (value_view m.heap.texts y) (value_view m.heap.texts key) (value_view m.heap.texts v)) (sym is ∙ is_table))

-- another slot
pub field_passes : (m new : EngineView) (table : ℕ) (w key v : Value) → w ≡ value_at m.values (m.base + table) → ((id : ℕ) → w ≡ Table id → ⊥) → new ≡ at_pc m (m.pc + 1) → EachTakes (new_field_step table key v m) Goes m new
field_passes m new table w key v is other same x r leads does =
    subst (Takes x Goes m) (sym same)
    (takes_jump x m r (m.pc + 1) m.ticks leads
    (λ past.
    does past
    ∙ ap (λ (y : Value). act.sets_new (run_of m) (frames_of m) (registers_of m) (state_of past m) (site_at m.proto m.pc) (value_view m.heap.texts y) (value_view m.heap.texts key) (value_view m.heap.texts v)) (sym is)
    ∙ new_passes (run_of m) (frames_of m) (registers_of m) (state_of past m) (site_at m.proto m.pc) m.heap.texts w (value_view m.heap.texts key) (value_view m.heap.texts v) other))
