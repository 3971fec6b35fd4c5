-- Assignments in the machine come to what they mean.
use Rattle.std.proofs.Common.{ℕ, zero, suc, ◌+◌, ◌≡◌, ◌≤◌, ◌<◌, refl, sym, ap, ◌∙◌, subst, List, [], ◌∷◌, length, Option, Some, None, arith, slice_get, length-append}
use Rattle.std.specs.Prelude.{drop}
use Rattle.lua_tree.specs.Tree.{Bytes, Expr, nil, true_, false_, number, str, dots, function, name, index, call, method, table, unary, binary, paren, Exprs, no_exprs, expr_and}
use Rattle.lua_meaning.specs.Value.{Value, first}
use Rattle.lua_meaning.specs.Store.{set_cell}
use Rattle.lua_meaning.specs.World.{World, gives, ◌>>>◌, one}
use Rattle.lua_meaning.specs.Handlers as handlers
use Rattle.lua_meaning.specs.Handlers.{Setting, setting}
use Rattle.lua_meaning.specs.Locals.{Env, Slot, held, cell, find, set_found, holding}
use Rattle.lua_meaning.specs.Calls.{Later, Here, call_at}
use Rattle.lua_meaning.specs.Control.{Game}
use Rattle.lua_meaning.specs.Operators.{set_raw, set_by, set_field}
use Rattle.lua_meaning.specs.Expressions.{eval, globals}
use Rattle.lua_meaning.specs.Statements.{Target, local_target, field_target, no_target, name_target, target, targets, assign_to, assign_all}
use Rattle.lua_code.specs.Instr as i
use Rattle.lua_code.specs.Instr.{Site, Operand, slot, constant, Instr, file_of, code_of}
use Rattle.lua_code.specs.Scope.{Scope, slot_count, cell_count, Seat, at_slot, at_cell, seat_of}
use Rattle.lua_code.specs.Code.{site, width, widths, target_count, store_name, store, stores, expr_code, target_code, targets_code}
use Rattle.lua_code.specs.State.{Registers, put_slot, Running, Frame, waits, lua, on}
use Rattle.lua_code.specs.Natives.{Program}
use Rattle.lua_code.specs.Act.{at_pc, at_line, operand, sets}
use Rattle.lua_code.specs.Follows.{state_of, program_of}
use Rattle.lua_code.proofs.Registers.{Stays, stays_self, stays_on, stays_put, put_other, differs_above, Holds, holds_stays, Reads, reads}
use Rattle.lua_code.proofs.Goes.{comes_self, comes_on, Stands, front, back, stepping, going, Goes, first_comes, both, one_step}
use Rattle.lua_code.proofs.Calling.{Invokes, calls_on, to_the_frame}
use Rattle.lua_code.proofs.Landing.{here_of, held_in, operand_is, goes_at}
use Rattle.lua_code.proofs.Expressions.{evaluated}
use Rattle.lua_code.proofs.Nodes.{weaken, raw_goes, expr_goes}
use Rattle.lua_code.proofs.Scopes.{Unmoved, unmoved_below, unmoved_self, unmoved_on, Rowed}
use Rattle.lua_code.proofs.Writes.{Written, writes, below_slot}

pub rowed_stays : (s t : ℕ → Value) (at count : ℕ) (vs : List Value) → ((k : ℕ) → at ≤ k → k < at + count → t k ≡ s k) → Rowed s at count vs → Rowed t at count vs
rowed_stays s t at zero vs st h = tt
rowed_stays s t at (suc count) vs st h = (st at (omega arith) (omega arith) ∙ h.0, rowed_stays s t (suc at) count (drop 1 vs) (λ k a b. st k (omega (arith, a)) (omega (arith, b))) h.1)

module _ (game : Game) (n : ℕ) (again : Later) (invokes : Invokes game n again) (run : Running) (frames : List Frame) where
  abbrev P : Program
  P = program_of game

  abbrev here : Here
  here = here_of run frames

  abbrev code : List Instr
  code = code_of run.code

  abbrev file : Bytes
  file = file_of run.code

  -- ---- a field gets a value

  sets_goes : (result : Setting) (s : Site) (key v : Value) (pc end : ℕ) (r : Registers) (w : World) → w.ticks ≤ n → end ≡ pc + 1
      → Goes P w.ticks frames run.base run.cell_base r (stepping P w (sets (at_pc run pc) frames r (state_of w) s key v result)) (set_by again here s.line key v result w) (λ a t. Stays r t (run.base + s.above) (run.cell_base + s.cells)) (λ a w t. going P run end frames w t)
  sets_goes (handlers.in_table t) s key v pc end r w lw e = weaken game n again invokes run frames w.ticks r _ (set_raw again here s.line t key v w) _ _ _ (λ a q x. subst (λ q. Stays r q (run.base + s.above) (run.cell_base + s.cells)) (sym x) (stays_self r (run.base + s.above) (run.cell_base + s.cells))) (raw_goes game n again invokes run frames s t key v pc end r w e)
  sets_goes (handlers.asks_set h base) s key v pc end r w lw e =
      let top = waits (at_pc run (pc + 1)) i.nothing (at_line run s) in
      both P n w.ticks lw frames run.base run.cell_base r _ (call_at again here s.line h (base ∷ key ∷ v ∷ []) w) _ _ (λ vs w. gives tt w) _ _
      (to_the_frame P w.ticks run (pc + 1) i.nothing (at_line run s) frames (run.base + s.above) (run.cell_base + s.cells) r _ (call_at again here s.line h (base ∷ key ∷ v ∷ []) w) (omega arith) (omega arith)
      (calls_on game n again invokes h (base ∷ key ∷ v ∷ []) top frames (run.base + s.above) (run.cell_base + s.cells) r w lw))
      (λ vs w t l1 t_stays x. (t, omega arith, stays_self t run.base run.cell_base, subst (λ q. Stays r q (run.base + s.above) (run.cell_base + s.cells)) (sym x.2) x.1, goes_at P run frames (pc + 1) end w t (sym e)))
  sets_goes (handlers.unindexed_set base) s key v pc end r w lw e = (r, omega arith, stays_self r run.base run.cell_base, comes_self _)
  sets_goes handlers.endless_set s key v pc end r w lw e = (r, omega arith, stays_self r run.base run.cell_base, comes_self _)

  field_stored : (s : Site) (a b c : Operand) (base key v : Value) (pc end : ℕ) (r : Registers) (w : World) → w.ticks ≤ n → end ≡ pc + 1 → slice_get code pc ≡ Some (i.set_field s a b c) → held_in r run.base a ≡ base → held_in r run.base b ≡ key → held_in r run.base c ≡ v
      → Goes P w.ticks frames run.base run.cell_base r (going P run pc frames w r) (set_field again here s.line base key v w) (λ a t. Stays r t (run.base + s.above) (run.cell_base + s.cells)) (λ a w t. going P run end frames w t)
  field_stored s a b c base key v pc end r w lw e st ea eb ec =
      let op = operand (at_pc run pc) frames r (state_of w) in
      first_comes P w.ticks frames run.base run.cell_base r _ (stepping P w (sets (at_pc run pc) frames r (state_of w) s key v (setting w.store base key))) (set_field again here s.line base key v w) _ _
      (one_step P run pc frames r w (i.set_field s a b c) _ st
      (ap (λ x. sets (at_pc run pc) frames r (state_of w) s (op b) (op c) (setting w.store x (op b))) (operand_is (at_pc run pc) frames r (state_of w) a ∙ ea)
      ∙ ap (λ x. sets (at_pc run pc) frames r (state_of w) s x (op c) (setting w.store base x)) (operand_is (at_pc run pc) frames r (state_of w) b ∙ eb)
      ∙ ap (λ x. sets (at_pc run pc) frames r (state_of w) s key x (setting w.store base key)) (operand_is (at_pc run pc) frames r (state_of w) c ∙ ec)))
      (sets_goes (setting w.store base key) s key v pc end r w lw e)

  -- ---- a target gets a value

  -- what stands between the locals and a height stays
  abbrev pub Between : (r t : Registers) → (low high : ℕ) → Type 0
  Between r t low high = (k : ℕ) → low ≤ k → k < high → t.slots (run.base + k) ≡ r.slots (run.base + k)

  -- the locals, the loops' hidden slots, and what is between
  pub record Kept (r t : Registers) (scope : Scope) (high : ℕ) (env : Env) : Type 0 where
    pub holds : Holds t run.base run.cell_base scope env
    pub unmoved : Unmoved r t run.base scope
    pub between : Between r t (slot_count scope) high

  kept_below : (r t : Registers) (scope : Scope) (high some : ℕ) (env : Env) → slot_count scope ≤ high → some ≡ run.cell_base + cell_count scope → Holds r run.base run.cell_base scope env → Stays r t (run.base + high) some → Kept r t scope high env
  kept_below r t scope high some env l se hs st = record {
    holds = holds_stays r t run.base run.cell_base scope env (run.base + high) some (omega (arith, l)) (omega (arith, se)) st hs;
    unmoved = unmoved_below r t run.base (run.base + high) scope (omega (arith, l)) st.slots;
    between = λ k a b. st.slots (run.base + k) (omega (arith, b));
  }

  -- what a target's parts are: a local of the scope, or a field
  abbrev pub NameIs : Option Seat → Bytes → (line : ℕ) → Target → Type 0
  NameIs None x line t = t ≡ field_target line globals (Value.str x)
  NameIs (Some q) x line t = t ≡ local_target x

  name_is : (o : Option Seat) (s : Option Slot) (x : Bytes) (line : ℕ) (r : Registers) → Reads r run.base run.cell_base o s → NameIs o x line (name_target line x s)
  name_is None None x line r h = refl
  name_is None (Some s) x line r h = absurd h
  name_is (Some (at_slot k)) None x line r h = absurd h
  name_is (Some (at_slot k)) (Some s) x line r h = refl
  name_is (Some (at_cell k)) None x line r h = absurd h
  name_is (Some (at_cell k)) (Some s) x line r h = refl

  set_at : (s0 : Site) (o : Option Seat) (s : Option Slot) (x : Bytes) (v : Value) (from above : ℕ) (scope : Scope) (env : Env) (pc end : ℕ) (r : Registers) (w : World) (q : Seat) → o ≡ Some q → seat_of scope x ≡ o → find x env ≡ s → slot_count scope ≤ above → end ≡ pc + length (store_name s0 x (slot from) o) → Stands code pc (store_name s0 x (slot from) o) → Reads r run.base run.cell_base o s → Holds r run.base run.cell_base scope env → r.slots (run.base + from) ≡ v
      → Goes P w.ticks frames run.base run.cell_base r (going P run pc frames w r) (set_found x v env s w) (λ env' t. Kept r t scope above env') (λ env' w t. going P run end frames w t)
  set_at s0 None s x v from above scope env pc end r w q oe se fe la ee st rs hs v_is = absurd (none_some oe)
    where
      none_some : None ≡ Some q → ⊥
      none_some e = subst IsNone e tt
        where
          IsNone : Option Seat → Type 0
          IsNone None = Unit {0}
          IsNone (Some x) = ⊥
  set_at s0 (Some (at_slot k)) None x v from above scope env pc end r w q oe se fe la ee st rs hs v_is = absurd rs
  set_at s0 (Some (at_slot k)) (Some (cell c)) x v from above scope env pc end r w q oe se fe la ee st rs hs v_is = absurd rs
  set_at s0 (Some (at_slot k)) (Some (held u)) x v from above scope env pc end r w q oe se fe la ee st rs hs v_is =
      let t = put_slot r (run.base + k) v in
      let g : Written r run.base run.cell_base k v scope (holding x v env) = writes scope env x k v r run.base run.cell_base hs se in
      let l = below_slot scope x k se in (
        t,
        omega arith,
        stays_put r r run.base run.cell_base (run.base + k) v (omega arith) (stays_self r run.base run.cell_base),
        record {
          holds = g.0;
          unmoved = g.1;
          between = λ j a b. put_other r.slots (run.base + k) v (run.base + j) (differs_above (run.base + j) (run.base + k) (omega (arith, l, a)));
        },
        comes_on _ (going P run (pc + 1) frames w t) _ (one_step P run pc frames r w (i.load k (slot from)) _ st.0 (ap (λ v. on (record { active = lua (at_pc run (pc + 1)); frames = frames; registers = put_slot r (run.base + k) v; state = state_of w })) v_is)) (goes_at P run frames (pc + 1) end w t (sym ee)),
      )
  set_at s0 (Some (at_cell k)) None x v from above scope env pc end r w q oe se fe la ee st rs hs v_is = absurd rs
  set_at s0 (Some (at_cell k)) (Some (held u)) x v from above scope env pc end r w q oe se fe la ee st rs hs v_is = absurd rs
  set_at s0 (Some (at_cell k)) (Some (cell c)) x v from above scope env pc end r w q oe se fe la ee st rs hs v_is =
      let w' : World = record w { store = set_cell w.store c v } in (
        r,
        omega arith,
        stays_self r run.base run.cell_base,
        record {
          holds = hs;
          unmoved = unmoved_self r run.base scope;
          between = λ j a b. refl;
        },
        comes_on _ (going P run (pc + 1) frames w' r) _ (one_step P run pc frames r w (i.set_cell k (slot from)) _ st.0 (ap (λ c. on (record { active = lua (at_pc run (pc + 1)); frames = frames; registers = r; state = state_of (record w { store = set_cell w.store c (r.slots (run.base + from)) }) })) rs ∙ ap (λ v. on (record { active = lua (at_pc run (pc + 1)); frames = frames; registers = r; state = state_of (record w { store = set_cell w.store c v }) })) v_is)) (goes_at P run frames (pc + 1) end w' r (sym ee)),
      )

  -- a target whose parts stand in slots
  abbrev pub Fits : Expr → Target → (scope : Scope) → (at : ℕ) → Registers → Type 0
  Fits (name line x) t scope at r = NameIs (seat_of scope x) x line t
  Fits (index line e k) t scope at r = (base : Value) × (key : Value) × (t ≡ field_target line base key) × (r.slots (run.base + at) ≡ base) × (r.slots (run.base + (at + 1)) ≡ key)
  Fits e t scope at r = t ≡ no_target

  name_stored : (o : Option Seat) (s : Option Slot) (line : ℕ) (x : Bytes) (t : Target) (v : Value) (from above : ℕ) (scope : Scope) (env : Env) (pc end : ℕ) (r : Registers) (w : World) → w.ticks ≤ n → seat_of scope x ≡ o → find x env ≡ s → slot_count scope ≤ above → end ≡ pc + length (store_name (site line above scope) x (slot from) o) → Stands code pc (store_name (site line above scope) x (slot from) o) → Reads r run.base run.cell_base o s → Holds r run.base run.cell_base scope env → NameIs o x line t → r.slots (run.base + from) ≡ v
      → Goes P w.ticks frames run.base run.cell_base r (going P run pc frames w r) (assign_to again here t v env w) (λ env' u. Kept r u scope above env') (λ env' w u. going P run end frames w u)
  name_stored None s line x t v from above scope env pc end r w lw se fe la ee st rs hs ti v_is =
      subst (λ t. Goes P w.ticks frames run.base run.cell_base r (going P run pc frames w r) (assign_to again here t v env w) (λ env' u. Kept r u scope above env') (λ env' w u. going P run end frames w u)) (sym ti)
      (both P n w.ticks lw frames run.base run.cell_base r _ (set_field again here line globals (Value.str x) v w) _ _ (λ a w. gives env w) _ _ (field_stored (site line above scope) (constant globals) (constant (Value.str x)) (slot from) globals (Value.str x) v pc end r w lw ee st.0 refl refl v_is)
      (λ a w u l1 u_stays y. (u, omega arith, stays_self u run.base run.cell_base, kept_below r u scope above (run.cell_base + cell_count scope) env la refl hs y, comes_self _)))
  name_stored (Some q) s line x t v from above scope env pc end r w lw se fe la ee st rs hs ti v_is =
      subst (λ t. Goes P w.ticks frames run.base run.cell_base r (going P run pc frames w r) (assign_to again here t v env w) (λ env' u. Kept r u scope above env') (λ env' w u. going P run end frames w u)) (sym ti)
      (subst (λ s. Goes P w.ticks frames run.base run.cell_base r (going P run pc frames w r) (set_found x v env s w) (λ env' u. Kept r u scope above env') (λ env' w u. going P run end frames w u)) (sym fe)
      (set_at (site line above scope) (Some q) s x v from above scope env pc end r w q refl se fe la ee st rs hs v_is))

  pub target_stored : (e : Expr) (t : Target) (v : Value) (at from above : ℕ) (scope : Scope) (env : Env) (pc end : ℕ) (r : Registers) (w : World) → w.ticks ≤ n → slot_count scope ≤ above → end ≡ pc + length (store e above scope (slot at) (slot (at + 1)) (slot from)) → Stands code pc (store e above scope (slot at) (slot (at + 1)) (slot from)) → Holds r run.base run.cell_base scope env → Fits e t scope at r → r.slots (run.base + from) ≡ v
      → Goes P w.ticks frames run.base run.cell_base r (going P run pc frames w r) (assign_to again here t v env w) (λ env' u. Kept r u scope above env') (λ env' w u. going P run end frames w u)
  target_stored (name line x) t v at from above scope env pc end r w lw la ee st hs fits v_is = name_stored (seat_of scope x) (find x env) line x t v from above scope env pc end r w lw refl refl la ee st (reads r run.base run.cell_base scope env x hs) hs fits v_is
  target_stored (index line e k) t v at from above scope env pc end r w lw la ee st hs fits v_is =
      subst (λ t. Goes P w.ticks frames run.base run.cell_base r (going P run pc frames w r) (assign_to again here t v env w) (λ env' u. Kept r u scope above env') (λ env' w u. going P run end frames w u)) (sym fits.2)
      (both P n w.ticks lw frames run.base run.cell_base r _ (set_field again here line fits.0 fits.1 v w) _ _ (λ a w. gives env w) _ _ (field_stored (site line above scope) (slot at) (slot (at + 1)) (slot from) fits.0 fits.1 v pc end r w lw ee st.0 fits.3 fits.4 v_is)
      (λ a w u l1 u_stays y. (u, omega arith, stays_self u run.base run.cell_base, kept_below r u scope above (run.cell_base + cell_count scope) env la refl hs y, comes_self _)))
  target_stored (nil line) t v at from above scope env pc end r w lw la ee st hs fits v_is =
      subst (λ t. Goes P w.ticks frames run.base run.cell_base r (going P run pc frames w r) (assign_to again here t v env w) (λ env' u. Kept r u scope above env') (λ env' w u. going P run end frames w u)) (sym fits)
      (r, omega arith, stays_self r run.base run.cell_base, kept_below r r scope above (run.cell_base + cell_count scope) env la refl hs (stays_self r (run.base + above) (run.cell_base + cell_count scope)), goes_at P run frames pc end w r (omega (arith, ee)))
  target_stored (true_ line) t v at from above scope env pc end r w lw la ee st hs fits v_is =
      subst (λ t. Goes P w.ticks frames run.base run.cell_base r (going P run pc frames w r) (assign_to again here t v env w) (λ env' u. Kept r u scope above env') (λ env' w u. going P run end frames w u)) (sym fits)
      (r, omega arith, stays_self r run.base run.cell_base, kept_below r r scope above (run.cell_base + cell_count scope) env la refl hs (stays_self r (run.base + above) (run.cell_base + cell_count scope)), goes_at P run frames pc end w r (omega (arith, ee)))
  target_stored (false_ line) t v at from above scope env pc end r w lw la ee st hs fits v_is =
      subst (λ t. Goes P w.ticks frames run.base run.cell_base r (going P run pc frames w r) (assign_to again here t v env w) (λ env' u. Kept r u scope above env') (λ env' w u. going P run end frames w u)) (sym fits)
      (r, omega arith, stays_self r run.base run.cell_base, kept_below r r scope above (run.cell_base + cell_count scope) env la refl hs (stays_self r (run.base + above) (run.cell_base + cell_count scope)), goes_at P run frames pc end w r (omega (arith, ee)))
  target_stored (number line z) t v at from above scope env pc end r w lw la ee st hs fits v_is =
      subst (λ t. Goes P w.ticks frames run.base run.cell_base r (going P run pc frames w r) (assign_to again here t v env w) (λ env' u. Kept r u scope above env') (λ env' w u. going P run end frames w u)) (sym fits)
      (r, omega arith, stays_self r run.base run.cell_base, kept_below r r scope above (run.cell_base + cell_count scope) env la refl hs (stays_self r (run.base + above) (run.cell_base + cell_count scope)), goes_at P run frames pc end w r (omega (arith, ee)))
  target_stored (str line sv) t v at from above scope env pc end r w lw la ee st hs fits v_is =
      subst (λ t. Goes P w.ticks frames run.base run.cell_base r (going P run pc frames w r) (assign_to again here t v env w) (λ env' u. Kept r u scope above env') (λ env' w u. going P run end frames w u)) (sym fits)
      (r, omega arith, stays_self r run.base run.cell_base, kept_below r r scope above (run.cell_base + cell_count scope) env la refl hs (stays_self r (run.base + above) (run.cell_base + cell_count scope)), goes_at P run frames pc end w r (omega (arith, ee)))
  target_stored (dots line) t v at from above scope env pc end r w lw la ee st hs fits v_is =
      subst (λ t. Goes P w.ticks frames run.base run.cell_base r (going P run pc frames w r) (assign_to again here t v env w) (λ env' u. Kept r u scope above env') (λ env' w u. going P run end frames w u)) (sym fits)
      (r, omega arith, stays_self r run.base run.cell_base, kept_below r r scope above (run.cell_base + cell_count scope) env la refl hs (stays_self r (run.base + above) (run.cell_base + cell_count scope)), goes_at P run frames pc end w r (omega (arith, ee)))
  target_stored (function line f) t v at from above scope env pc end r w lw la ee st hs fits v_is =
      subst (λ t. Goes P w.ticks frames run.base run.cell_base r (going P run pc frames w r) (assign_to again here t v env w) (λ env' u. Kept r u scope above env') (λ env' w u. going P run end frames w u)) (sym fits)
      (r, omega arith, stays_self r run.base run.cell_base, kept_below r r scope above (run.cell_base + cell_count scope) env la refl hs (stays_self r (run.base + above) (run.cell_base + cell_count scope)), goes_at P run frames pc end w r (omega (arith, ee)))
  target_stored (call line f es) t v at from above scope env pc end r w lw la ee st hs fits v_is =
      subst (λ t. Goes P w.ticks frames run.base run.cell_base r (going P run pc frames w r) (assign_to again here t v env w) (λ env' u. Kept r u scope above env') (λ env' w u. going P run end frames w u)) (sym fits)
      (r, omega arith, stays_self r run.base run.cell_base, kept_below r r scope above (run.cell_base + cell_count scope) env la refl hs (stays_self r (run.base + above) (run.cell_base + cell_count scope)), goes_at P run frames pc end w r (omega (arith, ee)))
  target_stored (method line o y es) t v at from above scope env pc end r w lw la ee st hs fits v_is =
      subst (λ t. Goes P w.ticks frames run.base run.cell_base r (going P run pc frames w r) (assign_to again here t v env w) (λ env' u. Kept r u scope above env') (λ env' w u. going P run end frames w u)) (sym fits)
      (r, omega arith, stays_self r run.base run.cell_base, kept_below r r scope above (run.cell_base + cell_count scope) env la refl hs (stays_self r (run.base + above) (run.cell_base + cell_count scope)), goes_at P run frames pc end w r (omega (arith, ee)))
  target_stored (table line fs) t v at from above scope env pc end r w lw la ee st hs fits v_is =
      subst (λ t. Goes P w.ticks frames run.base run.cell_base r (going P run pc frames w r) (assign_to again here t v env w) (λ env' u. Kept r u scope above env') (λ env' w u. going P run end frames w u)) (sym fits)
      (r, omega arith, stays_self r run.base run.cell_base, kept_below r r scope above (run.cell_base + cell_count scope) env la refl hs (stays_self r (run.base + above) (run.cell_base + cell_count scope)), goes_at P run frames pc end w r (omega (arith, ee)))
  target_stored (unary line op a) t v at from above scope env pc end r w lw la ee st hs fits v_is =
      subst (λ t. Goes P w.ticks frames run.base run.cell_base r (going P run pc frames w r) (assign_to again here t v env w) (λ env' u. Kept r u scope above env') (λ env' w u. going P run end frames w u)) (sym fits)
      (r, omega arith, stays_self r run.base run.cell_base, kept_below r r scope above (run.cell_base + cell_count scope) env la refl hs (stays_self r (run.base + above) (run.cell_base + cell_count scope)), goes_at P run frames pc end w r (omega (arith, ee)))
  target_stored (binary line op a b) t v at from above scope env pc end r w lw la ee st hs fits v_is =
      subst (λ t. Goes P w.ticks frames run.base run.cell_base r (going P run pc frames w r) (assign_to again here t v env w) (λ env' u. Kept r u scope above env') (λ env' w u. going P run end frames w u)) (sym fits)
      (r, omega arith, stays_self r run.base run.cell_base, kept_below r r scope above (run.cell_base + cell_count scope) env la refl hs (stays_self r (run.base + above) (run.cell_base + cell_count scope)), goes_at P run frames pc end w r (omega (arith, ee)))
  target_stored (paren line a) t v at from above scope env pc end r w lw la ee st hs fits v_is =
      subst (λ t. Goes P w.ticks frames run.base run.cell_base r (going P run pc frames w r) (assign_to again here t v env w) (λ env' u. Kept r u scope above env') (λ env' w u. going P run end frames w u)) (sym fits)
      (r, omega arith, stays_self r run.base run.cell_base, kept_below r r scope above (run.cell_base + cell_count scope) env la refl hs (stays_self r (run.base + above) (run.cell_base + cell_count scope)), goes_at P run frames pc end w r (omega (arith, ee)))

  -- ---- the parts of targets

  pub target_goes : (e : Expr) (pc end at : ℕ) (scope : Scope) (env : Env) (r : Registers) (w : World) → w.ticks ≤ n → slot_count scope ≤ at → end ≡ pc + length (target_code e file scope at) → Stands code pc (target_code e file scope at) → Holds r run.base run.cell_base scope env
      → Goes P w.ticks frames run.base run.cell_base r (going P run pc frames w r) (target again here e env w) (λ t u. Fits e t scope at u × Stays r u (run.base + at) (run.cell_base + cell_count scope)) (λ t w u. going P run end frames w u)
  target_goes (name line x) pc end at scope env r w lw la ee st hs = (r, omega arith, stays_self r run.base run.cell_base, (name_is (seat_of scope x) (find x env) x line r (reads r run.base run.cell_base scope env x hs), stays_self r (run.base + at) (run.cell_base + cell_count scope)), goes_at P run frames pc end w r (omega (arith, ee)))
  target_goes (index line e k) pc end at scope env r w lw la ee st hs =
      let some = run.cell_base + cell_count scope in
      let xs = expr_code e file scope at at in
      let ys = expr_code k file scope (at + 1) (at + 1) in
      let p1 = pc + length xs in
      both P n w.ticks lw frames run.base run.cell_base r _ (one (eval again here e env) w) _ _ (λ base w. one (eval again here k env) w >>> λ key w. gives (field_target line base key) w) _ _ (evaluated game n again invokes run frames e (expr_goes game n again invokes run frames e) pc p1 at scope env r w lw la refl (front code pc xs ys st) hs)
      (λ base w t l1 t_stays b_is.
      both P n w.ticks l1 frames run.base run.cell_base t _ (one (eval again here k env) w) _ _ (λ key w. gives (field_target line base key) w) _ _ (evaluated game n again invokes run frames k (expr_goes game n again invokes run frames k) p1 end (at + 1) scope env t w l1 (omega (arith, la)) (omega (arith, ee, length-append xs ys)) (back code pc p1 xs ys refl st) (holds_stays r t run.base run.cell_base scope env (run.base + at) some (omega (arith, la)) (omega arith) b_is.1 hs))
      (λ key w u l2 u_stays k_is. (u, omega arith, stays_self u run.base run.cell_base, ((base, key, refl, k_is.1.slots (run.base + at) (omega arith) ∙ b_is.0, k_is.0), stays_on r t u (run.base + at) (run.base + (at + 1)) some some (omega arith) (omega arith) b_is.1 k_is.1), comes_self _)))
  target_goes (nil line) pc end at scope env r w lw la ee st hs = (r, omega arith, stays_self r run.base run.cell_base, (refl, stays_self r (run.base + at) (run.cell_base + cell_count scope)), goes_at P run frames pc end w r (omega (arith, ee)))
  target_goes (true_ line) pc end at scope env r w lw la ee st hs = (r, omega arith, stays_self r run.base run.cell_base, (refl, stays_self r (run.base + at) (run.cell_base + cell_count scope)), goes_at P run frames pc end w r (omega (arith, ee)))
  target_goes (false_ line) pc end at scope env r w lw la ee st hs = (r, omega arith, stays_self r run.base run.cell_base, (refl, stays_self r (run.base + at) (run.cell_base + cell_count scope)), goes_at P run frames pc end w r (omega (arith, ee)))
  target_goes (number line z) pc end at scope env r w lw la ee st hs = (r, omega arith, stays_self r run.base run.cell_base, (refl, stays_self r (run.base + at) (run.cell_base + cell_count scope)), goes_at P run frames pc end w r (omega (arith, ee)))
  target_goes (str line sv) pc end at scope env r w lw la ee st hs = (r, omega arith, stays_self r run.base run.cell_base, (refl, stays_self r (run.base + at) (run.cell_base + cell_count scope)), goes_at P run frames pc end w r (omega (arith, ee)))
  target_goes (dots line) pc end at scope env r w lw la ee st hs = (r, omega arith, stays_self r run.base run.cell_base, (refl, stays_self r (run.base + at) (run.cell_base + cell_count scope)), goes_at P run frames pc end w r (omega (arith, ee)))
  target_goes (function line f) pc end at scope env r w lw la ee st hs = (r, omega arith, stays_self r run.base run.cell_base, (refl, stays_self r (run.base + at) (run.cell_base + cell_count scope)), goes_at P run frames pc end w r (omega (arith, ee)))
  target_goes (call line f es) pc end at scope env r w lw la ee st hs = (r, omega arith, stays_self r run.base run.cell_base, (refl, stays_self r (run.base + at) (run.cell_base + cell_count scope)), goes_at P run frames pc end w r (omega (arith, ee)))
  target_goes (method line o y es) pc end at scope env r w lw la ee st hs = (r, omega arith, stays_self r run.base run.cell_base, (refl, stays_self r (run.base + at) (run.cell_base + cell_count scope)), goes_at P run frames pc end w r (omega (arith, ee)))
  target_goes (table line fs) pc end at scope env r w lw la ee st hs = (r, omega arith, stays_self r run.base run.cell_base, (refl, stays_self r (run.base + at) (run.cell_base + cell_count scope)), goes_at P run frames pc end w r (omega (arith, ee)))
  target_goes (unary line op a) pc end at scope env r w lw la ee st hs = (r, omega arith, stays_self r run.base run.cell_base, (refl, stays_self r (run.base + at) (run.cell_base + cell_count scope)), goes_at P run frames pc end w r (omega (arith, ee)))
  target_goes (binary line op a b) pc end at scope env r w lw la ee st hs = (r, omega arith, stays_self r run.base run.cell_base, (refl, stays_self r (run.base + at) (run.cell_base + cell_count scope)), goes_at P run frames pc end w r (omega (arith, ee)))
  target_goes (paren line a) pc end at scope env r w lw la ee st hs = (r, omega arith, stays_self r run.base run.cell_base, (refl, stays_self r (run.base + at) (run.cell_base + cell_count scope)), goes_at P run frames pc end w r (omega (arith, ee)))

  pub fits_stays : (e : Expr) (t : Target) (scope : Scope) (at : ℕ) (r u : Registers) → ((k : ℕ) → at ≤ k → k < at + width e → u.slots (run.base + k) ≡ r.slots (run.base + k)) → Fits e t scope at r → Fits e t scope at u
  fits_stays (name line x) t scope at r u st h = h
  fits_stays (index line e k) t scope at r u st h = (h.0, h.1, h.2, st at (omega arith) (omega arith) ∙ h.3, st (at + 1) (omega arith) (omega arith) ∙ h.4)
  fits_stays (nil line) t scope at r u st h = h
  fits_stays (true_ line) t scope at r u st h = h
  fits_stays (false_ line) t scope at r u st h = h
  fits_stays (number line z) t scope at r u st h = h
  fits_stays (str line sv) t scope at r u st h = h
  fits_stays (dots line) t scope at r u st h = h
  fits_stays (function line f) t scope at r u st h = h
  fits_stays (call line f es) t scope at r u st h = h
  fits_stays (method line o y es) t scope at r u st h = h
  fits_stays (table line fs) t scope at r u st h = h
  fits_stays (unary line op a) t scope at r u st h = h
  fits_stays (binary line op a b) t scope at r u st h = h
  fits_stays (paren line a) t scope at r u st h = h

  -- the targets of an assignment, each with its parts behind those of the ones before
  abbrev pub AllFit : Exprs → List Target → (scope : Scope) → (at : ℕ) → Registers → Type 0
  AllFit no_exprs ts scope at r = ts ≡ []
  AllFit (expr_and e es) [] scope at r = ⊥
  AllFit (expr_and e es) (t ∷ ts) scope at r = Fits e t scope at r × AllFit es ts scope (at + width e) r

  pub all_stay : (es : Exprs) (ts : List Target) (scope : Scope) (at : ℕ) (r u : Registers) → ((k : ℕ) → at ≤ k → k < at + widths es → u.slots (run.base + k) ≡ r.slots (run.base + k)) → AllFit es ts scope at r → AllFit es ts scope at u
  all_stay no_exprs ts scope at r u st h = h
  all_stay (expr_and e es) [] scope at r u st h = h
  all_stay (expr_and e es) (t ∷ ts) scope at r u st h = (fits_stays e t scope at r u (λ k a b. st k a (omega (arith, b))) h.0, all_stay es ts scope (at + width e) r u (λ k a b. st k (omega (arith, a)) (omega (arith, b))) h.1)

  pub targets_goes : (es : Exprs) (pc end at : ℕ) (scope : Scope) (env : Env) (r : Registers) (w : World) → w.ticks ≤ n → slot_count scope ≤ at → end ≡ pc + length (targets_code es file scope at) → Stands code pc (targets_code es file scope at) → Holds r run.base run.cell_base scope env
      → Goes P w.ticks frames run.base run.cell_base r (going P run pc frames w r) (targets again here es env w) (λ ts u. AllFit es ts scope at u × Stays r u (run.base + at) (run.cell_base + cell_count scope)) (λ ts w u. going P run end frames w u)
  targets_goes no_exprs pc end at scope env r w lw la ee st hs = (r, omega arith, stays_self r run.base run.cell_base, (refl, stays_self r (run.base + at) (run.cell_base + cell_count scope)), goes_at P run frames pc end w r (omega (arith, ee)))
  targets_goes (expr_and e es) pc end at scope env r w lw la ee st hs =
      let some = run.cell_base + cell_count scope in
      let xs = target_code e file scope at in
      let ys = targets_code es file scope (at + width e) in
      let p1 = pc + length xs in
      both P n w.ticks lw frames run.base run.cell_base r _ (target again here e env w) _ _ (λ t w. targets again here es env w >>> λ ts w. gives (t ∷ ts) w) _ _ (target_goes e pc p1 at scope env r w lw la refl (front code pc xs ys st) hs)
      (λ t w u l1 u_stays f.
      both P n w.ticks l1 frames run.base run.cell_base u _ (targets again here es env w) _ _ (λ ts w. gives (t ∷ ts) w) _ _ (targets_goes es p1 end (at + width e) scope env u w l1 (omega (arith, la)) (omega (arith, ee, length-append xs ys)) (back code pc p1 xs ys refl st) (holds_stays r u run.base run.cell_base scope env (run.base + at) some (omega (arith, la)) (omega arith) f.1 hs))
      (λ ts w z l2 z_stays g. (z, omega arith, stays_self z run.base run.cell_base, ((fits_stays e t scope at u z (λ k a b. g.1.slots (run.base + k) (omega (arith, b))) f.0, g.0), stays_on r u z (run.base + at) (run.base + (at + width e)) some some (omega arith) (omega arith) f.1 g.1), comes_self _)))

  -- ---- targets get their values

  kept_on : (r u z : Registers) (scope : Scope) (high : ℕ) (env env' : Env) → Kept r u scope high env → Kept u z scope high env' → Kept r z scope high env'
  kept_on r u z scope high env env' x y = record {
    holds = y.holds;
    unmoved = unmoved_on r u z run.base scope x.unmoved y.unmoved;
    between = λ k a b. y.between k a b ∙ x.between k a b;
  }

  pub stores_goes : (es : Exprs) (ts : List Target) (vs : List Value) (at from above : ℕ) (scope : Scope) (env : Env) (pc end : ℕ) (r : Registers) (w : World) → w.ticks ≤ n → slot_count scope ≤ at → slot_count scope ≤ from → at + widths es ≤ above → from + target_count es ≤ above → end ≡ pc + length (stores es above scope at from) → Stands code pc (stores es above scope at from) → Holds r run.base run.cell_base scope env → AllFit es ts scope at r → Rowed r.slots (run.base + from) (target_count es) vs
      → Goes P w.ticks frames run.base run.cell_base r (going P run pc frames w r) (assign_all again here ts vs env w) (λ env' u. Kept r u scope above env') (λ env' w u. going P run end frames w u)
  stores_goes no_exprs ts vs at from above scope env pc end r w lw la lf lp lv ee st hs fits rs =
      subst (λ ts. Goes P w.ticks frames run.base run.cell_base r (going P run pc frames w r) (assign_all again here ts vs env w) (λ env' u. Kept r u scope above env') (λ env' w u. going P run end frames w u)) (sym fits)
      (r, omega arith, stays_self r run.base run.cell_base, kept_below r r scope above (run.cell_base + cell_count scope) env (omega (arith, la, lp)) refl hs (stays_self r (run.base + above) (run.cell_base + cell_count scope)), goes_at P run frames pc end w r (omega (arith, ee)))
  stores_goes (expr_and e es) [] vs at from above scope env pc end r w lw la lf lp lv ee st hs fits rs = absurd fits
  stores_goes (expr_and e es) (t ∷ ts) vs at from above scope env pc end r w lw la lf lp lv ee st hs fits rs =
      let xs = stores es above scope (at + width e) (suc from) in
      let ys = store e above scope (slot at) (slot (at + 1)) (slot from) in
      let p1 = pc + length xs in
      let e1 : suc (run.base + from) ≡ run.base + suc from = omega arith in
      both P n w.ticks lw frames run.base run.cell_base r _ (assign_all again here ts (drop 1 vs) env w) _ _ (λ env w. assign_to again here t (first vs) env w) _ _
      (stores_goes es ts (drop 1 vs) (at + width e) (suc from) above scope env pc p1 r w lw (omega (arith, la)) (omega (arith, lf)) (omega (arith, lp)) (omega (arith, lv)) refl (front code pc xs ys st) hs fits.1 (subst (λ k. Rowed r.slots k (target_count es) (drop 1 vs)) e1 rs.1))
      (λ env' w u l1 u_stays kept.
      weaken game n again invokes run frames w.ticks u _ (assign_to again here t (first vs) env' w) _ _ _ (λ env'' z x. kept_on r u z scope above env' env'' kept x)
      (target_stored e t (first vs) at from above scope env' p1 end u w l1 (omega (arith, la, lp)) (omega (arith, ee, length-append xs ys)) (back code pc p1 xs ys refl st) kept.holds
      (fits_stays e t scope at r u (λ k a b. kept.between k (omega (arith, la, a)) (omega (arith, b, lp))) fits.0)
      (kept.between from lf (omega (arith, lv)) ∙ rs.0)))
