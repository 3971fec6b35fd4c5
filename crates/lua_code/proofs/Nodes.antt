-- Each kind of expression in the machine comes to what it means.
use Rattle.std.proofs.Common.{ℕ, suc, ◌+◌, ◌≡◌, ◌≤◌, ◌<◌, refl, sym, ap, ◌∙◌, subst, List, [], ◌∷◌, ◌++◌, length, map, Option, Some, None, Bool, true, false, arith, slice_get, length-append}
use Rattle.std.proofs.lemmas.List.{length-map}
use Rattle.std.specs.Prelude.{◌==◌, if◌then◌else◌}
use Rattle.std.proofs.lemmas.Bool.{eqb-true}
use Rattle.lua_tree.specs.Tree.{Bytes, BinOp, Expr, nil, true_, false_, number, str, dots, function, name, index, call, method, table, unary, binary, paren, Exprs, no_exprs, expr_and, Fields, no_fields, item_and, keyed_and}
use Rattle.lua_meaning.specs.Value.{Value, first, is_true}
use Rattle.lua_meaning.specs.Store.{Closure, add_table, raw_set}
use Rattle.lua_meaning.specs.World.{World, Ends, gives, fails, out_of_steps, needs, ◌>>>◌, Act, one, single}
use Rattle.lua_meaning.specs.Names.{func_names}
use Rattle.lua_meaning.specs.Tables.{set_items}
use Rattle.lua_meaning.specs.Locals as locals
use Rattle.lua_meaning.specs.Locals.{Env, find}
use Rattle.lua_meaning.specs.Calls.{Later, Here, call_at}
use Rattle.lua_meaning.specs.Control.{Game}
use Rattle.lua_meaning.specs.Operators.{field, unary_value, binary_value, operate, set_raw}
use Rattle.lua_meaning.specs.Expressions.{eval, evals, fill}
use Rattle.lua_code.specs.Instr as i
use Rattle.lua_code.specs.Instr.{Site, Wants, Operand, slot, constant, Instr, file_of, code_of}
use Rattle.lua_code.specs.Scope.{Scope, slot_count, cell_count, Seat, at_slot, at_cell, seat_of, cell_names, cell_places}
use Rattle.lua_code.specs.Code.{ready_seat, ready, ready_slot, unless_ready, place, slot_place, site, settle, is_many, tailed, count, func_code, expr_code, tail_code, exprs_code, fields_code}
use Rattle.lua_code.specs.State.{Registers, put_slot, with_tail, State, Running, Frame, waits, lua, on}
use Rattle.lua_code.specs.Frames.{calling}
use Rattle.lua_code.specs.Doing as doing
use Rattle.lua_code.specs.Doing.{unary_doing, binary_doing, field_doing}
use Rattle.lua_code.specs.Natives.{Program}
use Rattle.lua_code.specs.Act.{at_pc, at_line, operand, act_on, does, list, sets_raw, stores, in_table, sets_new, jumps}
use Rattle.lua_code.specs.Follows.{made_of, state_of, program_of}
use Rattle.lua_code.proofs.Registers.{Stays, stays_self, stays_on, stays_less, stays_put, stays_tail, Holds, holds_stays, reads, SeatBelow, seat_below, differs, differs_above}
use Rattle.lua_code.proofs.Goes.{Thread, comes_self, comes_on, Stands, front, back, stepping, going, Goes, first_comes, first_stays, both, then_on, one_step}
use Rattle.lua_code.proofs.Operators.{means, unary_is, binary_is, field_is}
use Rattle.lua_code.proofs.Calling.{Invokes, calls_on, Received, to_the_frame}
use Rattle.lua_code.proofs.Landing.{here_of, Got, got_stays, got_on, lands, LoneIf, held_in, operand_is, goes_at, loads, does_goes}
use Rattle.lua_code.proofs.Closures.{one_made}
use Rattle.lua_code.proofs.Expressions.{left_low, listed, Gets, Tails, Lists, left, right, evaluated, name_goes}

abbrev No : Bool → Type 0
No true = ⊥
No false = Unit {0}

not_both : false ≡ true → ⊥
not_both e = subst No e tt

pub list_is : (run : Running) (frames : List Frame) (r : Registers) (st : State) (from c : ℕ) (b : Bool) → list run frames r st from c b ≡ listed r (run.base + from) c b
list_is run frames r st from c true = refl
list_is run frames r st from c false = refl

listed_more : (r : Registers) (from c : ℕ) (b : Bool) → listed r from (suc c) b ≡ r.slots from ∷ listed r (suc from) c b
listed_more r from c true = refl
listed_more r from c false = refl

seat_stays : (o : Option Seat) (slots cells h high base some : ℕ) (u z : Registers) → SeatBelow o slots cells → slots ≤ h → h < high → Stays u z (base + high) some → held_in z base (place (ready_seat o) h) ≡ held_in u base (place (ready_seat o) h)
seat_stays None slots cells h high base some u z b l m st = st.slots (base + h) (omega (arith, m))
seat_stays (Some (at_slot k)) slots cells h high base some u z b l m st = st.slots (base + k) (omega (arith, b, l, m))
seat_stays (Some (at_cell k)) slots cells h high base some u z b l m st = st.slots (base + h) (omega (arith, m))

-- a right operand stays where what is evaluated behind it stays above
right_stays : (e : Expr) (scope : Scope) (h high base some : ℕ) (u z : Registers) → slot_count scope ≤ h → h < high → Stays u z (base + high) some → held_in z base (place (ready e scope) h) ≡ held_in u base (place (ready e scope) h)
right_stays (nil line) scope h high base some u z l m st = refl
right_stays (true_ line) scope h high base some u z l m st = refl
right_stays (false_ line) scope h high base some u z l m st = refl
right_stays (number line z1) scope h high base some u z l m st = refl
right_stays (str line s) scope h high base some u z l m st = refl
right_stays (name line y) scope h high base some u z l m st = seat_stays (seat_of scope y) (slot_count scope) (cell_count scope) h high base some u z (seat_below scope y) l m st
right_stays (dots line) scope h high base some u z l m st = st.slots (base + h) (omega (arith, m))
right_stays (function line f) scope h high base some u z l m st = st.slots (base + h) (omega (arith, m))
right_stays (index line a k) scope h high base some u z l m st = st.slots (base + h) (omega (arith, m))
right_stays (call line f es) scope h high base some u z l m st = st.slots (base + h) (omega (arith, m))
right_stays (method line o y es) scope h high base some u z l m st = st.slots (base + h) (omega (arith, m))
right_stays (table line fs) scope h high base some u z l m st = st.slots (base + h) (omega (arith, m))
right_stays (unary line op a) scope h high base some u z l m st = st.slots (base + h) (omega (arith, m))
right_stays (binary line op a b) scope h high base some u z l m st = st.slots (base + h) (omega (arith, m))
right_stays (paren line a) scope h high base some u z l m st = st.slots (base + h) (omega (arith, m))

module _ (game : Game) (n : ℕ) (again : Later) (invokes : Invokes game n again) (run : Running) (frames : List Frame) where
  abbrev P : Program
  P = program_of game

  abbrev here : Here
  here = here_of run frames

  abbrev code : List Instr
  code = code_of run.code

  abbrev file : Bytes
  file = file_of run.code

  abbrev GetsE : Expr → Type 0
  GetsE e = Gets game n again invokes run frames e

  -- a value that stands at the height goes on to its slot
  settles : (b : Bool) (many : Bool) (vs : List Value) (pc end h to some : ℕ) (r u : Registers) (w : World) → (to == h) ≡ b → end ≡ pc + length (if b then [] else i.load to (slot h) ∷ []) → Stands code pc (if b then [] else i.load to (slot h) ∷ []) → u.slots (run.base + h) ≡ first vs → Stays r u (run.base + h) some → LoneIf many vs
      → Goes P w.ticks frames run.base run.cell_base u (going P run pc frames w u) (gives vs w) (λ vs t. Got r t run.base some h to (first vs) × LoneIf many vs) (λ vs w t. going P run end frames w t)
  settles true many vs pc end h to some r u w eb ee st v_is st_u lone = (
    u,
    omega arith,
    stays_self u run.base run.cell_base,
    (
      record {
        value = ap (λ k. u.slots (run.base + k)) (eqb-true to h eb) ∙ v_is;
        others = λ k l d. st_u.slots k l;
        cells = st_u.cells;
      },
      lone,
    ),
    goes_at P run frames pc end w u (omega (arith, ee)),
  )
  settles false many vs pc end h to some r u w eb ee st v_is st_u lone =
      let g = loads P run frames many (i.load to (slot h)) vs pc end h to some u w st.0 (ap (λ v. on (record { active = lua (at_pc run (pc + 1)); frames = frames; registers = put_slot u (run.base + to) v; state = state_of w })) v_is) ee lone in
      (g.0, g.1, g.2, (got_on r u g.0 run.base some h h to (first vs) (omega arith) st_u g.3.0, g.3.1), g.4)

  -- a call of what stands at the height, with arguments behind it
  pub invokes_goes : (wants : Wants) (s : Site) (f : Value) (vs : List Value) (pc h c : ℕ) (b : Bool) (u : Registers) (w : World) → w.ticks ≤ n → slice_get code pc ≡ Some (i.invoke s wants h c b) → u.slots (run.base + h) ≡ f → listed u (run.base + suc h) c b ≡ vs
      → Goes P w.ticks frames run.base run.cell_base u (going P run pc frames w u) (call_at again here s.line f vs w) (Received wants run.base u (run.base + h + 1) (run.cell_base + s.cells)) (λ vs w t. going P run (pc + 1) frames w t)
  invokes_goes wants s f vs pc h c b u w lw st f_is vs_are =
      let top = waits (at_pc run (pc + 1)) wants (at_line run s) in
      let place_is : run.base + suc h ≡ run.base + (h + 1) = omega arith in
      first_comes P w.ticks frames run.base run.cell_base u _ (stepping P w (calling f vs (top ∷ frames) (run.base + h + 1) (run.cell_base + s.cells) u (state_of w))) (call_at again here s.line f vs w) _ _
      (one_step P run pc frames u w (i.invoke s wants h c b) _ st
      (ap (λ f. calling f (list (at_pc run pc) frames u (state_of w) (h + 1) c b) (top ∷ frames) (run.base + h + 1) (run.cell_base + s.cells) u (state_of w)) f_is
      ∙ ap (λ vs. calling f vs (top ∷ frames) (run.base + h + 1) (run.cell_base + s.cells) u (state_of w)) (list_is (at_pc run pc) frames u (state_of w) (h + 1) c b ∙ ap (λ k. listed u k c b) (sym place_is) ∙ vs_are)))
      (to_the_frame P w.ticks run (pc + 1) wants (at_line run s) frames (run.base + h + 1) (run.cell_base + s.cells) u _ (call_at again here s.line f vs w) (omega arith) (omega arith)
      (calls_on game n again invokes f vs top frames (run.base + h + 1) (run.cell_base + s.cells) u w lw))

  -- a call whose first value is wanted
  calls_one : (s : Site) (f : Value) (vs : List Value) (pc end h to c some : ℕ) (b : Bool) (r u : Registers) (w : World) → w.ticks ≤ n → some ≡ run.cell_base + s.cells → end ≡ pc + suc (length (settle to h)) → Stands code pc (i.invoke s (i.to_slot h) h c b ∷ settle to h) → u.slots (run.base + h) ≡ f → listed u (run.base + suc h) c b ≡ vs → Stays r u (run.base + h) some
      → Goes P w.ticks frames run.base run.cell_base u (going P run pc frames w u) (call_at again here s.line f vs w) (λ vs t. Got r t run.base some h to (first vs) × LoneIf true vs) (λ vs w t. going P run end frames w t)
  calls_one s f vs pc end h to c some b r u w lw so ee st f_is vs_are st_u =
      then_on P w.ticks w.ticks (omega arith) frames run.base run.cell_base u _ (call_at again here s.line f vs w) _ _ _ _ (invokes_goes (i.to_slot h) s f vs pc h c b u w lw st.0 f_is vs_are)
      (λ vs w' t lw' t_stays x.
      let q = x.0 in
      let put_q : Got u (put_slot q (run.base + h) (first vs)) run.base some h h (first vs) = lands u q run.base some h h (first vs) (stays_less u q (run.base + h + 1) (run.base + h) (run.cell_base + s.cells) some (omega arith) (omega (arith, so)) x.1) in
      let g : Got u t run.base some h h (first vs) = subst (λ t. Got u t run.base some h h (first vs)) (sym x.2) put_q in
      settles (to == h) true vs (pc + 1) end h to some r t w' refl (omega (arith, ee)) st.1 g.value (stays_on r u t (run.base + h) (run.base + h) some some (omega arith) (omega arith) st_u (got_stays u t run.base some h (first vs) g)) tt)

  -- a call whose values are all wanted
  calls_all : (s : Site) (f : Value) (vs : List Value) (pc end h c some : ℕ) (b : Bool) (r u : Registers) (w : World) → w.ticks ≤ n → some ≡ run.cell_base + s.cells → end ≡ pc + 1 → slice_get code pc ≡ Some (i.invoke s i.to_tail h c b) → u.slots (run.base + h) ≡ f → listed u (run.base + suc h) c b ≡ vs → Stays r u (run.base + h) some
      → Goes P w.ticks frames run.base run.cell_base u (going P run pc frames w u) (call_at again here s.line f vs w) (λ vs t. (t.tail ≡ vs) × Stays r t (run.base + h) some) (λ vs w t. going P run end frames w t)
  calls_all s f vs pc end h c some b r u w lw so ee st f_is vs_are st_u =
      then_on P w.ticks w.ticks (omega arith) frames run.base run.cell_base u _ (call_at again here s.line f vs w) _ _ _ _ (invokes_goes i.to_tail s f vs pc h c b u w lw st f_is vs_are)
      (λ vs w' t lw' t_stays x.
      let q = x.0 in
      let stays_q : Stays r q (run.base + h) some = stays_on r u q (run.base + h) (run.base + h + 1) some (run.cell_base + s.cells) (omega arith) (omega (arith, so)) st_u x.1 in
      (t, omega arith, stays_self t run.base run.cell_base, (ap (λ t. t.tail) x.2, subst (λ t. Stays r t (run.base + h) some) (sym x.2) (stays_tail r q (run.base + h) some vs stays_q)), goes_at P run frames (pc + 1) end w' t (sym ee)))

  -- a raw value of a table
  pub raw_goes : (s : Site) (t : ℕ) (key v : Value) (pc end : ℕ) (u : Registers) (w : World) → end ≡ pc + 1
      → Goes P w.ticks frames run.base run.cell_base u (stepping P w (sets_raw (at_pc run pc) frames u (state_of w) s t key v)) (set_raw again here s.line t key v w) (λ a q. q ≡ u) (λ a w q. going P run end frames w q)
  raw_goes s t Value.nil v pc end u w e = (u, omega arith, stays_self u run.base run.cell_base, comes_self _)
  raw_goes s t key v pc end u w e = (u, omega arith, stays_self u run.base run.cell_base, refl, goes_at P run frames (pc + 1) end (record w { store = raw_set w.store t key v }) u (sym e))

  -- what is known of what a part leaves may be less
  pub weaken : {A : Type 0} (m : ℕ) (r : Registers) (K : Thread) (e : Ends A) (P1 Q : A → Registers → Type 0) (f : A → World → Registers → Thread) → ((a : A) (t : Registers) → P1 a t → Q a t) → Goes P m frames run.base run.cell_base r K e P1 f → Goes P m frames run.base run.cell_base r K e Q f
  weaken m r K (gives a w) P1 Q f h g = (g.0, g.1, g.2, h a g.0 g.3, g.4)
  weaken m r K (fails v w) P1 Q f h g = g
  weaken m r K (out_of_steps w) P1 Q f h g = g
  weaken m r K (needs ask w) P1 Q f h g = g

  -- an operator's or a field's instruction
  operates : (x : Instr) (s : Site) (d : World → doing.Doing) (m : Act Value) (pc end h high to some : ℕ) (r u : Registers) (w : World) → w.ticks ≤ n → some ≡ run.cell_base + s.cells → h ≤ high → high ≤ s.above → end ≡ pc + 1 → slice_get code pc ≡ Some x → act_on (at_pc run pc) frames u (state_of w) x ≡ does (at_pc run pc) frames u (state_of w) s to (d w) → m w ≡ means again here s.line (d w) w → Stays r u (run.base + h) some
      → Goes P w.ticks frames run.base run.cell_base u (going P run pc frames w u) (single m w) (λ vs t. Got r t run.base some h to (first vs) × LoneIf false vs) (λ vs w t. going P run end frames w t)
  operates x s d m pc end h high to some r u w lw so lh la ee st e_act e_m st_u =
      both P n w.ticks lw frames run.base run.cell_base u _ (m w) _ _ (λ v w. gives (v ∷ []) w) _ _
      (subst (λ y. Goes P w.ticks frames run.base run.cell_base u (going P run pc frames w u) y (λ v t. Got u t run.base (run.cell_base + s.cells) high to v) (λ v w t. going P run end frames w t)) (sym e_m)
      (first_comes P w.ticks frames run.base run.cell_base u _ (stepping P w (does (at_pc run pc) frames u (state_of w) s to (d w))) (means again here s.line (d w) w) _ _
      (one_step P run pc frames u w x _ st e_act)
      (does_goes game n again invokes run frames (d w) s pc end high to u w lw la ee)))
      (λ v w t lw t_stays g. (t, omega arith, stays_self t run.base run.cell_base, (got_on r u t run.base some h high to v lh st_u (subst (λ k. Got u t run.base k high to v) (sym so) g), refl), comes_self _))

  -- two operands, and what is done with them
  operands : {A : Type 0} (a k : Expr) → Gets game n again invokes run frames a → Gets game n again invokes run frames k → (pc p2 h : ℕ) (scope : Scope) (env : Env) (r : Registers) (w : World) (rest : List Instr) (g : Value → Value → Act A) (Q : A → Registers → Type 0) (f : A → World → Registers → Thread) → w.ticks ≤ n → slot_count scope ≤ h
      → p2 ≡ pc + length (unless_ready (ready_slot a scope) (expr_code a file scope h h)) + length (unless_ready (ready k scope) (expr_code k file scope (suc h) (suc h)))
      → Stands code pc (unless_ready (ready_slot a scope) (expr_code a file scope h h) ++ (unless_ready (ready k scope) (expr_code k file scope (suc h) (suc h)) ++ rest)) → Holds r run.base run.cell_base scope env
      → ((x y : Value) (u : Registers) (w : World) → w.ticks ≤ n → u.slots (run.base + slot_place (ready_slot a scope) h) ≡ x → held_in u run.base (place (ready k scope) (suc h)) ≡ y → Stays r u (run.base + h) (run.cell_base + cell_count scope) → Stands code p2 rest → Goes P w.ticks frames run.base run.cell_base u (going P run p2 frames w u) (g x y w) Q f)
      → Goes P w.ticks frames run.base run.cell_base r (going P run pc frames w r) (one (eval again here a env) w >>> λ x w. one (eval again here k env) w >>> λ y w. g x y w) Q f
  operands a k ga gk pc p2 h scope env r w rest g Q f lw lh e2 st hs h_next =
      let some = run.cell_base + cell_count scope in
      let xs = unless_ready (ready_slot a scope) (expr_code a file scope h h) in
      let ys = unless_ready (ready k scope) (expr_code k file scope (suc h) (suc h)) in
      let p1 = pc + length xs in
      let st1 = back code pc p1 xs _ refl st in
      both P n w.ticks lw frames run.base run.cell_base r _ (one (eval again here a env) w) _ _ (λ x w. one (eval again here k env) w >>> λ y w. g x y w) _ _ (left game n again invokes run frames a ga pc p1 h scope env r w lw lh refl (front code pc xs _ st) hs)
      (λ x w t lw t_stays x_is.
      both P n w.ticks lw frames run.base run.cell_base t _ (one (eval again here k env) w) _ _ (λ y w. g x y w) _ _ (right game n again invokes run frames k gk p1 p2 (suc h) scope env t w lw (omega (arith, lh)) (omega (arith, e2)) (front code p1 ys _ st1) (holds_stays r t run.base run.cell_base scope env (run.base + h) some (omega (arith, lh)) (omega arith) x_is.1 hs))
      (λ y w u lw u_stays y_is.
      h_next x y u w lw (y_is.1.slots (run.base + slot_place (ready_slot a scope) h) (omega (arith, left_low a scope h lh)) ∙ x_is.0) y_is.0
      (stays_on r t u (run.base + h) (run.base + suc h) some some (omega arith) (omega arith) x_is.1 y_is.1) (back code p1 p2 ys _ (omega (arith, e2)) st1)))

  abbrev Plain : BinOp → Type 0
  Plain BinOp.or_ = ⊥
  Plain BinOp.and_ = ⊥
  Plain op = Unit {0}

  operate_is : (op : BinOp) (line : ℕ) (l r : Act Value) (w : World) → Plain op → operate again here line op l r w ≡ (l w >>> λ a w. r w >>> λ b w. binary_value again here line op a b w)
  operate_is BinOp.or_ line l r w p = absurd p
  operate_is BinOp.and_ line l r w p = absurd p
  operate_is op line l r w p = refl

  pub single_on : {A B C : Type 0} (e : Ends A) (f : A → Act B) (g : B → Act C) → ((e >>> λ a w. f a w) >>> λ b w. g b w) ≡ (e >>> λ a w. f a w >>> λ b w. g b w)
  single_on (gives a w) f g = refl
  single_on (fails v w) f g = refl
  single_on (out_of_steps w) f g = refl
  single_on (needs ask w) f g = refl

  single_twice : (e : Ends Value) (f : Value → Act Value) (g : Value → Value → Act Value) (h : Value → Act Value) → ((e >>> λ a w. h a w >>> λ b w. g a b w) >>> λ v w. gives (v ∷ []) w) ≡ (e >>> λ a w. h a w >>> λ b w. g a b w >>> λ v w. gives (v ∷ []) w)
  single_twice (gives a w) f g h = single_on (h a w) (g a) (λ v w. gives (v ∷ []) w)
  single_twice (fails v w) f g h = refl
  single_twice (out_of_steps w) f g h = refl
  single_twice (needs ask w) f g h = refl

  plain_goes : (op : BinOp) → Plain op → (line : ℕ) (a b : Expr) → GetsE a → GetsE b → (pc end h to : ℕ) (scope : Scope) (env : Env) (r : Registers) (w : World) → w.ticks ≤ n → slot_count scope ≤ h
      → end ≡ pc + length (unless_ready (ready_slot a scope) (expr_code a file scope h h) ++ (unless_ready (ready b scope) (expr_code b file scope (suc h) (suc h)) ++ i.binary (site line (h + 2) scope) op to (slot (slot_place (ready_slot a scope) h)) (place (ready b scope) (suc h)) ∷ []))
      → Stands code pc (unless_ready (ready_slot a scope) (expr_code a file scope h h) ++ (unless_ready (ready b scope) (expr_code b file scope (suc h) (suc h)) ++ i.binary (site line (h + 2) scope) op to (slot (slot_place (ready_slot a scope) h)) (place (ready b scope) (suc h)) ∷ [])) → Holds r run.base run.cell_base scope env
      → Goes P w.ticks frames run.base run.cell_base r (going P run pc frames w r) (single (operate again here line op (one (eval again here a env)) (one (eval again here b env))) w) (λ vs t. Got r t run.base (run.cell_base + cell_count scope) h to (first vs) × LoneIf false vs) (λ vs w t. going P run end frames w t)
  plain_goes op p line a b ga gb pc end h to scope env r w lw lh ee st hs =
      let some = run.cell_base + cell_count scope in
      let xs = unless_ready (ready_slot a scope) (expr_code a file scope h h) in
      let ys = unless_ready (ready b scope) (expr_code b file scope (suc h) (suc h)) in
      let o = place (ready b scope) (suc h) in
      let k = slot_place (ready_slot a scope) h in
      let ins = i.binary (site line (h + 2) scope) op to (slot k) o in
      let p2 = pc + length xs + length ys in
      let end_is : end ≡ p2 + 1 = omega (arith, ee, length-append xs (ys ++ ins ∷ []), length-append ys (ins ∷ [])) in
      subst (λ e. Goes P w.ticks frames run.base run.cell_base r (going P run pc frames w r) e (λ vs t. Got r t run.base some h to (first vs) × LoneIf false vs) (λ vs w t. going P run end frames w t))
      (sym (ap (λ e. e >>> λ v w. gives (v ∷ []) w) (operate_is op line (one (eval again here a env)) (one (eval again here b env)) w p) ∙ single_twice (one (eval again here a env) w) (λ v w. gives v w) (λ x y. binary_value again here line op x y) (λ x. one (eval again here b env))))
      (operands a b ga gb pc p2 h scope env r w (ins ∷ []) (λ x y. single (binary_value again here line op x y)) _ _ lw lh refl st hs
      (λ x y u w lw x_is y_is st_u st2.
      operates ins (site line (h + 2) scope) (λ w. binary_doing op w.store x y) (binary_value again here line op x y) p2 end h h to some r u w lw refl (omega arith) (omega arith) end_is st2.0
      (ap (λ v. does (at_pc run p2) frames u (state_of w) (site line (h + 2) scope) to (binary_doing op w.store v (operand (at_pc run p2) frames u (state_of w) o))) x_is
      ∙ ap (λ v. does (at_pc run p2) frames u (state_of w) (site line (h + 2) scope) to (binary_doing op w.store x v)) (operand_is (at_pc run p2) frames u (state_of w) o ∙ y_is))
      (binary_is again here line op x y w) st_u))

  -- ---- a single expression gives one value

  abbrev IsOne : Ends (List Value) → Type 0
  IsOne e = e ≡ ((e >>> λ vs w. gives (first vs) w) >>> λ v w. gives (v ∷ []) w)

  one_behind : {A : Type 0} (e : Ends A) (f : A → Act (List Value)) → ((a : A) (w : World) → IsOne (f a w)) → IsOne (e >>> λ a w. f a w)
  one_behind (gives a w) f h = h a w
  one_behind (fails v w) f h = refl
  one_behind (out_of_steps w) f h = refl
  one_behind (needs ask w) f h = refl

  one_single : (e : Ends Value) → IsOne (e >>> λ v w. gives (v ∷ []) w)
  one_single (gives v w) = refl
  one_single (fails v w) = refl
  one_single (out_of_steps w) = refl
  one_single (needs ask w) = refl

  gives_one : (e : Expr) (env : Env) (w : World) → is_many e ≡ false → IsOne (eval again here e env w)
  gives_one (nil line) env w h = refl
  gives_one (true_ line) env w h = refl
  gives_one (false_ line) env w h = refl
  gives_one (number line z) env w h = refl
  gives_one (str line s) env w h = refl
  gives_one (dots line) env w h = absurd (not_both (sym h))
  gives_one (function line f) env w h = refl
  gives_one (name line y) env w h = one_single _
  gives_one (index line a k) env w h = one_behind (one (eval again here a env) w) _ (λ base w. one_behind (one (eval again here k env) w) _ (λ key w. one_single _))
  gives_one (call line f es) env w h = absurd (not_both (sym h))
  gives_one (method line o y es) env w h = absurd (not_both (sym h))
  gives_one (table line fs) env w h = one_behind (fill again here line (length w.store.tables) 1 fs env (record w { store = add_table w.store })) _ (λ a w. refl)
  gives_one (unary line op a) env w h = one_behind (one (eval again here a env) w) _ (λ v w. one_single _)
  gives_one (binary line op a b) env w h = one_single _
  gives_one (paren line a) env w h = one_single _

  pub firsts_on : {B : Type 0} (e : Ends (List Value)) (g : Value → Act B) → ((e >>> λ vs w. gives (first vs) w) >>> λ v w. g v w) ≡ (e >>> λ vs w. g (first vs) w)
  firsts_on (gives vs w) g = refl
  firsts_on (fails v w) g = refl
  firsts_on (out_of_steps w) g = refl
  firsts_on (needs ask w) g = refl

  -- an expression of which the first value is used, in two ways of saying it
  by_first : {B : Type 0} (e : Expr) (env : Env) (w : World) (g : List Value → Act B) → is_many e ≡ false → (eval again here e env w >>> λ vs w. g vs w) ≡ (one (eval again here e env) w >>> λ v w. g (v ∷ []) w)
  by_first e env w g h = ap (λ y. y >>> λ vs w. g vs w) (gives_one e env w h) ∙ single_on (one (eval again here e env) w) (λ v w. gives (v ∷ []) w) g

  -- ---- all expressions

  abbrev Fills : Fields → Type 0
  Fills fs =
      (line t k pc end at : ℕ) (scope : Scope) (env : Env) (r : Registers) (w : World) → w.ticks ≤ n → slot_count scope ≤ at → end ≡ pc + length (fields_code fs line k file scope at) → Stands code pc (fields_code fs line k file scope at) → Holds r run.base run.cell_base scope env → r.slots (run.base + at) ≡ Value.table t
      → Goes P w.ticks frames run.base run.cell_base r (going P run pc frames w r) (fill again here line t k fs env w) (λ a u. Stays r u (run.base + suc at) (run.cell_base + cell_count scope)) (λ a w u. going P run end frames w u)

  -- an item that is one value
  item_goes : (e : Expr) (fs : Fields) → GetsE e → Fills fs → (line t k pc end at : ℕ) (scope : Scope) (env : Env) (r : Registers) (w : World) → w.ticks ≤ n → slot_count scope ≤ at
      → end ≡ pc + length ((unless_ready (ready e scope) (expr_code e file scope (suc at) (suc at)) ++ i.set_item at k (place (ready e scope) (suc at)) ∷ []) ++ fields_code fs line (k + 1) file scope at)
      → Stands code pc ((unless_ready (ready e scope) (expr_code e file scope (suc at) (suc at)) ++ i.set_item at k (place (ready e scope) (suc at)) ∷ []) ++ fields_code fs line (k + 1) file scope at) → Holds r run.base run.cell_base scope env → r.slots (run.base + at) ≡ Value.table t
      → Goes P w.ticks frames run.base run.cell_base r (going P run pc frames w r) (one (eval again here e env) w >>> λ v w. fill again here line t (k + 1) fs env (record w { store = set_items t k (v ∷ []) w.store })) (λ a u. Stays r u (run.base + suc at) (run.cell_base + cell_count scope)) (λ a w u. going P run end frames w u)
  item_goes e fs ge gfs line t k pc end at scope env r w lw lh ee st hs t_is =
      let some = run.cell_base + cell_count scope in
      let xs = unless_ready (ready e scope) (expr_code e file scope (suc at) (suc at)) in
      let o = place (ready e scope) (suc at) in
      let ins = i.set_item at k o in
      let rest = fields_code fs line (k + 1) file scope at in
      let p1 = pc + length xs in
      let st1 = front code pc (xs ++ ins ∷ []) rest st in
      let p2 = pc + length (xs ++ ins ∷ []) in
      let p2_is : p1 + 1 ≡ p2 = omega (arith, length-append xs (ins ∷ [])) in
      let st_ins = back code pc p1 xs (ins ∷ []) refl st1 in
      both P n w.ticks lw frames run.base run.cell_base r _ (one (eval again here e env) w) _ _ (λ v w. fill again here line t (k + 1) fs env (record w { store = set_items t k (v ∷ []) w.store })) _ _ (right game n again invokes run frames e ge pc p1 (suc at) scope env r w lw (omega (arith, lh)) refl (front code pc xs (ins ∷ []) st1) hs)
      (λ v w u lw u_stays v_is.
      let w' : World = record w { store = set_items t k (v ∷ []) w.store } in
      let table_is : u.slots (run.base + at) ≡ Value.table t = v_is.1.slots (run.base + at) (omega arith) ∙ t_is in
      first_comes P w.ticks frames run.base run.cell_base u _ (going P run p2 frames w' u) (fill again here line t (k + 1) fs env w') _ _
      (comes_on _ (going P run (p1 + 1) frames w' u) _ (one_step P run p1 frames u w ins _ st_ins.0
      (ap (λ v. stores (at_pc run p1) frames u (state_of w) (in_table (λ t s. set_items t k (v ∷ []) s) (u.slots (run.base + at)) w.store)) (operand_is (at_pc run p1) frames u (state_of w) o ∙ v_is.0)
      ∙ ap (λ q. stores (at_pc run p1) frames u (state_of w) (in_table (λ t s. set_items t k (v ∷ []) s) q w.store)) table_is)) (goes_at P run frames (p1 + 1) p2 w' u p2_is))
      (weaken w.ticks u _ (fill again here line t (k + 1) fs env w') _ _ _ (λ a q s. stays_on r u q (run.base + suc at) (run.base + suc at) some some (omega arith) (omega arith) v_is.1 s)
      (gfs line t (k + 1) p2 end at scope env u w' lw lh (omega (arith, ee, length-append (xs ++ ins ∷ []) rest)) (back code pc p2 (xs ++ ins ∷ []) rest refl st) (holds_stays r u run.base run.cell_base scope env (run.base + suc at) some (omega (arith, lh)) (omega arith) v_is.1 hs) table_is)))

  -- an item that is the last one, with all its values
  items_goes : (e : Expr) → Tails game n again invokes run frames e → (line t k pc end at : ℕ) (scope : Scope) (env : Env) (r : Registers) (w : World) → w.ticks ≤ n → slot_count scope ≤ at
      → end ≡ pc + length ((tail_code e file scope (suc at) ++ i.set_rest at k ∷ []) ++ []) → Stands code pc ((tail_code e file scope (suc at) ++ i.set_rest at k ∷ []) ++ []) → Holds r run.base run.cell_base scope env → r.slots (run.base + at) ≡ Value.table t
      → Goes P w.ticks frames run.base run.cell_base r (going P run pc frames w r) (fill again here line t k (item_and e no_fields) env w) (λ a u. Stays r u (run.base + suc at) (run.cell_base + cell_count scope)) (λ a w u. going P run end frames w u)
  items_goes e te line t k pc end at scope env r w lw lh ee st hs t_is =
      let some = run.cell_base + cell_count scope in
      let xs = tail_code e file scope (suc at) in
      let ins = i.set_rest at k in
      let p1 = pc + length xs in
      let st1 = front code pc (xs ++ ins ∷ []) [] st in
      let end_is : p1 + 1 ≡ end = omega (arith, ee, length-append (xs ++ ins ∷ []) [], length-append xs (ins ∷ [])) in
      let st_ins = back code pc p1 xs (ins ∷ []) refl st1 in
      both P n w.ticks lw frames run.base run.cell_base r _ (eval again here e env w) _ _ (λ vs w. gives tt (record w { store = set_items t k vs w.store })) _ _ (te pc p1 (suc at) scope env r w lw (omega (arith, lh)) refl (front code pc xs (ins ∷ []) st1) hs)
      (λ vs w u lw u_stays v_is.
      let w' : World = record w { store = set_items t k vs w.store } in (
        u,
        omega arith,
        stays_self u run.base run.cell_base,
        v_is.1,
        comes_on _ (going P run (p1 + 1) frames w' u) _ (one_step P run p1 frames u w ins _ st_ins.0
            (ap (λ vs. stores (at_pc run p1) frames u (state_of w) (in_table (λ t s. set_items t k vs s) (u.slots (run.base + at)) w.store)) v_is.0
            ∙ ap (λ q. stores (at_pc run p1) frames u (state_of w) (in_table (λ t s. set_items t k vs s) q w.store)) (v_is.1.slots (run.base + at) (omega arith) ∙ t_is))) (goes_at P run frames (p1 + 1) end w' u end_is),
      ))

  -- the last item of a table
  last_item : (b : Bool) (e : Expr) → is_many e ≡ b → GetsE e → (is_many e ≡ true → Tails game n again invokes run frames e) → Fills no_fields → (line t k pc end at : ℕ) (scope : Scope) (env : Env) (r : Registers) (w : World) → w.ticks ≤ n → slot_count scope ≤ at
      → end ≡ pc + length ((if b then tail_code e file scope (suc at) ++ i.set_rest at k ∷ [] else unless_ready (ready e scope) (expr_code e file scope (suc at) (suc at)) ++ i.set_item at k (place (ready e scope) (suc at)) ∷ []) ++ [])
      → Stands code pc ((if b then tail_code e file scope (suc at) ++ i.set_rest at k ∷ [] else unless_ready (ready e scope) (expr_code e file scope (suc at) (suc at)) ++ i.set_item at k (place (ready e scope) (suc at)) ∷ []) ++ []) → Holds r run.base run.cell_base scope env → r.slots (run.base + at) ≡ Value.table t
      → Goes P w.ticks frames run.base run.cell_base r (going P run pc frames w r) (fill again here line t k (item_and e no_fields) env w) (λ a u. Stays r u (run.base + suc at) (run.cell_base + cell_count scope)) (λ a w u. going P run end frames w u)
  last_item true e b_is ge te gfs line t k pc end at scope env r w lw lh ee st hs t_is = items_goes e (te b_is) line t k pc end at scope env r w lw lh ee st hs t_is
  last_item false e b_is ge te gfs line t k pc end at scope env r w lw lh ee st hs t_is =
      subst (λ y. Goes P w.ticks frames run.base run.cell_base r (going P run pc frames w r) y (λ a u. Stays r u (run.base + suc at) (run.cell_base + cell_count scope)) (λ a w u. going P run end frames w u))
      (sym (by_first e env w (λ vs w. gives tt (record w { store = set_items t k vs w.store })) b_is))
      (item_goes e no_fields ge gfs line t k pc end at scope env r w lw lh ee st hs t_is)

  -- the last expression of a list
  last_goes : (b : Bool) (e : Expr) → is_many e ≡ b → GetsE e → (is_many e ≡ true → Tails game n again invokes run frames e) → (pc end h : ℕ) (scope : Scope) (env : Env) (r : Registers) (w : World) → w.ticks ≤ n → slot_count scope ≤ h → end ≡ pc + length ((if b then tail_code e file scope h else expr_code e file scope h h) ++ []) → Stands code pc ((if b then tail_code e file scope h else expr_code e file scope h h) ++ []) → Holds r run.base run.cell_base scope env
      → Goes P w.ticks frames run.base run.cell_base r (going P run pc frames w r) (evals again here (expr_and e no_exprs) env w) (λ vs t. (listed t (run.base + h) (if b then 0 else 1) b ≡ vs) × Stays r t (run.base + h) (run.cell_base + cell_count scope)) (λ vs w t. going P run end frames w t)
  last_goes true e b_is ge te pc end h scope env r w lw lh ee st hs =
      let xs = tail_code e file scope h in
      both P n w.ticks lw frames run.base run.cell_base r _ (eval again here e env w) _ _ (λ vs w. gives vs w) _ _ (te b_is pc end h scope env r w lw lh (omega (arith, ee, length-append xs [])) (front code pc xs [] st) hs)
      (λ vs w t lw t_stays g. (t, omega arith, stays_self t run.base run.cell_base, g, comes_self _))
  last_goes false e b_is ge te pc end h scope env r w lw lh ee st hs =
      let xs = expr_code e file scope h h in
      let some = run.cell_base + cell_count scope in
      both P n w.ticks lw frames run.base run.cell_base r _ (eval again here e env w) _ _ (λ vs w. gives vs w) _ _ (ge pc end h h scope env r w lw lh (omega (arith, ee, length-append xs [])) (front code pc xs [] st) hs)
      (λ vs w t lw t_stays g. (t, omega arith, stays_self t run.base run.cell_base, (ap (λ v. v ∷ []) g.0.value ∙ sym (subst (λ b. LoneIf b vs) b_is g.1), got_stays r t run.base some h (first vs) g.0), comes_self _))

  -- and, or: the second operand is evaluated where the first one doesn't decide
  decides : (b take : Bool) (e : Expr) → GetsE e → (v : Value) (pc p1 p2 h : ℕ) (scope : Scope) (env : Env) (r u : Registers) (w : World) → w.ticks ≤ n → slot_count scope ≤ h → p1 ≡ pc + 1 → p2 ≡ p1 + length (expr_code e file scope h h) → Stands code p1 (expr_code e file scope h h) → Holds u run.base run.cell_base scope env → u.slots (run.base + h) ≡ v → Stays r u (run.base + h) (run.cell_base + cell_count scope)
      → Goes P w.ticks frames run.base run.cell_base u (stepping P w (if b then on (record { active = lua (at_pc run (pc + 1)); frames = frames; registers = u; state = state_of w }) else on (record { active = lua (at_pc run (pc + 1 + length (expr_code e file scope h h))); frames = frames; registers = u; state = state_of w }))) ((if b then one (eval again here e env) else (λ w. gives v w)) w) (λ v t. (t.slots (run.base + h) ≡ v) × Stays r t (run.base + h) (run.cell_base + cell_count scope)) (λ v w t. going P run p2 frames w t)
  decides true take e ge v pc p1 p2 h scope env r u w lw lh e1 e2 st hs v_is st_u =
      let some = run.cell_base + cell_count scope in
      first_comes P w.ticks frames run.base run.cell_base u _ (going P run p1 frames w u) (one (eval again here e env) w) _ _ (goes_at P run frames (pc + 1) p1 w u (sym e1))
      (weaken w.ticks u _ (one (eval again here e env) w) _ _ _ (λ v t x. (x.0, stays_on r u t (run.base + h) (run.base + h) some some (omega arith) (omega arith) st_u x.1))
      (evaluated game n again invokes run frames e ge p1 p2 h scope env u w lw lh e2 st hs))
  decides false take e ge v pc p1 p2 h scope env r u w lw lh e1 e2 st hs v_is st_u = (u, omega arith, stays_self u run.base run.cell_base, (v_is, st_u), goes_at P run frames (pc + 1 + length (expr_code e file scope h h)) p2 w u (omega (arith, e1, e2)))

  decides_or : (b : Bool) (e : Expr) → GetsE e → (v : Value) (pc p1 p2 h : ℕ) (scope : Scope) (env : Env) (r u : Registers) (w : World) → w.ticks ≤ n → slot_count scope ≤ h → p1 ≡ pc + 1 → p2 ≡ p1 + length (expr_code e file scope h h) → Stands code p1 (expr_code e file scope h h) → Holds u run.base run.cell_base scope env → u.slots (run.base + h) ≡ v → Stays r u (run.base + h) (run.cell_base + cell_count scope)
      → Goes P w.ticks frames run.base run.cell_base u (stepping P w (jumps (at_pc run pc) frames u (state_of w) b (pc + 1 + length (expr_code e file scope h h)))) ((if b then (λ w. gives v w) else one (eval again here e env)) w) (λ v t. (t.slots (run.base + h) ≡ v) × Stays r t (run.base + h) (run.cell_base + cell_count scope)) (λ v w t. going P run p2 frames w t)
  decides_or false e ge v pc p1 p2 h scope env r u w lw lh e1 e2 st hs v_is st_u = decides true true e ge v pc p1 p2 h scope env r u w lw lh e1 e2 st hs v_is st_u
  decides_or true e ge v pc p1 p2 h scope env r u w lw lh e1 e2 st hs v_is st_u = decides false true e ge v pc p1 p2 h scope env r u w lw lh e1 e2 st hs v_is st_u

  from_stays : {A : Type 0} (m : ℕ) (r t : Registers) (K : Thread) (e : Ends A) (P1 : A → Registers → Type 0) (f : A → World → Registers → Thread) → Stays r t run.base run.cell_base → Goes P m frames run.base run.cell_base t K e P1 f → Goes P m frames run.base run.cell_base r K e P1 f
  from_stays m r t K e P1 f h g = first_stays P m frames run.base run.cell_base r t K e P1 f h g

  -- an object, its method, and the arguments behind it
  method_goes : {A : Type 0} (o : Expr) (y : Bytes) (es : Exprs) → GetsE o → Lists game n again invokes run frames es → (line pc p1 p2 h : ℕ) (scope : Scope) (env : Env) (r : Registers) (w : World) (rest : List Instr) (g : Value → List Value → Act A) (Q : A → Registers → Type 0) (f : A → World → Registers → Thread) → w.ticks ≤ n → slot_count scope ≤ h
      → p1 ≡ pc + length (expr_code o file scope (suc h) (suc h)) → p2 ≡ p1 + 1 + length (exprs_code es file scope (h + 2))
      → Stands code pc (expr_code o file scope (suc h) (suc h) ++ i.get_field (site line (h + 2) scope) h (slot (suc h)) (constant (Value.str y)) ∷ (exprs_code es file scope (h + 2) ++ rest)) → Holds r run.base run.cell_base scope env
      → ((v : Value) (vs : List Value) (u : Registers) (w : World) → w.ticks ≤ n → u.slots (run.base + h) ≡ v → listed u (run.base + suc h) (suc (count es)) (tailed es) ≡ vs → Stays r u (run.base + h) (run.cell_base + cell_count scope) → Goes P w.ticks frames run.base run.cell_base u (going P run p2 frames w u) (g v vs w) Q f)
      → Goes P w.ticks frames run.base run.cell_base r (going P run pc frames w r) (one (eval again here o env) w >>> λ object w. field again here line object (Value.str y) w >>> λ v w. evals again here es env w >>> λ vs w. g v (object ∷ vs) w) Q f
  method_goes o y es go ges line pc p1 p2 h scope env r w rest g Q f lw lh e1 e2 st hs h_next =
      let some = run.cell_base + cell_count scope in
      let xs = expr_code o file scope (suc h) (suc h) in
      let s1 = site line (h + 2) scope in
      let get = i.get_field s1 h (slot (suc h)) (constant (Value.str y)) in
      let ys = exprs_code es file scope (h + 2) in
      let st1 = back code pc p1 xs _ e1 st in
      let two : suc (run.base + suc h) ≡ run.base + (h + 2) = omega arith in
      both P n w.ticks lw frames run.base run.cell_base r _ (one (eval again here o env) w) _ _ (λ object w. field again here line object (Value.str y) w >>> λ v w. evals again here es env w >>> λ vs w. g v (object ∷ vs) w) _ _ (evaluated game n again invokes run frames o go pc p1 (suc h) scope env r w lw (omega (arith, lh)) e1 (front code pc xs _ st) hs)
      (λ object w t lw t_stays o_is.
      both P n w.ticks lw frames run.base run.cell_base t _ (field again here line object (Value.str y) w) _ _ (λ v w. evals again here es env w >>> λ vs w. g v (object ∷ vs) w) _ _
      (subst (λ m. Goes P w.ticks frames run.base run.cell_base t (going P run p1 frames w t) m (λ v q. Got t q run.base some (h + 2) h v) (λ v w q. going P run (p1 + 1) frames w q)) (sym (field_is again here line object (Value.str y) w))
      (first_comes P w.ticks frames run.base run.cell_base t _ (stepping P w (does (at_pc run p1) frames t (state_of w) s1 h (field_doing w.store object (Value.str y)))) (means again here line (field_doing w.store object (Value.str y)) w) _ _
      (one_step P run p1 frames t w get _ st1.0 (ap (λ v. does (at_pc run p1) frames t (state_of w) s1 h (field_doing w.store v (Value.str y))) o_is.0))
      (does_goes game n again invokes run frames (field_doing w.store object (Value.str y)) s1 p1 (p1 + 1) (h + 2) h t w lw (omega arith) refl)))
      (λ v w q lw q_stays got.
      let st_q : Stays r q (run.base + h) some = record {
        slots = λ k l. got.others k (omega (arith, l)) (differs k (run.base + h) l) ∙ o_is.1.slots k (omega (arith, l));
        cells = λ k l. got.cells k l ∙ o_is.1.cells k l;
      } in
      let object_there : q.slots (run.base + suc h) ≡ object = got.others (run.base + suc h) (omega arith) (differs_above (run.base + suc h) (run.base + h) (omega arith)) ∙ o_is.0 in
      both P n w.ticks lw frames run.base run.cell_base q _ (evals again here es env w) _ _ (λ vs w. g v (object ∷ vs) w) _ _ (ges (p1 + 1) p2 (h + 2) scope env q w lw (omega (arith, lh)) e2 (front code (p1 + 1) ys _ st1.1) (holds_stays r q run.base run.cell_base scope env (run.base + h) some (omega (arith, lh)) (omega arith) st_q hs))
      (λ vs w u lw u_stays vs_are.
      h_next v (object ∷ vs) u w lw (vs_are.1.slots (run.base + h) (omega arith) ∙ got.value)
      (listed_more u (run.base + suc h) (count es) (tailed es) ∙ ap (λ v. v ∷ listed u (suc (run.base + suc h)) (count es) (tailed es)) (vs_are.1.slots (run.base + suc h) (omega arith) ∙ object_there) ∙ ap (λ l. object ∷ l) (ap (λ k. listed u k (count es) (tailed es)) two ∙ vs_are.0))
      (stays_on r q u (run.base + h) (run.base + (h + 2)) some some (omega arith) (omega arith) st_q vs_are.1))))

  -- a field with a key
  keyed_goes : (q e : Expr) (fs : Fields) → GetsE q → GetsE e → Fills fs → Fills (keyed_and q e fs)
  keyed_goes q e fs gq ge gfs line t k pc end at scope env r w lw lh ee st hs t_is =
      let some = run.cell_base + cell_count scope in
      let xs = unless_ready (ready q scope) (expr_code q file scope (suc at) (suc at)) in
      let ys = unless_ready (ready e scope) (expr_code e file scope (at + 2) (at + 2)) in
      let ok = place (ready q scope) (suc at) in
      let ov = place (ready e scope) (at + 2) in
      let s = site line (at + 3) scope in
      let ins = i.set_new s at ok ov in
      let zs = fields_code fs line k file scope at in
      let p1 = pc + length xs in
      let p2 = p1 + length ys in
      let st1 = back code pc p1 xs _ refl st in
      let st2 = back code p1 p2 ys _ refl st1 in
      let place_is : run.base + (at + 2) ≡ run.base + suc (suc at) = omega arith in
      both P n w.ticks lw frames run.base run.cell_base r _ (one (eval again here q env) w) _ _ (λ key w. one (eval again here e env) w >>> λ v w. set_raw again here line t key v w >>> λ a w. fill again here line t k fs env w) _ _ (right game n again invokes run frames q gq pc p1 (suc at) scope env r w lw (omega (arith, lh)) refl (front code pc xs _ st) hs)
      (λ key w u lw u_stays key_is.
      both P n w.ticks lw frames run.base run.cell_base u _ (one (eval again here e env) w) _ _ (λ v w. set_raw again here line t key v w >>> λ a w. fill again here line t k fs env w) _ _ (right game n again invokes run frames e ge p1 p2 (at + 2) scope env u w lw (omega (arith, lh)) refl (front code p1 ys _ st1) (holds_stays r u run.base run.cell_base scope env (run.base + suc at) some (omega (arith, lh)) (omega arith) key_is.1 hs))
      (λ v w z lw z_stays v_is.
      let st_z : Stays r z (run.base + suc at) some = stays_on r u z (run.base + suc at) (run.base + (at + 2)) some some (omega arith) (omega arith) key_is.1 v_is.1 in
      let key_there : held_in z run.base ok ≡ key = right_stays q scope (suc at) (at + 2) run.base some u z (omega (arith, lh)) (omega arith) v_is.1 ∙ key_is.0 in
      both P n w.ticks lw frames run.base run.cell_base z _ (set_raw again here line t key v w) _ _ (λ a w. fill again here line t k fs env w) _ _
      (first_comes P w.ticks frames run.base run.cell_base z _ (stepping P w (sets_raw (at_pc run p2) frames z (state_of w) s t key v)) (set_raw again here line t key v w) _ _
      (one_step P run p2 frames z w ins _ st2.0
      (ap (λ q. sets_new (at_pc run p2) frames z (state_of w) s q (operand (at_pc run p2) frames z (state_of w) ok) (operand (at_pc run p2) frames z (state_of w) ov)) (st_z.slots (run.base + at) (omega arith) ∙ t_is)
      ∙ ap (λ x. sets_raw (at_pc run p2) frames z (state_of w) s t x (operand (at_pc run p2) frames z (state_of w) ov)) (operand_is (at_pc run p2) frames z (state_of w) ok ∙ key_there)
      ∙ ap (λ x. sets_raw (at_pc run p2) frames z (state_of w) s t key x) (operand_is (at_pc run p2) frames z (state_of w) ov ∙ v_is.0)))
      (raw_goes s t key v p2 (p2 + 1) z w refl))
      (λ a w z' lw z_stays same_z.
      let st_z' : Stays r z' (run.base + suc at) some = subst (λ z. Stays r z (run.base + suc at) some) (sym same_z) st_z in
      weaken w.ticks z' _ (fill again here line t k fs env w) _ _ _ (λ a x s. stays_on r z' x (run.base + suc at) (run.base + suc at) some some (omega arith) (omega arith) st_z' s)
      (gfs line t k (p2 + 1) end at scope env z' w lw lh (omega (arith, ee, length-append xs (ys ++ ins ∷ zs), length-append ys (ins ∷ zs))) st2.1 (holds_stays r z' run.base run.cell_base scope env (run.base + suc at) some (omega (arith, lh)) (omega arith) st_z' hs) (st_z'.slots (run.base + at) (omega arith) ∙ t_is)))))

  mutual
    pub expr_goes : (e : Expr) → GetsE e
    expr_goes (nil line) pc end h to scope env r w lw lh ee st hs = loads P run frames false (i.load to (constant Value.nil)) (Value.nil ∷ []) pc end h to (run.cell_base + cell_count scope) r w st.0 refl ee refl
    expr_goes (true_ line) pc end h to scope env r w lw lh ee st hs = loads P run frames false (i.load to (constant (Value.flag true))) (Value.flag true ∷ []) pc end h to (run.cell_base + cell_count scope) r w st.0 refl ee refl
    expr_goes (false_ line) pc end h to scope env r w lw lh ee st hs = loads P run frames false (i.load to (constant (Value.flag false))) (Value.flag false ∷ []) pc end h to (run.cell_base + cell_count scope) r w st.0 refl ee refl
    expr_goes (number line z) pc end h to scope env r w lw lh ee st hs = loads P run frames false (i.load to (constant (Value.num z))) (Value.num z ∷ []) pc end h to (run.cell_base + cell_count scope) r w st.0 refl ee refl
    expr_goes (str line s) pc end h to scope env r w lw lh ee st hs = loads P run frames false (i.load to (constant (Value.str s))) (Value.str s ∷ []) pc end h to (run.cell_base + cell_count scope) r w st.0 refl ee refl
    expr_goes (dots line) pc end h to scope env r w lw lh ee st hs = loads P run frames true (i.first_extra to) run.extra pc end h to (run.cell_base + cell_count scope) r w st.0 refl ee tt
    expr_goes (function line f) pc end h to scope env r w lw lh ee st hs =
        let some = run.cell_base + cell_count scope in
        let closure : Closure = record { file = file; node = f; cells = locals.cells_of (func_names f) env } in
        let w' : World = record w { functions = w.functions ++ closure ∷ [] } in
        let v = Value.func (length w.functions) in
        let t = put_slot r (run.base + to) v in
        let ins = i.close to (func_code f file (cell_names scope (func_names f))) (cell_places scope (func_names f)) in (
          t,
          omega arith,
          stays_put r r run.base run.cell_base (run.base + to) v (omega arith) (stays_self r run.base run.cell_base),
          (lands r r run.base some h to v (stays_self r (run.base + h) some), refl),
          comes_on _ (going P run (pc + 1) frames w' t) _ (one_step P run pc frames r w ins _ st.0
              (ap (λ m. on (record { active = lua (at_pc run (pc + 1)); frames = frames; registers = put_slot r (run.base + to) (Value.func m); state = record (state_of w) { functions = map made_of w.functions ++ record { code = func_code f file (cell_names scope (func_names f)); cells = map (λ k. r.cells (run.cell_base + k)) (cell_places scope (func_names f)) } ∷ [] } })) (length-map w.functions made_of)
              ∙ ap (λ fs. on (record { active = lua (at_pc run (pc + 1)); frames = frames; registers = t; state = record (state_of w) { functions = fs } })) (one_made file f scope env r run.base run.cell_base w.functions hs))) (goes_at P run frames (pc + 1) end w' t (sym ee)),
        )
    expr_goes (name line y) pc end h to scope env r w lw lh ee st hs = name_goes game n again invokes run frames (seat_of scope y) (find y env) line y pc end h to scope r w lw ee st (reads r run.base run.cell_base scope env y hs)
    expr_goes (index line a k) pc end h to scope env r w lw lh ee st hs =
        let some = run.cell_base + cell_count scope in
        let xs = unless_ready (ready_slot a scope) (expr_code a file scope h h) in
        let ys = unless_ready (ready k scope) (expr_code k file scope (suc h) (suc h)) in
        let o = place (ready k scope) (suc h) in
        let q = slot_place (ready_slot a scope) h in
        let s = site line (h + 2) scope in
        let ins = i.get_field s to (slot q) o in
        let p2 = pc + length xs + length ys in
        let end_is : end ≡ p2 + 1 = omega (arith, ee, length-append xs (ys ++ ins ∷ []), length-append ys (ins ∷ [])) in
        operands a k (expr_goes a) (expr_goes k) pc p2 h scope env r w (ins ∷ []) (λ base key. single (field again here line base key)) _ _ lw lh refl st hs
        (λ base key u w lw base_is key_is st_u st2.
        operates ins s (λ w. field_doing w.store base key) (field again here line base key) p2 end h h to some r u w lw refl (omega arith) (omega arith) end_is st2.0
        (ap (λ v. does (at_pc run p2) frames u (state_of w) s to (field_doing w.store v (operand (at_pc run p2) frames u (state_of w) o))) base_is
        ∙ ap (λ v. does (at_pc run p2) frames u (state_of w) s to (field_doing w.store base v)) (operand_is (at_pc run p2) frames u (state_of w) o ∙ key_is))
        (field_is again here line base key w) st_u)
    expr_goes (call line f es) pc end h to scope env r w lw lh ee st hs =
        let some = run.cell_base + cell_count scope in
        let xs = expr_code f file scope h h in
        let ys = exprs_code es file scope (suc h) in
        let s = site line h scope in
        let ins = i.invoke s (i.to_slot h) h (count es) (tailed es) in
        let p1 = pc + length xs in
        let p2 = p1 + length ys in
        let st1 = back code pc p1 xs _ refl st in
        let end_is : end ≡ p2 + suc (length (settle to h)) = omega (arith, ee, length-append xs (ys ++ ins ∷ settle to h), length-append ys (ins ∷ settle to h)) in
        both P n w.ticks lw frames run.base run.cell_base r _ (one (eval again here f env) w) _ _ (λ v w. evals again here es env w >>> λ vs w. call_at again here line v vs w) _ _ (evaluated game n again invokes run frames f (expr_goes f) pc p1 h scope env r w lw lh refl (front code pc xs _ st) hs)
        (λ v w t lw t_stays v_is.
        both P n w.ticks lw frames run.base run.cell_base t _ (evals again here es env w) _ _ (λ vs w. call_at again here line v vs w) _ _ (exprs_goes es p1 p2 (suc h) scope env t w lw (omega (arith, lh)) refl (front code p1 ys _ st1) (holds_stays r t run.base run.cell_base scope env (run.base + h) some (omega (arith, lh)) (omega arith) v_is.1 hs))
        (λ vs w u lw u_stays vs_are.
        calls_one s v vs p2 end h to (count es) some (tailed es) r u w lw refl end_is (back code p1 p2 ys _ refl st1) (vs_are.1.slots (run.base + h) (omega arith) ∙ v_is.0) vs_are.0 (stays_on r t u (run.base + h) (run.base + suc h) some some (omega arith) (omega arith) v_is.1 vs_are.1)))
    expr_goes (method line o y es) pc end h to scope env r w lw lh ee st hs =
        let some = run.cell_base + cell_count scope in
        let xs = expr_code o file scope (suc h) (suc h) in
        let s1 = site line (h + 2) scope in
        let get = i.get_field s1 h (slot (suc h)) (constant (Value.str y)) in
        let ys = exprs_code es file scope (h + 2) in
        let s = site line h scope in
        let ins = i.invoke s (i.to_slot h) h (suc (count es)) (tailed es) in
        let p1 = pc + length xs in
        let p2 = p1 + 1 + length ys in
        let st1 = back code pc p1 xs _ refl st in
        let end_is : end ≡ p2 + suc (length (settle to h)) = omega (arith, ee, length-append xs (get ∷ (ys ++ ins ∷ settle to h)), length-append ys (ins ∷ settle to h)) in
        method_goes o y es (expr_goes o) (exprs_goes es) line pc p1 p2 h scope env r w (ins ∷ settle to h) (λ v vs. call_at again here line v vs) _ _ lw lh refl refl st hs
        (λ f vs u w lw f_is vs_are st_u.
        calls_one s f vs p2 end h to (suc (count es)) some (tailed es) r u w lw refl end_is (back code (p1 + 1) p2 ys _ refl st1.1) f_is vs_are st_u)
    expr_goes (table line fs) pc end h to scope env r w lw lh ee st hs =
        let some = run.cell_base + cell_count scope in
        let v = Value.table (length w.store.tables) in
        let w1 : World = record w { store = add_table w.store } in
        let t = put_slot r (run.base + h) v in
        let xs = fields_code fs line 1 file scope h in
        let p2 = pc + 1 + length xs in
        let end_is : end ≡ p2 + length (settle to h) = omega (arith, ee, length-append xs (settle to h)) in
        let g = lands r r run.base some h h v (stays_self r (run.base + h) some) in
        let st_t = got_stays r t run.base some h v g in
        first_comes P w.ticks frames run.base run.cell_base r _ (going P run (pc + 1) frames w1 t) (fill again here line (length w.store.tables) 1 fs env w1 >>> λ a w. gives (v ∷ []) w) _ _ (one_step P run pc frames r w (i.new_table h) _ st.0 refl)
        (from_stays w.ticks r t _ (fill again here line (length w.store.tables) 1 fs env w1 >>> λ a w. gives (v ∷ []) w) _ _ (stays_put r r run.base run.cell_base (run.base + h) v (omega arith) (stays_self r run.base run.cell_base))
        (both P n w.ticks lw frames run.base run.cell_base t _ (fill again here line (length w.store.tables) 1 fs env w1) _ _ (λ a w. gives (v ∷ []) w) _ _ (fields_goes fs line (length w.store.tables) 1 (pc + 1) p2 h scope env t w1 lw lh refl (front code (pc + 1) xs _ st.1) (holds_stays r t run.base run.cell_base scope env (run.base + h) some (omega (arith, lh)) (omega arith) st_t hs) g.value)
        (λ a w u lw u_stays st_u.
        settles (to == h) false (v ∷ []) p2 end h to some r u w refl end_is (back code (pc + 1) p2 xs _ refl st.1) (st_u.slots (run.base + h) (omega arith) ∙ g.value) (stays_on r t u (run.base + h) (run.base + suc h) some some (omega arith) (omega arith) st_t st_u) refl)))
    expr_goes (unary line op a) pc end h to scope env r w lw lh ee st hs =
        let some = run.cell_base + cell_count scope in
        let xs = unless_ready (ready_slot a scope) (expr_code a file scope h h) in
        let q = slot_place (ready_slot a scope) h in
        let s = site line (suc h) scope in
        let ins = i.unary s op to (slot q) in
        let p1 = pc + length xs in
        let end_is : end ≡ p1 + 1 = omega (arith, ee, length-append xs (ins ∷ [])) in
        both P n w.ticks lw frames run.base run.cell_base r _ (one (eval again here a env) w) _ _ (λ v w. single (unary_value again here line op v) w) _ _ (left game n again invokes run frames a (expr_goes a) pc p1 h scope env r w lw lh refl (front code pc xs _ st) hs)
        (λ v w u lw u_stays v_is.
        operates ins s (λ w. unary_doing op w.store v) (unary_value again here line op v) p1 end h h to some r u w lw refl (omega arith) (omega arith) end_is (back code pc p1 xs _ refl st).0
        (ap (λ v. does (at_pc run p1) frames u (state_of w) s to (unary_doing op w.store v)) v_is.0)
        (unary_is again here line op v w) v_is.1)
    expr_goes (binary line BinOp.and_ a b) pc end h to scope env r w lw lh ee st hs =
        let some = run.cell_base + cell_count scope in
        let xs = expr_code a file scope h h in
        let ys = expr_code b file scope h h in
        let ins = i.skip_unless h (length ys) in
        let p1 = pc + length xs in
        let p2 = p1 + 1 + length ys in
        let st1 = back code pc p1 xs _ refl st in
        let end_is : end ≡ p2 + length (settle to h) = omega (arith, ee, length-append xs (ins ∷ (ys ++ settle to h)), length-append ys (settle to h)) in
        both P n w.ticks lw frames run.base run.cell_base r _ (one (eval again here a env) w >>> λ v w. (if is_true v then one (eval again here b env) else (λ w. gives v w)) w) _ _ (λ v w. gives (v ∷ []) w) _ _
        (both P n w.ticks lw frames run.base run.cell_base r _ (one (eval again here a env) w) _ _ (λ v w. (if is_true v then one (eval again here b env) else (λ w. gives v w)) w) _ _ (evaluated game n again invokes run frames a (expr_goes a) pc p1 h scope env r w lw lh refl (front code pc xs _ st) hs)
        (λ v w u lw u_stays v_is.
        first_comes P w.ticks frames run.base run.cell_base u _ (stepping P w (if is_true v then on (record { active = lua (at_pc run (p1 + 1)); frames = frames; registers = u; state = state_of w }) else on (record { active = lua (at_pc run (p1 + 1 + length ys)); frames = frames; registers = u; state = state_of w }))) ((if is_true v then one (eval again here b env) else (λ w. gives v w)) w) _ _
        (one_step P run p1 frames u w ins _ st1.0 (ap (λ v. if is_true v then on (record { active = lua (at_pc run (p1 + 1)); frames = frames; registers = u; state = state_of w }) else on (record { active = lua (at_pc run (p1 + 1 + length ys)); frames = frames; registers = u; state = state_of w })) v_is.0))
        (decides (is_true v) true b (expr_goes b) v p1 (p1 + 1) p2 h scope env r u w lw lh refl refl (front code (p1 + 1) ys _ st1.1) (holds_stays r u run.base run.cell_base scope env (run.base + h) some (omega (arith, lh)) (omega arith) v_is.1 hs) v_is.0 v_is.1)))
        (λ v w u lw u_stays v_is.
        settles (to == h) false (v ∷ []) p2 end h to some r u w refl end_is (back code (p1 + 1) p2 ys _ refl st1.1) v_is.0 v_is.1 refl)
    expr_goes (binary line BinOp.or_ a b) pc end h to scope env r w lw lh ee st hs =
        let some = run.cell_base + cell_count scope in
        let xs = expr_code a file scope h h in
        let ys = expr_code b file scope h h in
        let ins = i.skip_if h (length ys) in
        let p1 = pc + length xs in
        let p2 = p1 + 1 + length ys in
        let st1 = back code pc p1 xs _ refl st in
        let end_is : end ≡ p2 + length (settle to h) = omega (arith, ee, length-append xs (ins ∷ (ys ++ settle to h)), length-append ys (settle to h)) in
        both P n w.ticks lw frames run.base run.cell_base r _ (one (eval again here a env) w >>> λ v w. (if is_true v then (λ w. gives v w) else one (eval again here b env)) w) _ _ (λ v w. gives (v ∷ []) w) _ _
        (both P n w.ticks lw frames run.base run.cell_base r _ (one (eval again here a env) w) _ _ (λ v w. (if is_true v then (λ w. gives v w) else one (eval again here b env)) w) _ _ (evaluated game n again invokes run frames a (expr_goes a) pc p1 h scope env r w lw lh refl (front code pc xs _ st) hs)
        (λ v w u lw u_stays v_is.
        first_comes P w.ticks frames run.base run.cell_base u _ (stepping P w (jumps (at_pc run p1) frames u (state_of w) (is_true v) (p1 + 1 + length ys))) ((if is_true v then (λ w. gives v w) else one (eval again here b env)) w) _ _
        (one_step P run p1 frames u w ins _ st1.0 (ap (λ v. jumps (at_pc run p1) frames u (state_of w) (is_true v) (p1 + 1 + length ys)) v_is.0))
        (decides_or (is_true v) b (expr_goes b) v p1 (p1 + 1) p2 h scope env r u w lw lh refl refl (front code (p1 + 1) ys _ st1.1) (holds_stays r u run.base run.cell_base scope env (run.base + h) some (omega (arith, lh)) (omega arith) v_is.1 hs) v_is.0 v_is.1)))
        (λ v w u lw u_stays v_is.
        settles (to == h) false (v ∷ []) p2 end h to some r u w refl end_is (back code (p1 + 1) p2 ys _ refl st1.1) v_is.0 v_is.1 refl)
    expr_goes (binary line BinOp.less a b) pc end h to scope env r w lw lh ee st hs = plain_goes BinOp.less tt line a b (expr_goes a) (expr_goes b) pc end h to scope env r w lw lh ee st hs
    expr_goes (binary line BinOp.greater a b) pc end h to scope env r w lw lh ee st hs = plain_goes BinOp.greater tt line a b (expr_goes a) (expr_goes b) pc end h to scope env r w lw lh ee st hs
    expr_goes (binary line BinOp.less_equal a b) pc end h to scope env r w lw lh ee st hs = plain_goes BinOp.less_equal tt line a b (expr_goes a) (expr_goes b) pc end h to scope env r w lw lh ee st hs
    expr_goes (binary line BinOp.greater_equal a b) pc end h to scope env r w lw lh ee st hs = plain_goes BinOp.greater_equal tt line a b (expr_goes a) (expr_goes b) pc end h to scope env r w lw lh ee st hs
    expr_goes (binary line BinOp.not_equal a b) pc end h to scope env r w lw lh ee st hs = plain_goes BinOp.not_equal tt line a b (expr_goes a) (expr_goes b) pc end h to scope env r w lw lh ee st hs
    expr_goes (binary line BinOp.equal a b) pc end h to scope env r w lw lh ee st hs = plain_goes BinOp.equal tt line a b (expr_goes a) (expr_goes b) pc end h to scope env r w lw lh ee st hs
    expr_goes (binary line BinOp.concat a b) pc end h to scope env r w lw lh ee st hs = plain_goes BinOp.concat tt line a b (expr_goes a) (expr_goes b) pc end h to scope env r w lw lh ee st hs
    expr_goes (binary line BinOp.add a b) pc end h to scope env r w lw lh ee st hs = plain_goes BinOp.add tt line a b (expr_goes a) (expr_goes b) pc end h to scope env r w lw lh ee st hs
    expr_goes (binary line BinOp.sub a b) pc end h to scope env r w lw lh ee st hs = plain_goes BinOp.sub tt line a b (expr_goes a) (expr_goes b) pc end h to scope env r w lw lh ee st hs
    expr_goes (binary line BinOp.mul a b) pc end h to scope env r w lw lh ee st hs = plain_goes BinOp.mul tt line a b (expr_goes a) (expr_goes b) pc end h to scope env r w lw lh ee st hs
    expr_goes (binary line BinOp.div a b) pc end h to scope env r w lw lh ee st hs = plain_goes BinOp.div tt line a b (expr_goes a) (expr_goes b) pc end h to scope env r w lw lh ee st hs
    expr_goes (binary line BinOp.mod_ a b) pc end h to scope env r w lw lh ee st hs = plain_goes BinOp.mod_ tt line a b (expr_goes a) (expr_goes b) pc end h to scope env r w lw lh ee st hs
    expr_goes (binary line BinOp.pow a b) pc end h to scope env r w lw lh ee st hs = plain_goes BinOp.pow tt line a b (expr_goes a) (expr_goes b) pc end h to scope env r w lw lh ee st hs
    expr_goes (paren line a) pc end h to scope env r w lw lh ee st hs =
        both P n w.ticks lw frames run.base run.cell_base r _ (one (eval again here a env) w) (λ v t. Got r t run.base (run.cell_base + cell_count scope) h to v) _ (λ v w. gives (v ∷ []) w) _ _
        (both P n w.ticks lw frames run.base run.cell_base r _ (eval again here a env w) _ _ (λ vs w. gives (first vs) w) _ _ (expr_goes a pc end h to scope env r w lw lh ee st hs)
        (λ vs w t lw t_stays g. (t, omega arith, stays_self t run.base run.cell_base, g.0, comes_self _)))
        (λ v w t lw t_stays g. (t, omega arith, stays_self t run.base run.cell_base, (g, refl), comes_self _))

    pub tail_goes : (e : Expr) → is_many e ≡ true → Tails game n again invokes run frames e
    tail_goes (dots line) m pc end h scope env r w lw lh ee st hs = (
      with_tail r run.extra,
      omega arith,
      stays_tail r r run.base run.cell_base run.extra (stays_self r run.base run.cell_base),
      (refl, stays_tail r r (run.base + h) (run.cell_base + cell_count scope) run.extra (stays_self r (run.base + h) (run.cell_base + cell_count scope))),
      comes_on _ (going P run (pc + 1) frames w (with_tail r run.extra)) _ (one_step P run pc frames r w i.all_extra _ st.0 refl) (goes_at P run frames (pc + 1) end w _ (sym ee)),
    )
    tail_goes (call line f es) m pc end h scope env r w lw lh ee st hs =
        let some = run.cell_base + cell_count scope in
        let xs = expr_code f file scope h h in
        let ys = exprs_code es file scope (suc h) in
        let s = site line h scope in
        let ins = i.invoke s i.to_tail h (count es) (tailed es) in
        let p1 = pc + length xs in
        let p2 = p1 + length ys in
        let st1 = back code pc p1 xs _ refl st in
        let end_is : end ≡ p2 + 1 = omega (arith, ee, length-append xs (ys ++ ins ∷ []), length-append ys (ins ∷ [])) in
        both P n w.ticks lw frames run.base run.cell_base r _ (one (eval again here f env) w) _ _ (λ v w. evals again here es env w >>> λ vs w. call_at again here line v vs w) _ _ (evaluated game n again invokes run frames f (expr_goes f) pc p1 h scope env r w lw lh refl (front code pc xs _ st) hs)
        (λ v w t lw t_stays v_is.
        both P n w.ticks lw frames run.base run.cell_base t _ (evals again here es env w) _ _ (λ vs w. call_at again here line v vs w) _ _ (exprs_goes es p1 p2 (suc h) scope env t w lw (omega (arith, lh)) refl (front code p1 ys _ st1) (holds_stays r t run.base run.cell_base scope env (run.base + h) some (omega (arith, lh)) (omega arith) v_is.1 hs))
        (λ vs w u lw u_stays vs_are.
        calls_all s v vs p2 end h (count es) some (tailed es) r u w lw refl end_is (back code p1 p2 ys _ refl st1).0 (vs_are.1.slots (run.base + h) (omega arith) ∙ v_is.0) vs_are.0 (stays_on r t u (run.base + h) (run.base + suc h) some some (omega arith) (omega arith) v_is.1 vs_are.1)))
    tail_goes (method line o y es) m pc end h scope env r w lw lh ee st hs =
        let some = run.cell_base + cell_count scope in
        let xs = expr_code o file scope (suc h) (suc h) in
        let s1 = site line (h + 2) scope in
        let get = i.get_field s1 h (slot (suc h)) (constant (Value.str y)) in
        let ys = exprs_code es file scope (h + 2) in
        let s = site line h scope in
        let ins = i.invoke s i.to_tail h (suc (count es)) (tailed es) in
        let p1 = pc + length xs in
        let p2 = p1 + 1 + length ys in
        let st1 = back code pc p1 xs _ refl st in
        let end_is : end ≡ p2 + 1 = omega (arith, ee, length-append xs (get ∷ (ys ++ ins ∷ [])), length-append ys (ins ∷ [])) in
        method_goes o y es (expr_goes o) (exprs_goes es) line pc p1 p2 h scope env r w (ins ∷ []) (λ v vs. call_at again here line v vs) _ _ lw lh refl refl st hs
        (λ f vs u w lw f_is vs_are st_u.
        calls_all s f vs p2 end h (suc (count es)) some (tailed es) r u w lw refl end_is (back code (p1 + 1) p2 ys _ refl st1.1).0 f_is vs_are st_u)
    tail_goes (nil line) m pc end h scope env r w lw lh ee st hs = absurd (not_both m)
    tail_goes (true_ line) m pc end h scope env r w lw lh ee st hs = absurd (not_both m)
    tail_goes (false_ line) m pc end h scope env r w lw lh ee st hs = absurd (not_both m)
    tail_goes (number line z) m pc end h scope env r w lw lh ee st hs = absurd (not_both m)
    tail_goes (str line s) m pc end h scope env r w lw lh ee st hs = absurd (not_both m)
    tail_goes (function line f) m pc end h scope env r w lw lh ee st hs = absurd (not_both m)
    tail_goes (name line y) m pc end h scope env r w lw lh ee st hs = absurd (not_both m)
    tail_goes (index line a k) m pc end h scope env r w lw lh ee st hs = absurd (not_both m)
    tail_goes (table line fs) m pc end h scope env r w lw lh ee st hs = absurd (not_both m)
    tail_goes (unary line op a) m pc end h scope env r w lw lh ee st hs = absurd (not_both m)
    tail_goes (binary line op a b) m pc end h scope env r w lw lh ee st hs = absurd (not_both m)
    tail_goes (paren line a) m pc end h scope env r w lw lh ee st hs = absurd (not_both m)

    pub exprs_goes : (es : Exprs) → Lists game n again invokes run frames es
    exprs_goes no_exprs pc end h scope env r w lw lh ee st hs = (r, omega arith, stays_self r run.base run.cell_base, (refl, stays_self r (run.base + h) (run.cell_base + cell_count scope)), goes_at P run frames pc end w r (omega (arith, ee)))
    exprs_goes (expr_and e no_exprs) pc end h scope env r w lw lh ee st hs = last_goes (is_many e) e refl (expr_goes e) (tail_goes e) pc end h scope env r w lw lh ee st hs
    exprs_goes (expr_and e (expr_and f es)) pc end h scope env r w lw lh ee st hs =
        let some = run.cell_base + cell_count scope in
        let xs = expr_code e file scope h h in
        let ys = exprs_code (expr_and f es) file scope (suc h) in
        let p1 = pc + length xs in
        let place_is : run.base + suc h ≡ suc (run.base + h) = omega arith in
        both P n w.ticks lw frames run.base run.cell_base r _ (eval again here e env w) _ _ (λ vs w. evals again here (expr_and f es) env w >>> λ ws w. gives (first vs ∷ ws) w) _ _ (expr_goes e pc p1 h h scope env r w lw lh refl (front code pc xs ys st) hs)
        (λ vs w t lw t_stays v_is.
        let st_t = got_stays r t run.base some h (first vs) v_is.0 in
        both P n w.ticks lw frames run.base run.cell_base t _ (evals again here (expr_and f es) env w) _ _ (λ ws w. gives (first vs ∷ ws) w) _ _ (exprs_goes (expr_and f es) p1 end (suc h) scope env t w lw (omega (arith, lh)) (omega (arith, ee, length-append xs ys)) (back code pc p1 xs ys refl st) (holds_stays r t run.base run.cell_base scope env (run.base + h) some (omega (arith, lh)) (omega arith) st_t hs))
        (λ ws w u lw u_stays ws_are. (
          u,
          omega arith,
          stays_self u run.base run.cell_base,
          (
            listed_more u (run.base + h) (count (expr_and f es)) (tailed (expr_and f es)) ∙ ap (λ v. v ∷ listed u (suc (run.base + h)) (count (expr_and f es)) (tailed (expr_and f es))) (ws_are.1.slots (run.base + h) (omega arith) ∙ v_is.0.value) ∙ ap (λ l. first vs ∷ l) (ap (λ k. listed u k (count (expr_and f es)) (tailed (expr_and f es))) (sym place_is) ∙ ws_are.0),
            stays_on r t u (run.base + h) (run.base + suc h) some some (omega arith) (omega arith) st_t ws_are.1,
          ),
          comes_self _,
        )))

    pub fields_goes : (fs : Fields) → Fills fs
    fields_goes no_fields line t k pc end at scope env r w lw lh ee st hs t_is = (r, omega arith, stays_self r run.base run.cell_base, stays_self r (run.base + suc at) (run.cell_base + cell_count scope), goes_at P run frames pc end w r (omega (arith, ee)))
    fields_goes (item_and e no_fields) line t k pc end at scope env r w lw lh ee st hs t_is = last_item (is_many e) e refl (expr_goes e) (tail_goes e) (fields_goes no_fields) line t k pc end at scope env r w lw lh ee st hs t_is
    fields_goes (item_and e (item_and f fs)) line t k pc end at scope env r w lw lh ee st hs t_is =
        subst (λ y. Goes P w.ticks frames run.base run.cell_base r (going P run pc frames w r) y (λ a u. Stays r u (run.base + suc at) (run.cell_base + cell_count scope)) (λ a w u. going P run end frames w u))
        (firsts_on (eval again here e env w) (λ v w. fill again here line t (k + 1) (item_and f fs) env (record w { store = set_items t k (v ∷ []) w.store })))
        (item_goes e (item_and f fs) (expr_goes e) (fields_goes (item_and f fs)) line t k pc end at scope env r w lw lh ee st hs t_is)
    fields_goes (item_and e (keyed_and q f fs)) line t k pc end at scope env r w lw lh ee st hs t_is =
        subst (λ y. Goes P w.ticks frames run.base run.cell_base r (going P run pc frames w r) y (λ a u. Stays r u (run.base + suc at) (run.cell_base + cell_count scope)) (λ a w u. going P run end frames w u))
        (firsts_on (eval again here e env w) (λ v w. fill again here line t (k + 1) (keyed_and q f fs) env (record w { store = set_items t k (v ∷ []) w.store })))
        (item_goes e (keyed_and q f fs) (expr_goes e) (fields_goes (keyed_and q f fs)) line t k pc end at scope env r w lw lh ee st hs t_is)
    fields_goes (keyed_and q e fs) line t k pc end at scope env r w lw lh ee st hs t_is = keyed_goes q e fs (expr_goes q) (expr_goes e) (fields_goes fs) line t k pc end at scope env r w lw lh ee st hs t_is
