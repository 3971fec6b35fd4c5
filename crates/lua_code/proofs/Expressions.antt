-- Expressions in the machine come to what they mean.
use Rattle.std.proofs.Common.{ℕ, suc, ◌+◌, ◌≡◌, ◌≤◌, ◌<◌, refl, sym, ap, ◌∙◌, subst, List, [], ◌∷◌, ◌++◌, length, Option, Some, None, Bool, true, false, arith, slice_get}
use Rattle.lua_tree.specs.Tree.{Bytes, Expr, nil, true_, false_, number, str, dots, function, name, index, call, method, table, unary, binary, paren, Exprs}
use Rattle.lua_meaning.specs.Value.{Value, first}
use Rattle.lua_meaning.specs.Store.{cell_value}
use Rattle.lua_meaning.specs.World.{World, gives, one, single}
use Rattle.lua_meaning.specs.Locals.{Env, Slot, held, cell, find}
use Rattle.lua_meaning.specs.Calls.{Later, Here}
use Rattle.lua_meaning.specs.Control.{Game}
use Rattle.lua_meaning.specs.Operators.{field}
use Rattle.lua_meaning.specs.Expressions.{globals, name_value, eval, evals}
use Rattle.lua_code.specs.Instr as i
use Rattle.lua_code.specs.Instr.{Site, Operand, slot, constant, Instr, file_of, code_of}
use Rattle.lua_code.specs.Scope.{Scope, slot_count, cell_count, Seat, at_slot, at_cell, seat_of}
use Rattle.lua_code.specs.Code.{ready_seat, ready, seat_slot, ready_slot, unless_ready, place, slot_place, site, name_code, is_many, tailed, count, expr_code, tail_code, exprs_code}
use Rattle.lua_code.specs.State.{row, Registers, put_slot, Running, Frame, lua, on}
use Rattle.lua_code.specs.Doing.{field_doing}
use Rattle.lua_code.specs.Natives.{Program}
use Rattle.lua_code.specs.Act.{at_pc, operand, does}
use Rattle.lua_code.specs.Follows.{state_of, program_of}
use Rattle.lua_code.proofs.Registers.{Stays, stays_self, Holds, Reads, reads, SeatBelow, seat_below}
use Rattle.lua_code.proofs.Goes.{comes_self, Stands, stepping, going, Goes, first_comes, both, one_step}
use Rattle.lua_code.proofs.Operators.{means, field_is}
use Rattle.lua_code.proofs.Calling.{Invokes, same}
use Rattle.lua_code.proofs.Landing.{here_of, Got, got_stays, LoneIf, held_in, operand_is, goes_at, loads, does_goes}

-- a left operand is below the slot behind it
slot_low : (o : Option Seat) (slots some h : ℕ) → SeatBelow o slots some → slots ≤ h → slot_place (seat_slot o) h < suc h
slot_low None slots some h b l = omega arith
slot_low (Some (at_slot k)) slots some h b l = omega (arith, b, l)
slot_low (Some (at_cell k)) slots some h b l = omega arith

pub left_low : (e : Expr) (scope : Scope) (h : ℕ) → slot_count scope ≤ h → slot_place (ready_slot e scope) h < suc h
left_low (nil line) scope h l = omega arith
left_low (true_ line) scope h l = omega arith
left_low (false_ line) scope h l = omega arith
left_low (number line z) scope h l = omega arith
left_low (str line s) scope h l = omega arith
left_low (dots line) scope h l = omega arith
left_low (function line f) scope h l = omega arith
left_low (name line x) scope h l = slot_low (seat_of scope x) (slot_count scope) (cell_count scope) h (seat_below scope x) l
left_low (index line a k) scope h l = omega arith
left_low (call line f es) scope h l = omega arith
left_low (method line o x es) scope h l = omega arith
left_low (table line fs) scope h l = omega arith
left_low (unary line op a) scope h l = omega arith
left_low (binary line op a b) scope h l = omega arith
left_low (paren line a) scope h l = omega arith

-- a list's values are so many slots and the tail
abbrev pub listed : Registers → (from count : ℕ) → (tailed : Bool) → List Value
listed r from count true = row r.slots from count ++ r.tail
listed r from count false = row r.slots from count ++ []

module _ (game : Game) (n : ℕ) (again : Later) (invokes : Invokes game n again) (run : Running) (frames : List Frame) where
  abbrev P : Program
  P = program_of game

  abbrev here : Here
  here = here_of run frames

  abbrev code : List Instr
  code = code_of run.code

  abbrev file : Bytes
  file = file_of run.code

  -- the first value of an expression goes to a slot
  abbrev pub Gets : Expr → Type 0
  Gets e =
      (pc end h to : ℕ) (scope : Scope) (env : Env) (r : Registers) (w : World) → w.ticks ≤ n → slot_count scope ≤ h → end ≡ pc + length (expr_code e file scope h to) → Stands code pc (expr_code e file scope h to) → Holds r run.base run.cell_base scope env
      → Goes P w.ticks frames run.base run.cell_base r (going P run pc frames w r) (eval again here e env w) (λ vs t. Got r t run.base (run.cell_base + cell_count scope) h to (first vs) × LoneIf (is_many e) vs) (λ vs w t. going P run end frames w t)

  -- all values of an expression go to the tail
  abbrev pub Tails : Expr → Type 0
  Tails e =
      (pc end h : ℕ) (scope : Scope) (env : Env) (r : Registers) (w : World) → w.ticks ≤ n → slot_count scope ≤ h → end ≡ pc + length (tail_code e file scope h) → Stands code pc (tail_code e file scope h) → Holds r run.base run.cell_base scope env
      → Goes P w.ticks frames run.base run.cell_base r (going P run pc frames w r) (eval again here e env w) (λ vs t. (t.tail ≡ vs) × Stays r t (run.base + h) (run.cell_base + cell_count scope)) (λ vs w t. going P run end frames w t)

  -- the values of a list
  abbrev pub Lists : Exprs → Type 0
  Lists es =
      (pc end h : ℕ) (scope : Scope) (env : Env) (r : Registers) (w : World) → w.ticks ≤ n → slot_count scope ≤ h → end ≡ pc + length (exprs_code es file scope h) → Stands code pc (exprs_code es file scope h) → Holds r run.base run.cell_base scope env
      → Goes P w.ticks frames run.base run.cell_base r (going P run pc frames w r) (evals again here es env w) (λ vs t. (listed t (run.base + h) (count es) (tailed es) ≡ vs) × Stays r t (run.base + h) (run.cell_base + cell_count scope)) (λ vs w t. going P run end frames w t)

  -- ---- names

  -- a field of a value, as an instruction reads it
  pub field_goes : (x : Instr) (s : Site) (a b : Operand) (base key : Value) (pc end high to : ℕ) (r : Registers) (w : World) → w.ticks ≤ n → high ≤ s.above → end ≡ pc + 1 → slice_get code pc ≡ Some (i.get_field s to a b) → held_in r run.base a ≡ base → held_in r run.base b ≡ key
      → Goes P w.ticks frames run.base run.cell_base r (going P run pc frames w r) (single (field again here s.line base key) w) (λ vs t. Got r t run.base (run.cell_base + s.cells) high to (first vs) × LoneIf false vs) (λ vs w t. going P run end frames w t)
  field_goes x s a b base key pc end high to r w lw la e st ea eb =
      both P n w.ticks lw frames run.base run.cell_base r _ (field again here s.line base key w) _ _ (λ v w. gives (v ∷ []) w) _ _
      (subst (λ y. Goes P w.ticks frames run.base run.cell_base r (going P run pc frames w r) y (λ v t. Got r t run.base (run.cell_base + s.cells) high to v) (λ v w t. going P run end frames w t)) (sym (field_is again here s.line base key w))
      (first_comes P w.ticks frames run.base run.cell_base r _ (stepping P w (does (at_pc run pc) frames r (state_of w) s to (field_doing w.store base key))) (means again here s.line (field_doing w.store base key) w) _ _
      (one_step P run pc frames r w (i.get_field s to a b) _ st
      (ap (λ v. does (at_pc run pc) frames r (state_of w) s to (field_doing w.store v (operand (at_pc run pc) frames r (state_of w) b))) (operand_is (at_pc run pc) frames r (state_of w) a ∙ ea)
      ∙ ap (λ v. does (at_pc run pc) frames r (state_of w) s to (field_doing w.store base v)) (operand_is (at_pc run pc) frames r (state_of w) b ∙ eb)))
      (does_goes game n again invokes run frames (field_doing w.store base key) s pc end high to r w lw la e)))
      (λ v w t lw t_stays g. (t, same game n again invokes w, stays_self t run.base run.cell_base, (g, refl), comes_self _))

  pub name_goes : (o : Option Seat) (s : Option Slot) (line : ℕ) (x : Bytes) (pc end h to : ℕ) (scope : Scope) (r : Registers) (w : World) → w.ticks ≤ n → end ≡ pc + length (name_code (site line h scope) x to o) → Stands code pc (name_code (site line h scope) x to o) → Reads r run.base run.cell_base o s
      → Goes P w.ticks frames run.base run.cell_base r (going P run pc frames w r) (single (name_value again here line x s) w) (λ vs t. Got r t run.base (run.cell_base + cell_count scope) h to (first vs) × LoneIf false vs) (λ vs w t. going P run end frames w t)
  name_goes None None line x pc end h to scope r w lw e st rs = field_goes (i.get_field (site line h scope) to (constant globals) (constant (Value.str x))) (site line h scope) (constant globals) (constant (Value.str x)) globals (Value.str x) pc end h to r w lw (omega arith) e st.0 refl refl
  name_goes None (Some s) line x pc end h to scope r w lw e st rs = absurd rs
  name_goes (Some (at_slot k)) None line x pc end h to scope r w lw e st rs = absurd rs
  name_goes (Some (at_slot k)) (Some (held v)) line x pc end h to scope r w lw e st rs = loads P run frames false (i.load to (slot k)) (v ∷ []) pc end h to (run.cell_base + cell_count scope) r w st.0 (ap (λ v. on (record { active = lua (at_pc run (pc + 1)); frames = frames; registers = put_slot r (run.base + to) v; state = state_of w })) rs) e refl
  name_goes (Some (at_slot k)) (Some (cell q)) line x pc end h to scope r w lw e st rs = absurd rs
  name_goes (Some (at_cell k)) None line x pc end h to scope r w lw e st rs = absurd rs
  name_goes (Some (at_cell k)) (Some (held v)) line x pc end h to scope r w lw e st rs = absurd rs
  name_goes (Some (at_cell k)) (Some (cell q)) line x pc end h to scope r w lw e st rs = loads P run frames false (i.get_cell to k) (cell_value w.store q ∷ []) pc end h to (run.cell_base + cell_count scope) r w st.0 (ap (λ q. on (record { active = lua (at_pc run (pc + 1)); frames = frames; registers = put_slot r (run.base + to) (cell_value w.store q); state = state_of w })) rs) e refl

  -- ---- operands

  -- an expression whose value is wanted in the slot at the height
  pub evaluated : (e : Expr) → Gets e → (pc end h : ℕ) (scope : Scope) (env : Env) (r : Registers) (w : World) → w.ticks ≤ n → slot_count scope ≤ h → end ≡ pc + length (expr_code e file scope h h) → Stands code pc (expr_code e file scope h h) → Holds r run.base run.cell_base scope env
      → Goes P w.ticks frames run.base run.cell_base r (going P run pc frames w r) (one (eval again here e env) w) (λ v t. (t.slots (run.base + h) ≡ v) × Stays r t (run.base + h) (run.cell_base + cell_count scope)) (λ v w t. going P run end frames w t)
  evaluated e gets pc end h scope env r w lw lh ee st hs =
      both P n w.ticks lw frames run.base run.cell_base r _ (eval again here e env w) _ _ (λ vs w. gives (first vs) w) _ _ (gets pc end h h scope env r w lw lh ee st hs)
      (λ vs w t lw t_stays g. (t, same game n again invokes w, stays_self t run.base run.cell_base, (g.0.value, got_stays r t run.base (run.cell_base + cell_count scope) h (first vs) g.0), comes_self _))

  -- what stands ready
  stands_ready : (o : Operand) (v : Value) (pc end h some : ℕ) (r : Registers) (w : World) → end ≡ pc + 0 → held_in r run.base o ≡ v
      → Goes P w.ticks frames run.base run.cell_base r (going P run pc frames w r) (gives v w) (λ v t. (held_in t run.base o ≡ v) × Stays r t (run.base + h) some) (λ v w t. going P run end frames w t)
  stands_ready o v pc end h some r w ee x = (r, omega arith, stays_self r run.base run.cell_base, (x, stays_self r (run.base + h) some), goes_at P run frames pc end w r (omega (arith, ee)))

  abbrev Right : Expr → Type 0
  Right e =
      (pc end h : ℕ) (scope : Scope) (env : Env) (r : Registers) (w : World) → w.ticks ≤ n → slot_count scope ≤ h → end ≡ pc + length (unless_ready (ready e scope) (expr_code e file scope h h)) → Stands code pc (unless_ready (ready e scope) (expr_code e file scope h h)) → Holds r run.base run.cell_base scope env
      → Goes P w.ticks frames run.base run.cell_base r (going P run pc frames w r) (one (eval again here e env) w) (λ v t. (held_in t run.base (place (ready e scope) h) ≡ v) × Stays r t (run.base + h) (run.cell_base + cell_count scope)) (λ v w t. going P run end frames w t)

  abbrev Left : Expr → Type 0
  Left e =
      (pc end h : ℕ) (scope : Scope) (env : Env) (r : Registers) (w : World) → w.ticks ≤ n → slot_count scope ≤ h → end ≡ pc + length (unless_ready (ready_slot e scope) (expr_code e file scope h h)) → Stands code pc (unless_ready (ready_slot e scope) (expr_code e file scope h h)) → Holds r run.base run.cell_base scope env
      → Goes P w.ticks frames run.base run.cell_base r (going P run pc frames w r) (one (eval again here e env) w) (λ v t. (t.slots (run.base + slot_place (ready_slot e scope) h) ≡ v) × Stays r t (run.base + h) (run.cell_base + cell_count scope)) (λ v w t. going P run end frames w t)

  name_evaluated : (o : Option Seat) (s : Option Slot) (line : ℕ) (x : Bytes) (pc end h : ℕ) (scope : Scope) (r : Registers) (w : World) → w.ticks ≤ n → end ≡ pc + length (name_code (site line h scope) x h o) → Stands code pc (name_code (site line h scope) x h o) → Reads r run.base run.cell_base o s
      → Goes P w.ticks frames run.base run.cell_base r (going P run pc frames w r) (one (single (name_value again here line x s)) w) (λ v t. (t.slots (run.base + h) ≡ v) × Stays r t (run.base + h) (run.cell_base + cell_count scope)) (λ v w t. going P run end frames w t)
  name_evaluated o s line x pc end h scope r w lw ee st rs =
      both P n w.ticks lw frames run.base run.cell_base r _ (single (name_value again here line x s) w) _ _ (λ vs w. gives (first vs) w) _ _ (name_goes o s line x pc end h h scope r w lw ee st rs)
      (λ vs w t lw t_stays g. (t, same game n again invokes w, stays_self t run.base run.cell_base, (g.0.value, got_stays r t run.base (run.cell_base + cell_count scope) h (first vs) g.0), comes_self _))

  name_right : (o : Option Seat) (s : Option Slot) (line : ℕ) (x : Bytes) (pc end h : ℕ) (scope : Scope) (r : Registers) (w : World) → w.ticks ≤ n → end ≡ pc + length (unless_ready (ready_seat o) (name_code (site line h scope) x h o)) → Stands code pc (unless_ready (ready_seat o) (name_code (site line h scope) x h o)) → Reads r run.base run.cell_base o s
      → Goes P w.ticks frames run.base run.cell_base r (going P run pc frames w r) (one (single (name_value again here line x s)) w) (λ v t. (held_in t run.base (place (ready_seat o) h) ≡ v) × Stays r t (run.base + h) (run.cell_base + cell_count scope)) (λ v w t. going P run end frames w t)
  name_right None s line x pc end h scope r w lw ee st rs = name_evaluated None s line x pc end h scope r w lw ee st rs
  name_right (Some (at_slot k)) None line x pc end h scope r w lw ee st rs = absurd rs
  name_right (Some (at_slot k)) (Some (held v)) line x pc end h scope r w lw ee st rs = stands_ready (slot k) v pc end h (run.cell_base + cell_count scope) r w ee rs
  name_right (Some (at_slot k)) (Some (cell q)) line x pc end h scope r w lw ee st rs = absurd rs
  name_right (Some (at_cell k)) s line x pc end h scope r w lw ee st rs = name_evaluated (Some (at_cell k)) s line x pc end h scope r w lw ee st rs

  name_left : (o : Option Seat) (s : Option Slot) (line : ℕ) (x : Bytes) (pc end h : ℕ) (scope : Scope) (r : Registers) (w : World) → w.ticks ≤ n → end ≡ pc + length (unless_ready (seat_slot o) (name_code (site line h scope) x h o)) → Stands code pc (unless_ready (seat_slot o) (name_code (site line h scope) x h o)) → Reads r run.base run.cell_base o s
      → Goes P w.ticks frames run.base run.cell_base r (going P run pc frames w r) (one (single (name_value again here line x s)) w) (λ v t. (t.slots (run.base + slot_place (seat_slot o) h) ≡ v) × Stays r t (run.base + h) (run.cell_base + cell_count scope)) (λ v w t. going P run end frames w t)
  name_left None s line x pc end h scope r w lw ee st rs = name_evaluated None s line x pc end h scope r w lw ee st rs
  name_left (Some (at_slot k)) None line x pc end h scope r w lw ee st rs = absurd rs
  name_left (Some (at_slot k)) (Some (held v)) line x pc end h scope r w lw ee st rs = stands_ready (slot k) v pc end h (run.cell_base + cell_count scope) r w ee rs
  name_left (Some (at_slot k)) (Some (cell q)) line x pc end h scope r w lw ee st rs = absurd rs
  name_left (Some (at_cell k)) s line x pc end h scope r w lw ee st rs = name_evaluated (Some (at_cell k)) s line x pc end h scope r w lw ee st rs

  pub right : (e : Expr) → Gets e → Right e
  right (nil line) gets pc end h scope env r w lw lh ee st hs = stands_ready (constant Value.nil) Value.nil pc end h (run.cell_base + cell_count scope) r w ee refl
  right (true_ line) gets pc end h scope env r w lw lh ee st hs = stands_ready (constant (Value.flag true)) (Value.flag true) pc end h (run.cell_base + cell_count scope) r w ee refl
  right (false_ line) gets pc end h scope env r w lw lh ee st hs = stands_ready (constant (Value.flag false)) (Value.flag false) pc end h (run.cell_base + cell_count scope) r w ee refl
  right (number line z) gets pc end h scope env r w lw lh ee st hs = stands_ready (constant (Value.num z)) (Value.num z) pc end h (run.cell_base + cell_count scope) r w ee refl
  right (str line s) gets pc end h scope env r w lw lh ee st hs = stands_ready (constant (Value.str s)) (Value.str s) pc end h (run.cell_base + cell_count scope) r w ee refl
  right (name line x) gets pc end h scope env r w lw lh ee st hs = name_right (seat_of scope x) (find x env) line x pc end h scope r w lw ee st (reads r run.base run.cell_base scope env x hs)
  right (dots line) gets pc end h scope env r w lw lh ee st hs = evaluated (dots line) gets pc end h scope env r w lw lh ee st hs
  right (function line f) gets pc end h scope env r w lw lh ee st hs = evaluated (function line f) gets pc end h scope env r w lw lh ee st hs
  right (index line a k) gets pc end h scope env r w lw lh ee st hs = evaluated (index line a k) gets pc end h scope env r w lw lh ee st hs
  right (call line f es) gets pc end h scope env r w lw lh ee st hs = evaluated (call line f es) gets pc end h scope env r w lw lh ee st hs
  right (method line o x es) gets pc end h scope env r w lw lh ee st hs = evaluated (method line o x es) gets pc end h scope env r w lw lh ee st hs
  right (table line fs) gets pc end h scope env r w lw lh ee st hs = evaluated (table line fs) gets pc end h scope env r w lw lh ee st hs
  right (unary line op a) gets pc end h scope env r w lw lh ee st hs = evaluated (unary line op a) gets pc end h scope env r w lw lh ee st hs
  right (binary line op a b) gets pc end h scope env r w lw lh ee st hs = evaluated (binary line op a b) gets pc end h scope env r w lw lh ee st hs
  right (paren line a) gets pc end h scope env r w lw lh ee st hs = evaluated (paren line a) gets pc end h scope env r w lw lh ee st hs

  pub left : (e : Expr) → Gets e → Left e
  left (nil line) gets pc end h scope env r w lw lh ee st hs = evaluated (nil line) gets pc end h scope env r w lw lh ee st hs
  left (true_ line) gets pc end h scope env r w lw lh ee st hs = evaluated (true_ line) gets pc end h scope env r w lw lh ee st hs
  left (false_ line) gets pc end h scope env r w lw lh ee st hs = evaluated (false_ line) gets pc end h scope env r w lw lh ee st hs
  left (number line z) gets pc end h scope env r w lw lh ee st hs = evaluated (number line z) gets pc end h scope env r w lw lh ee st hs
  left (str line s) gets pc end h scope env r w lw lh ee st hs = evaluated (str line s) gets pc end h scope env r w lw lh ee st hs
  left (name line x) gets pc end h scope env r w lw lh ee st hs = name_left (seat_of scope x) (find x env) line x pc end h scope r w lw ee st (reads r run.base run.cell_base scope env x hs)
  left (dots line) gets pc end h scope env r w lw lh ee st hs = evaluated (dots line) gets pc end h scope env r w lw lh ee st hs
  left (function line f) gets pc end h scope env r w lw lh ee st hs = evaluated (function line f) gets pc end h scope env r w lw lh ee st hs
  left (index line a k) gets pc end h scope env r w lw lh ee st hs = evaluated (index line a k) gets pc end h scope env r w lw lh ee st hs
  left (call line f es) gets pc end h scope env r w lw lh ee st hs = evaluated (call line f es) gets pc end h scope env r w lw lh ee st hs
  left (method line o x es) gets pc end h scope env r w lw lh ee st hs = evaluated (method line o x es) gets pc end h scope env r w lw lh ee st hs
  left (table line fs) gets pc end h scope env r w lw lh ee st hs = evaluated (table line fs) gets pc end h scope env r w lw lh ee st hs
  left (unary line op a) gets pc end h scope env r w lw lh ee st hs = evaluated (unary line op a) gets pc end h scope env r w lw lh ee st hs
  left (binary line op a b) gets pc end h scope env r w lw lh ee st hs = evaluated (binary line op a b) gets pc end h scope env r w lw lh ee st hs
  left (paren line a) gets pc end h scope env r w lw lh ee st hs = evaluated (paren line a) gets pc end h scope env r w lw lh ee st hs
