-- What expressions leave in registers, and what single instructions lead to.
use Rattle.std.proofs.Common.{ℕ, ◌+◌, ◌≡◌, ◌≤◌, ◌<◌, refl, sym, ap, ◌∙◌, subst, List, [], ◌∷◌, Some, Bool, true, false, arith, slice_get}
use Rattle.std.specs.Prelude.{not, ◌==◌}
use Rattle.lua_meaning.specs.Value.{Value, flag, first, is_true}
use Rattle.lua_meaning.specs.World.{World, gives}
use Rattle.lua_meaning.specs.Calls.{Later, Here, call_at}
use Rattle.lua_meaning.specs.Control.{Game}
use Rattle.lua_code.specs.Instr.{Site, Operand, slot, constant, Instr, file_of, code_of}
use Rattle.lua_code.specs.State.{Registers, put_slot, State, Running, Frame, waits, lua, on}
use Rattle.lua_code.specs.Frames.{places}
use Rattle.lua_code.specs.Doing.{Use, plain, truth, untruth, Doing, gives as gives_value, faults, asks}
use Rattle.lua_code.specs.Natives.{Program}
use Rattle.lua_code.specs.Act.{at_pc, at_line, wanted, operand, act_on, does}
use Rattle.lua_code.specs.Follows.{state_of, program_of}
use Rattle.lua_code.proofs.Registers.{Below, Stays, stays_self, stays_less, stays_put, put_same, put_other, differs}
use Rattle.lua_code.proofs.Goes.{Comes, comes_self, comes_on, stepping, going, Goes, both, one_step}
use Rattle.lua_code.proofs.Operators.{used, means}
use Rattle.lua_code.proofs.Calling.{Invokes, calls_on, Received, to_the_frame}

-- what a running function of Lua knows
abbrev pub here_of : Running → List Frame → Here
here_of run frames = record { file = file_of run.code; extra = run.extra; calls = places frames }

-- A value is in a slot. The other slots below the height, and the cells in use, are as they were.
pub record Got (r t : Registers) (base some high to : ℕ) (v : Value) : Type 0 where
  pub value : t.slots (base + to) ≡ v
  pub others : (i : ℕ) → i < base + high → (i == base + to) ≡ false → t.slots i ≡ r.slots i
  pub cells : Below r.cells t.cells some

pub got_stays : (r t : Registers) (base some high : ℕ) (v : Value) → Got r t base some high high v → Stays r t (base + high) some
got_stays r t base some high v g = record { slots = λ i l. g.others i l (differs i (base + high) l); cells = g.cells }

pub got_on : (r u t : Registers) (base some high higher to : ℕ) (v : Value) → high ≤ higher → Stays r u (base + high) some → Got u t base some higher to v → Got r t base some high to v
got_on r u t base some high higher to v l x g = record {
  value = g.value;
  others = λ i m d. g.others i (omega (arith, l, m)) d ∙ x.slots i m;
  cells = λ i m. g.cells i m ∙ x.cells i m;
}

pub lands : (r u : Registers) (base some high to : ℕ) (v : Value) → Stays r u (base + high) some → Got r (put_slot u (base + to) v) base some high to v
lands r u base some high to v x = record {
  value = put_same u.slots (base + to) v;
  others = λ i l d. put_other u.slots (base + to) v i d ∙ x.slots i l;
  cells = x.cells;
}

-- a list of which the first value is all
abbrev pub LoneIf : (many : Bool) → List Value → Type 0
LoneIf true vs = Unit {0}
LoneIf false vs = vs ≡ first vs ∷ []

-- where an operand is
abbrev pub held_in : Registers → (base : ℕ) → Operand → Value
held_in r base (slot n) = r.slots (base + n)
held_in r base (constant v) = v

pub operand_is : (run : Running) (frames : List Frame) (r : Registers) (st : State) (o : Operand) → operand run frames r st o ≡ held_in r run.base o
operand_is run frames r st (slot n) = refl
operand_is run frames r st (constant v) = refl

module _ (program : Program) (run : Running) (frames : List Frame) where
  pub goes_at : (pc end : ℕ) (w : World) (r : Registers) → pc ≡ end → Comes (going program run pc frames w r) (going program run end frames w r)
  goes_at pc end w r e k = (k, ap (λ n. going program run n frames w r k) e)

  -- an instruction that puts a value into a slot
  pub loads : (many : Bool) (x : Instr) (vs : List Value) (pc end high to some : ℕ) (r : Registers) (w : World) → slice_get (code_of run.code) pc ≡ Some x → act_on (at_pc run pc) frames r (state_of w) x ≡ on (record { active = lua (at_pc run (pc + 1)); frames = frames; registers = put_slot r (run.base + to) (first vs); state = state_of w }) → end ≡ pc + 1 → LoneIf many vs
      → Goes program w.ticks frames run.base run.cell_base r (going program run pc frames w r) (gives vs w) (λ vs t. Got r t run.base some high to (first vs) × LoneIf many vs) (λ vs w t. going program run end frames w t)
  loads many x vs pc end high to some r w h e ee lone = (
    put_slot r (run.base + to) (first vs),
    omega arith,
    stays_put r r run.base run.cell_base (run.base + to) (first vs) (omega arith) (stays_self r run.base run.cell_base),
    (lands r r run.base some high to (first vs) (stays_self r (run.base + high) some), lone),
    comes_on _ (going program run (pc + 1) frames w (put_slot r (run.base + to) (first vs))) _ (one_step program run pc frames r w x _ h e) (goes_at (pc + 1) end w _ (sym ee)),
  )

module _ (game : Game) (n : ℕ) (again : Later) (invokes : Invokes game n again) (run : Running) (frames : List Frame) where
  abbrev P : Program
  P = program_of game

  -- a handler's result is used
  uses : (u : Use) (line : ℕ) (vs : List Value) (r t : Registers) (w : World) (some high above to pc : ℕ) → high ≤ above → Received (wanted u to) run.base r (run.base + above) some vs t
      → Goes P w.ticks frames run.base run.cell_base t (going P run pc frames w t) (used again (here_of run frames) line u (first vs) w) (λ v t. Got r t run.base some high to v) (λ v w t. going P run pc frames w t)
  uses plain line vs r t w some high above to pc l x = (t, omega arith, stays_self t run.base run.cell_base, subst (λ t. Got r t run.base some high to (first vs)) (sym x.2) (lands r x.0 run.base some high to (first vs) (stays_less r x.0 (run.base + above) (run.base + high) some some (omega (arith, l)) (omega arith) x.1)), comes_self _)
  uses truth line vs r t w some high above to pc l x = (t, omega arith, stays_self t run.base run.cell_base, subst (λ t. Got r t run.base some high to (flag (is_true (first vs)))) (sym x.2) (lands r x.0 run.base some high to _ (stays_less r x.0 (run.base + above) (run.base + high) some some (omega (arith, l)) (omega arith) x.1)), comes_self _)
  uses untruth line vs r t w some high above to pc l x = (t, omega arith, stays_self t run.base run.cell_base, subst (λ t. Got r t run.base some high to (flag (not (is_true (first vs))))) (sym x.2) (lands r x.0 run.base some high to (flag (not (is_true (first vs)))) (stays_less r x.0 (run.base + above) (run.base + high) some some (omega (arith, l)) (omega arith) x.1)), comes_self _)

  -- what an operator or a field comes to
  pub does_goes : (d : Doing) (s : Site) (pc end high to : ℕ) (r : Registers) (w : World) → w.ticks ≤ n → high ≤ s.above → end ≡ pc + 1
      → Goes P w.ticks frames run.base run.cell_base r (stepping P w (does (at_pc run pc) frames r (state_of w) s to d)) (means again (here_of run frames) s.line d w) (λ v t. Got r t run.base (run.cell_base + s.cells) high to v) (λ v w t. going P run end frames w t)
  does_goes (gives_value v) s pc end high to r w lw la e = (
    put_slot r (run.base + to) v,
    omega arith,
    stays_put r r run.base run.cell_base (run.base + to) v (omega arith) (stays_self r run.base run.cell_base),
    lands r r run.base (run.cell_base + s.cells) high to v (stays_self r (run.base + high) (run.cell_base + s.cells)),
    goes_at P run frames (pc + 1) end w (put_slot r (run.base + to) v) (sym e),
  )
  does_goes (faults text) s pc end high to r w lw la e = (r, omega arith, stays_self r run.base run.cell_base, comes_self _)
  does_goes (asks h args u) s pc end high to r w lw la e =
      let top = waits (at_pc run (pc + 1)) (wanted u to) (at_line run s) in
      subst (λ p. Goes P w.ticks frames run.base run.cell_base r (stepping P w (does (at_pc run pc) frames r (state_of w) s to (asks h args u))) (means again (here_of run frames) s.line (asks h args u) w) (λ v t. Got r t run.base (run.cell_base + s.cells) high to v) (λ v w t. going P run p frames w t)) (sym e)
      (both P n w.ticks lw frames run.base run.cell_base r _ (call_at again (here_of run frames) s.line h args w) _ _ (λ vs w. used again (here_of run frames) s.line u (first vs) w) _ _
      (to_the_frame P w.ticks run (pc + 1) (wanted u to) (at_line run s) frames (run.base + s.above) (run.cell_base + s.cells) r _ (call_at again (here_of run frames) s.line h args w) (omega arith) (omega arith)
      (calls_on game n again invokes h args top frames (run.base + s.above) (run.cell_base + s.cells) r w lw))
      (λ vs w t lw t_stays x. uses u s.line vs r t w (run.cell_base + s.cells) high s.above to (pc + 1) la x))
