-- Each instruction of sound code keeps what a machine keeps.
use Rattle.std.proofs.Common.{ℕ, zero, suc, ◌+◌, ◌-◌, ◌≡◌, ◌<◌, refl, sym, subst, List, [], ◌∷◌, ◌++◌, length, Option, Some, None, Bool, true, false, Result, Ok, Err, slice_get, arith}
use Rattle.std.specs.Prelude.{◌*◌, ◌^◌, ℤ}
use Rattle.lua_value.specs.Arithmetic as arithmetic
use Rattle.lua_value.specs.declared.arithmetic.NumFault.{NumFault}
use Rattle.lua_meaning.specs.Value.{Value, nil, num, table, is_true, is_nil}
use Rattle.lua_meaning.specs.Text.{as_number}
use Rattle.lua_meaning.specs.Store.{Store}
use Rattle.lua_meaning.specs.World.{failed}
use Rattle.lua_meaning.specs.Handlers as handlers
use Rattle.lua_meaning.specs.Handlers.{Setting, setting}
use Rattle.lua_meaning.specs.Running.{is_counting}
use Rattle.lua_code.specs.Instr as i
use Rattle.lua_code.specs.Instr.{Site, Operand, Wants, Instr, Proto, code_of}
use Rattle.lua_code.specs.State.{Registers, State, Made, Running, Frame, waits, Active, lua, library, Step}
use Rattle.lua_code.specs.Frames.{raised, finish, calling}
use Rattle.lua_code.specs.Doing as doing
use Rattle.lua_code.specs.Doing.{Doing, Use, unary_doing, binary_doing, field_doing}
use Rattle.lua_code.specs.Natives.{Program}
use Rattle.lua_code.specs.Act as act
use Rattle.lua_code.specs.Act.{at_pc, next}
use Rattle.lua_code.specs.Sound.{IsSoundCode, GoesOn, IsInside, AreFrames, AreMade, IsSoundProgram, IsKept, still, weight, KeptBelow, AllKeep}
use Rattle.lua_code.proofs.Keeping.{Later, less, is_kept, either, sound_short, sound_at, ticking_keeps, calls_keeps, finish_keeps, serves_keeps, attends}

made_last : (made : List Made) (m : Made) → AreMade made → IsSoundCode m.code → AreMade (made ++ m ∷ [])
made_last [] m all own = (own, tt)
made_last (x ∷ made) m all own = (all.0, made_last made m all.1 own)

-- a function of Lua at an instruction of sound code
module _ (run : Running) (frames : List Frame) (r : Registers) (st : State) (here : IsInside run) (fs : AreFrames frames) (made : AreMade st.functions) where
  abbrev len : ℕ
  len = length (code_of run.code)

  abbrev w : ℕ
  w = (2 ^ 32 + 1) * st.ticks + ((2 ^ 32 - run.pc) + still frames)

  abbrev Kept : Step → Type 0
  Kept x = KeptBelow w x

  short : len < 2 ^ 32
  short = sound_short run.code here.sound

  -- it goes on further on, or anywhere with a tick less
  goes : (pc : ℕ) (t : Registers) (later : State) → run.pc < pc → pc < len → Later st.ticks later → Kept (act.going run frames r st pc t later)
  goes pc t later a b l =
      (record { active = record { sound = here.sound; inside = b }; frames = fs; made = l.made }, omega (arith, a, b, short, l.ticks))

  spends : (pc : ℕ) (t : Registers) (u : ℕ) → suc u ≡ st.ticks → pc < len → Kept (act.going run frames r st pc t (record st { ticks = u }))
  spends pc t u e b =
      (record { active = record { sound = here.sound; inside = b }; frames = fs; made = made }, omega (arith, e, b, short, here.inside))

  same : Later st.ticks st
  same = record { made = made; ticks = omega arith }

  onward : (t : Registers) (later : State) → run.pc + 1 < len → Later st.ticks later → Kept (act.onward run frames r st t later)
  onward t later b l = goes (run.pc + 1) t later (omega arith) b l

  raises : (v : Value) (later : State) → Later st.ticks later → Kept (raised frames r v later)
  raises v later l = less _ w (finish (failed v) frames r later) (omega (arith, here.inside, short)) (finish_keeps frames (failed v) r st.ticks later fs l)

  -- the caller waits
  abbrev caller : Wants → Site → List Frame
  caller wants s = waits (next run) wants (act.at_line run s) ∷ frames

  calls : (f : Value) (args : List Value) (wants : Wants) (s : Site) (base cell_base : ℕ) → run.pc + 1 < len → Kept (calling f args (caller wants s) base cell_base r st)
  calls f args wants s base cell_base b =
      let waiting : AreFrames (caller wants s) = (record { sound = here.sound; inside = b }, fs) in
      calls_keeps w _ (caller wants s) base cell_base r waiting f args st made
      (λ v later l. less _ w (finish (failed v) (caller wants s) r later) (omega (arith, b, short)) (finish_keeps (caller wants s) (failed v) r st.ticks later waiting l))
      (omega (arith, b, short))

  jumps : (b : Bool) (pc : ℕ) → run.pc < pc → pc < len → run.pc + 1 < len → Kept (act.jumps run frames r st b pc)
  jumps true pc a b c = goes pc r st a b same
  jumps false pc a b c = onward r st c same

  returns : (b : Bool) (pc : ℕ) → pc < len → run.pc + 1 < len → Kept (act.returns run frames r st b pc)
  returns true pc a b = ticking_keeps w st.ticks st _ (λ u e. spends pc r u e a)
  returns false pc a b = onward r st b same

  does : (s : Site) (to : ℕ) (d : Doing) → run.pc + 1 < len → Kept (act.does run frames r st s to d)
  does s to (doing.gives v) b = onward _ st b same
  does s to (doing.faults text) b = raises _ st same
  does s to (doing.asks h args use_) b = calls h args _ s _ _ b

  stores : (s : Store) → run.pc + 1 < len → Kept (act.stores run frames r st s)
  stores s b = onward r _ b (record { made = made; ticks = omega arith })

  sets_raw : (s : Site) (t : ℕ) (key v : Value) → run.pc + 1 < len → Kept (act.sets_raw run frames r st s t key v)
  sets_raw s t nil v b = raises _ st same
  sets_raw s t key v b = stores _ b

  sets_new : (s : Site) (t key v : Value) → run.pc + 1 < len → Kept (act.sets_new run frames r st s t key v)
  sets_new s (table t) key v b = sets_raw s t key v b
  sets_new s t key v b = onward r st b same

  sets : (s : Site) (key v : Value) (o : Setting) → run.pc + 1 < len → Kept (act.sets run frames r st s key v o)
  sets s key v (handlers.in_table t) b = sets_raw s t key v b
  sets s key v (handlers.asks_set h base) b = calls h _ _ s _ _ b
  sets s key v (handlers.unindexed_set base) b = raises _ st same
  sets s key v handlers.endless_set b = raises _ st same

  turns : (at body exit : ℕ) (n m k : ℤ) → body < len → run.pc < exit → exit < len → Kept (act.turns run frames r st at body exit n m k)
  turns at body exit n m k a b c = either w (is_counting n m k) _ _
      (ticking_keeps w st.ticks st _ (λ u e. spends body _ u e a))
      (goes exit _ st b c same)

  begins : (s : Site) (at count : ℕ) (n m k : Option ℤ) → run.pc + 1 + count < len → Kept (act.begins run frames r st s at count n m k)
  begins s at count None m k b = raises _ st same
  begins s at count (Some n) None k b = raises _ st same
  begins s at count (Some n) (Some m) None b = raises _ st same
  begins s at count (Some n) (Some m) (Some k) b = turns at _ _ n m k (omega (arith, b)) (omega arith) b

  counts : (at count : ℕ) (m k : ℤ) (o : Result ℤ NumFault) → run.pc + 1 < len → Kept (act.counts run frames r st at count m k o)
  counts at count m k (Ok n) b = turns at _ _ n m k (omega (arith, b)) (omega arith) b
  counts at count m k (Err e) b = onward r st b same

  counts_on : (at count : ℕ) (n m k : Value) → run.pc + 1 < len → Kept (act.counts_on run frames r st at count n m k)
  counts_on at count (num n) (num m) (num k) b = counts at count m k (arithmetic.add n k) b
  counts_on at count n m k b = onward r st b same

  each : (at count : ℕ) (v : Value) → run.pc + 1 < len → Kept (act.each run frames r st at count v)
  each at count v b = either w (is_nil v) _ _ (onward r st b same)
      (ticking_keeps w st.ticks st _ (λ u e. spends _ _ u e (omega (arith, b))))

  abbrev slot_at : ℕ → Value
  slot_at = act.slot_at run frames r st

  acts : (x : Instr) → GoesOn len run.pc x → Kept (act.act_on run frames r st x)
  acts (i.load to o) g = onward _ st g same
  acts (i.get_cell to c) g = onward _ st g same
  acts (i.set_cell c o) g = stores _ g
  acts (i.new_cell c from) g = onward _ _ g (record { made = made; ticks = omega arith })
  acts (i.close to code cells) g = onward _ _ g.0 (record { made = made_last st.functions _ made g.1; ticks = omega arith })
  acts (i.new_table to) g = onward _ _ g (record { made = made; ticks = omega arith })
  acts (i.set_item t n o) g = stores _ g
  acts (i.set_rest t n) g = stores _ g
  acts (i.set_new s t key v) g = sets_new s _ _ _ g
  acts (i.first_extra to) g = onward _ st g same
  acts i.all_extra g = onward _ st g same
  acts (i.unary s op to o) g = does s to _ g
  acts (i.binary s op to a b) g = does s to _ g
  acts (i.get_field s to base key) g = does s to _ g
  acts (i.set_field s base key v) g = sets s _ _ _ g
  acts (i.invoke s wants at count tailed) g = calls _ _ wants s _ _ g
  acts (i.spread from count tailed) g = onward _ st g same
  acts i.tick g = ticking_keeps w st.ticks st _ (λ u e. spends _ r u e g)
  acts (i.skip count) g = goes _ r st (omega arith) g same
  acts (i.skip_if from count) g = jumps (is_true (slot_at from)) _ (omega arith) g (omega (arith, g))
  acts (i.skip_unless from count) g = either w (is_true (slot_at from)) _ _ (onward r st (omega (arith, g)) same) (goes _ r st (omega arith) g same)
  acts (i.back_if from count) g = returns (is_true (slot_at from)) _ (omega (arith, g)) g
  acts (i.back_unless from count) g = either w (is_true (slot_at from)) _ _ (onward r st g same) (ticking_keeps w st.ticks st _ (λ u e. spends _ r u e (omega (arith, g))))
  acts (i.for_begin s at count) g = begins s at count (as_number (slot_at at)) (as_number (slot_at (at + 1))) (as_number (slot_at (at + 2))) g
  acts (i.for_next at count) g = counts_on at count (slot_at at) (slot_at (at + 1)) (slot_at (at + 2)) g
  acts (i.each_next at count) g = each at count _ g
  acts (i.leave from count tailed) g = less _ w _ (omega (arith, here.inside, short)) (finish_keeps frames _ r st.ticks st fs same)

  inside_some : {A : Type 0} (xs : List A) (n : ℕ) → n < length xs → (x : A) × (slice_get xs n ≡ Some x)
  inside_some [] n lt = absurd (let e : ⊥ = omega (arith, lt) in e)
  inside_some (x ∷ xs) zero lt = (x, refl)
  inside_some (x ∷ xs) (suc n) lt = inside_some xs n (omega (arith, lt))

  runs_keeps : Kept (act.act_at run frames r st (slice_get (code_of run.code) run.pc))
  runs_keeps =
      let x = inside_some (code_of run.code) run.pc here.inside in
      subst (λ o. Kept (act.act_at run frames r st o)) (sym x.1) (acts x.0 (sound_at run.code run.pc x.0 here.sound x.1))

active_keeps : (program : Program) → IsSoundProgram program → (active : Active) (frames : List Frame) (r : Registers) (st : State) → IsKept (record { active = active; frames = frames; registers = r; state = st }) → KeptBelow (weight (record { active = active; frames = frames; registers = r; state = st })) (act.act_active program active frames r st)
active_keeps program sound (lua run) frames r st k = runs_keeps run frames r st k.active k.frames k.made
active_keeps program sound (library f args base cell_base) frames r st k =
    less _ _ _ (omega arith) (serves_keeps program sound base cell_base frames r k.frames st.ticks f args st (record { made = k.made; ticks = omega arith }))

pub keeping : AllKeep
keeping program sound =
    record {
      steps = λ c k. active_keeps program sound c.active c.frames c.registers c.state k;
      resumes = λ question reply p k. is_kept _ _ (attends program sound p.base p.cell_base p.frames p.registers k.frames p.state.ticks p.errand reply _ (record { made = k.made; ticks = omega arith }));
    }
