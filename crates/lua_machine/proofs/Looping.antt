-- Loops that begin with what isn't three numbers.
use Rattle.std.proofs.Common.{◌≡◌, ℕ, ◌+◌, ◌<◌, ◌≤◌, ℤ, Bool, true, false, List, length, set, Option, Some, None, Result, Ok, Err, refl, sym, ap, ◌∙◌, subst, arith}
use Rattle.std.specs.Prelude.{◌==◌, if◌then◌else◌}
use Rattle.std.specs.List.{AllByRecursion}
use Rattle.lua_tree.specs.Tree.{Bytes}
use Rattle.lua_meaning.specs.Value as meant
use Rattle.lua_machine.specs.Past.{Past}
use Rattle.lua_meaning.specs.Running.{is_counting}
use Rattle.lua_heap.specs.declared.value.Value.{Value}
use Rattle.lua_heap.specs.declared.value.Value.TheVariants.{Num}
use Rattle.lua_code.specs.declared.instr.Instr.TheVariants.{ForBegin}
use Rattle.lua_code.specs.State.{put, Registers, put_slot, State, Running, Frame, Step}
use Rattle.lua_code.specs.Instr.{Site}
use Rattle.lua_code.specs.Frames.{ticking}
use Rattle.lua_code.specs.Act as act
use Rattle.lua_code.specs.Within.{slots_of}
use Rattle.lua_machine.specs.declared.status.Status.{Status}
use Rattle.lua_machine.specs.declared.status.Status.TheVariants.{Raises}
use Rattle.lua_machine.specs.View.{EngineView, value_at, cell_at, slots_view, run_of, frames_of, registers_of, state_of}
use Rattle.lua_machine.specs.Ready.{IsPlaced, IsWaiting, IsReadyFor}
use Rattle.lua_machine.specs.Errors.{Raised}
use Rattle.lua_machine.specs.Does.{site_at, step_at, Takes}
use Rattle.lua_machine.specs.Turns.{three_numbers, numbers_at, three_read, slot_number, loop_numbers, with_numbers, turn_of}
use Rattle.lua_machine.proofs.Doing.{value_set_same, value_set_other, slots_set}
use Rattle.lua_machine.proofs.Taking.{length_set}
use Rattle.lua_machine.proofs.Turning.{begin_turns}
use Rattle.lua_machine.proofs.Called.{came_as}
use Rattle.lua_machine.proofs.Storing.{takes_raised}

-- ---- what three values are as numbers

abbrev are_read : ℤ × ℤ × ℤ → Result (ℤ × ℤ × ℤ) Bytes
are_read x = Ok x

same_read : (x y : ℤ × ℤ × ℤ) → are_read x ≡ are_read y → x ≡ y
same_read x y e = cc

three_are_read : (x y z : Option ℤ) (n m k : ℤ) → three_read x y z ≡ Ok (n, m, k) → (x ≡ Some n) × (y ≡ Some m) × (z ≡ Some k)
three_are_read None y z n m k e = absurd (let no : ⊥ = cc in no)
three_are_read (Some a) None z n m k e = absurd (let no : ⊥ = cc in no)
three_are_read (Some a) (Some b) None n m k e = absurd (let no : ⊥ = cc in no)
three_are_read (Some a) (Some b) (Some c) n m k e =
    let same = same_read (a, b, c) (n, m, k) e in
    (ap (λ t. Some t.0) same, ap (λ t. Some t.1) same, ap (λ t. Some t.2) same)

abbrev is_said : Bytes → Result (ℤ × ℤ × ℤ) Bytes
is_said x = Err x

same_text : (x y : Bytes) → is_said x ≡ is_said y → x ≡ y
same_text x y e = cc

module _ (run : Running) (frames : List Frame) (r : Registers) (st : State) (s : Site) (at count : ℕ) where
  begins_fault : (x y z : Option ℤ) (text : Bytes) → three_read x y z ≡ Err text → act.begins run frames r st s at count x y z ≡ act.fault run frames r st s text
  begins_fault None y z text e = ap (act.fault run frames r st s) (same_text _ text e)
  begins_fault (Some a) None z text e = ap (act.fault run frames r st s) (same_text _ text e)
  begins_fault (Some a) (Some b) None text e = ap (act.fault run frames r st s) (same_text _ text e)
  begins_fault (Some a) (Some b) (Some c) text e = absurd (let no : ⊥ = cc in no)

-- ---- three slots that get numbers, once and twice

pick-twice : {A : Type 0} (x y z : Bool) (j k n v : A) → (if x then j else (if y then k else (if z then n else (if x then j else (if y then k else (if z then n else v)))))) ≡ (if x then j else (if y then k else (if z then n else v)))
pick-twice true y z j k n v = refl
pick-twice false true z j k n v = refl
pick-twice false false true j k n v = refl
pick-twice false false false j k n v = refl

module _ (m : EngineView) (at count : ℕ) (n k j : ℤ) (room : m.base + (at + 3) < length m.values) where
  abbrev first : ℕ
  first = m.base + at

  abbrev mid : EngineView
  mid = with_numbers m at n k j

  abbrev one_set : List Value
  one_set = set m.values first (Num n)

  abbrev two_set : List Value
  two_set = set one_set (first + 1) (Num k)

  one_long : length one_set ≡ length m.values
  one_long = length_set m.values first (Num n)

  two_long : length two_set ≡ length m.values
  two_long = length_set one_set (first + 1) (Num k) ∙ one_long

  all_long : length mid.values ≡ length m.values
  all_long = length_set two_set (first + 2) (Num j) ∙ two_long

  numbers_mid : numbers_at mid at ≡ Some (n, k, j)
  numbers_mid =
      let long1 = one_long in
      let long2 = two_long in
      let first_is : value_at mid.values first ≡ Num n =
      value_set_other two_set (first + 2) first (Num j) (λ e. omega (arith, e))
      ∙ (value_set_other one_set (first + 1) first (Num k) (λ e. omega (arith, e))
      ∙ value_set_same m.values first (Num n) (omega (arith, room))) in
      let second_is : value_at mid.values (first + 1) ≡ Num k =
      value_set_other two_set (first + 2) (first + 1) (Num j) (λ e. omega (arith, e))
      ∙ value_set_same one_set (first + 1) (Num k) (omega (arith, room, long1)) in
      let third_is : value_at mid.values (first + 2) ≡ Num j = value_set_same two_set (first + 2) (Num j) (omega (arith, room, long2)) in
      ap (λ (v : Value). three_numbers v (value_at mid.values (first + 1)) (value_at mid.values (first + 2))) first_is
      ∙ (ap (λ (v : Value). three_numbers (Num n) v (value_at mid.values (first + 2))) second_is
      ∙ ap (λ (v : Value). three_numbers (Num n) (Num k) v) third_is)

  abbrev triple : (ℕ → meant.Value) → ℕ → meant.Value
  triple f = put (put (put f first (meant.num n)) (first + 1) (meant.num k)) (first + 2) (meant.num j)

  triple-twice : (f : ℕ → meant.Value) → triple (triple f) ≡ triple f
  triple-twice f = λ i x. pick-twice (x == (first + 2)) (x == (first + 1)) (x == first) (meant.num j) (meant.num k) (meant.num n) (f x) i

  slots_mid : slots_view m.heap.texts mid.values ≡ triple (slots_view m.heap.texts m.values)
  slots_mid =
      let long1 = one_long in
      let long2 = two_long in
      sym (slots_set m.heap.texts two_set (first + 2) (Num j) (omega (arith, room, long2)))
      ∙ ap (λ (f : ℕ → meant.Value). put f (first + 2) (meant.num j))
      (sym (slots_set m.heap.texts one_set (first + 1) (Num k) (omega (arith, room, long1)))
      ∙ ap (λ (f : ℕ → meant.Value). put f (first + 1) (meant.num k)) (sym (slots_set m.heap.texts m.values first (Num n) (omega (arith, room)))))

  -- what a turn does is the same from both
  abbrev with_row : (ℕ → meant.Value) → Registers
  with_row f = record { slots = f; cells = cell_at m.cells; tail = (registers_of m).tail }

  abbrev turns_from : Past → (ℕ → meant.Value) → Step
  turns_from past f = act.turns (run_of m) (frames_of m) (with_row f) (state_of past m) at (m.pc + 1) (m.pc + 1 + count) n k j

  abbrev turns_on : Past → (ℕ → meant.Value) → Step
  turns_on past f =
      if is_counting n k j
      then ticking m.ticks (state_of past m) (λ st. act.going (run_of m) (frames_of m) (registers_of m) (state_of past m) (m.pc + 1) (put_slot (with_row f) (m.base + at + 3) (meant.num n)) st)
      else act.going (run_of m) (frames_of m) (registers_of m) (state_of past m) (m.pc + 1 + count) (with_row f) (state_of past m)

  turns_same : (past : Past) → turn_of at (m.pc + 1) (m.pc + 1 + count) n k j past m ≡ turn_of at (m.pc + 1) (m.pc + 1 + count) n k j past mid
  turns_same past =
      let f = slots_view m.heap.texts m.values in
      ap (turns_on past) (sym (triple-twice f)) ∙ ap (turns_from past) (sym slots_mid)

  begin_same : loop_numbers m at ≡ Ok (n, k, j) → (past : Past) → step_at (ForBegin at count) past m ≡ step_at (ForBegin at count) past mid
  begin_same read past =
      let s = site_at m.proto m.pc in
      let begins : Option ℤ → Option ℤ → Option ℤ → Step = λ x y z. act.begins (run_of m) (frames_of m) (registers_of m) (state_of past m) s at count x y z in
      let are = three_are_read (slot_number m first) (slot_number m (first + 1)) (slot_number m (first + 2)) n k j read in
      ap (λ p. begins (slot_number m first) (slot_number m p) (slot_number m (m.base + (at + 2)))) (let e : m.base + (at + 1) ≡ first + 1 = omega arith in e)
      ∙ (ap (λ p. begins (slot_number m first) (slot_number m (first + 1)) (slot_number m p)) (let e : m.base + (at + 2) ≡ first + 2 = omega arith in e)
      ∙ (ap (λ x. begins x (slot_number m (first + 1)) (slot_number m (first + 2))) are.0
      ∙ (ap (λ y. begins (Some n) y (slot_number m (first + 2))) are.1
      ∙ (ap (λ z. begins (Some n) (Some k) z) are.2
      ∙ (turns_same past ∙ sym (begin_turns mid at count s n k j numbers_mid past))))))

  -- so a turn that begins from there is the loop's
  pub begins_read : loop_numbers m at ≡ Ok (n, k, j) → (status : Status) (new : EngineView) → Takes (ForBegin at count) status mid new → Takes (ForBegin at count) status m new
  begins_read read status new c = came_as (λ past. step_at (ForBegin at count) past mid) (λ past. step_at (ForBegin at count) past m) status new (begin_same read) c

  pub ready_mid : IsReadyFor (ForBegin at count) m → IsReadyFor (ForBegin at count) mid
  ready_mid r =
      let long = sym all_long in
      record {
        ready = record {
          placed = subst (λ (l : ℕ). IsPlaced m.chunks l (length m.cells) m.chunk m.func m.pc m.base m.cell_base) long r.ready.placed;
          proto = r.ready.proto;
          fit = record {
            frames = subst (λ (l : ℕ). AllByRecursion (IsWaiting m.chunks l (length m.cells)) m.frames) long r.ready.fit.frames;
            functions = r.ready.fit.functions;
            chunks = r.ready.fit.chunks;
          };
        };
        next = r.next;
        short = r.short;
        bounded = r.bounded;
        slots = subst (λ (l : ℕ). m.base + slots_of (ForBegin at count) ≤ l) long r.slots;
        cells = r.cells;
        uses = r.uses;
        known = r.known;
        leads = r.leads;
      }

-- one of them isn't a number
pub begins_refused : (m new : EngineView) (at count : ℕ) (text : Bytes) (error : Value) → IsReadyFor (ForBegin at count) m → loop_numbers m at ≡ Err text → Raised text error m new → Takes (ForBegin at count) (Raises error) m new
begins_refused m new at count text error r read raised =
    takes_raised (ForBegin at count) m r new text error raised (λ past.
    let s = site_at m.proto m.pc in
    let begins : Option ℤ → Option ℤ → Option ℤ → Step = λ x y z. act.begins (run_of m) (frames_of m) (registers_of m) (state_of past m) s at count x y z in
    ap (λ p. begins (slot_number m (m.base + at)) (slot_number m p) (slot_number m (m.base + (at + 2)))) (let e : m.base + (at + 1) ≡ m.base + at + 1 = omega arith in e)
    ∙ (ap (λ p. begins (slot_number m (m.base + at)) (slot_number m (m.base + at + 1)) (slot_number m p)) (let e : m.base + (at + 2) ≡ m.base + at + 2 = omega arith in e)
    ∙ begins_fault (run_of m) (frames_of m) (registers_of m) (state_of past m) s at count (slot_number m (m.base + at)) (slot_number m (m.base + at + 1)) (slot_number m (m.base + at + 2)) text read))
