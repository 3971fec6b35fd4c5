-- A turn of a numeric loop begins, or the loop ends.
use Rattle.std.proofs.Common.{◌≡◌, ℕ, zero, suc, ◌+◌, ◌-◌, ◌<◌, List, [], ◌∷◌, length, set, Bool, true, false, refl, sym, ap, ◌∙◌, subst, ◌⊎◌, inl, inr, Some, None, Ok, Err, arith}
use Rattle.std.specs.Prelude.{ℤ, if◌then◌else◌}
use Rattle.std.specs.Bool.{OnFalse}
use Rattle.std.proofs.lemmas.List.{length-set}
use Rattle.std.proofs.lemmas.Option.{none-some, same_Some}
use Rattle.lua_value.specs.Arithmetic as arithmetic
use Rattle.lua_value.specs.declared.arithmetic.NumFault.{NumFault}
use Rattle.lua_tree.specs.Tree.{Bytes}
use Rattle.lua_meaning.specs.Value as meant
use Rattle.lua_machine.specs.Past.{Past}
use Rattle.lua_meaning.specs.Running.{is_counting}
use Rattle.lua_meaning.specs.Text.{as_number}
use Rattle.lua_heap.specs.declared.value.Value.{Value}
use Rattle.lua_heap.specs.declared.value.Value.TheVariants.{Num}
use Rattle.lua_heap.specs.Value.{value_view}
use Rattle.lua_code.specs.Instr as i
use Rattle.lua_code.specs.State.{put, State, Config, Step, on, stop, no_ticks}
use Rattle.lua_code.specs.Frames.{ticking}
use Rattle.lua_code.specs.Act as act
use Rattle.lua_machine.specs.View.{EngineView, value_at, slots_view, registers_of, run_of, frames_of, state_of, config_of}
use Rattle.lua_machine.specs.Does.{at_pc, step_of, DidOr}
use Rattle.lua_machine.specs.Turns.{three_numbers, turn_of, TurnedOr, HasTurned}
use Rattle.lua_machine.proofs.Doing.{value_set_other, slots_set}

pub ticking_one : (t : ℕ) (st : State) (next : State → Step) → 0 < t → ticking t st next ≡ next (record st { ticks = t - 1 })
ticking_one zero st next lt = absurd (let z : ⊥ = omega (arith, lt) in z)
ticking_one (suc t) st next lt = ap (λ u. next (record st { ticks = u })) (let e : t ≡ suc t - 1 = omega arith in e)

pub no_tick : (t : ℕ) (st : State) (next : State → Step) → t ≡ 0 → ticking t st next ≡ stop (no_ticks st)
no_tick t st next e = ap (λ u. ticking u st next) e

set_self : (xs : List Value) (n : ℕ) (x : Value) → n < length xs → value_at xs n ≡ x → set xs n x ≡ xs
set_self [] n x lt e = absurd (let z : ⊥ = omega (arith, lt) in z)
set_self (y ∷ xs) zero x lt e = ap (λ z. z ∷ xs) (sym e)
set_self (y ∷ xs) (suc n) x lt e = ap (λ ys. y ∷ ys) (set_self xs n x (omega (arith, lt)) e)

not_same : (a b : ℕ) → a < b → b ≡ a → ⊥
not_same a b lt e = omega (arith, lt, e)

module _ (texts : List Bytes) (xs : List Value) (a : ℕ) (n m k : ℤ) (room : a + 3 < length xs) (limit : value_at xs (a + 1) ≡ Num m) (step : value_at xs (a + 2) ≡ Num k) where
  abbrev first : List Value
  first = set xs a (Num n)

  long : length first ≡ length xs
  long = length-set xs a (Num n)

  -- a loop's numbers, of which only the first one changes
  pub three_set : put (put (put (slots_view texts xs) a (meant.num n)) (a + 1) (meant.num m)) (a + 2) (meant.num k) ≡ slots_view texts first
  three_set =
      ap (λ s. put (put s (a + 1) (meant.num m)) (a + 2) (meant.num k)) (slots_set texts xs a (Num n) (omega (arith, room)))
      ∙ ap (λ s. put s (a + 2) (meant.num k)) (slots_set texts first (a + 1) (Num m) (omega (arith, room, long)) ∙ ap (slots_view texts) same_limit)
      ∙ (slots_set texts first (a + 2) (Num k) (omega (arith, room, long)) ∙ ap (slots_view texts) same_step)
    where
      same_limit : set first (a + 1) (Num m) ≡ first
      same_limit = set_self first (a + 1) (Num m) (omega (arith, room, long)) (value_set_other xs a (a + 1) (Num n) (not_same a (a + 1) (omega arith)) ∙ limit)

      same_step : set first (a + 2) (Num k) ≡ first
      same_step = set_self first (a + 2) (Num k) (omega (arith, room, long)) (value_set_other xs a (a + 2) (Num n) (not_same a (a + 2) (omega arith)) ∙ step)

  -- and the turn's own value
  pub four_set : put (put (put (put (slots_view texts xs) a (meant.num n)) (a + 1) (meant.num m)) (a + 2) (meant.num k)) (a + 3) (meant.num n) ≡ slots_view texts (set first (a + 3) (Num n))
  four_set = ap (λ s. put s (a + 3) (meant.num n)) three_set ∙ slots_set texts first (a + 3) (Num n) (omega (arith, room, long))

-- a configuration with other slots, at a place
abbrev with_slots_at : EngineView → Past → ℕ → (ℕ → meant.Value) → Config
with_slots_at x past pc slots = record {
  active = (config_of past (at_pc x pc)).active;
  frames = frames_of x;
  registers = record { slots = slots; cells = (registers_of x).cells; tail = (registers_of x).tail };
  state = state_of past x;
}

module _ (x : EngineView) (at body exit : ℕ) (n m k : ℤ) (room : x.base + at + 3 < length x.values) (limit : value_at x.values (x.base + at + 1) ≡ Num m) (step : value_at x.values (x.base + at + 2) ≡ Num k) where
  chosen : (b : Bool) (y z : Step) → is_counting n m k ≡ b → (if is_counting n m k then y else z) ≡ (if b then y else z)
  chosen b y z e = ap (λ b. if b then y else z) e

  -- the loop ends
  pub turn_ends : is_counting n m k ≡ false → (past : Past) → turn_of at body exit n m k past x ≡ on (config_of past (record x { values = set x.values (x.base + at) (Num n); pc = exit }))
  turn_ends e past =
      chosen false _ _ e
      ∙ ap (λ s. on (with_slots_at x past exit s)) (three_set x.heap.texts x.values (x.base + at) n m k room limit step)

  -- a turn begins
  pub turn_begins : is_counting n m k ≡ true → 0 < x.ticks → (past : Past) → turn_of at body exit n m k past x ≡ on (config_of past (record x { values = set (set x.values (x.base + at) (Num n)) (x.base + at + 3) (Num n); pc = body; ticks = x.ticks - 1 }))
  turn_begins e lt past =
      chosen true _ _ e
      ∙ ticking_one x.ticks (state_of past x) _ lt
      ∙ ap (λ s. on (with_slots_at (record x { ticks = x.ticks - 1 }) past body s)) (four_set x.heap.texts x.values (x.base + at) n m k room limit step)

  -- there is no tick for one
  pub turn_waits : is_counting n m k ≡ true → x.ticks ≡ 0 → (past : Past) → turn_of at body exit n m k past x ≡ stop (no_ticks (state_of past x))
  turn_waits e none past = chosen true _ _ e ∙ no_tick x.ticks (state_of past x) _ none

-- ---- an engine that is seen through its fields

module _ (e x : EngineView) (seen : e ≡ x) (at body exit : ℕ) (n m k : ℤ) where
  module _ (room : x.base + (at + 3) < length x.values) (limit : value_at x.values (x.base + at + 1) ≡ Num m) (step : value_at x.values (x.base + at + 2) ≡ Num k) where
    pub ended_so : is_counting n m k ≡ false → TurnedOr true at body exit n m k x (record e { values = set e.values (e.base + at) (Num n); pc = exit })
    ended_so none past =
        turn_ends x at body exit n m k (omega (arith, room)) limit step none past
        ∙ ap (λ (v : EngineView). on (config_of past (record v { values = set v.values (v.base + at) (Num n); pc = exit }))) (sym seen)

    pub begun_so : is_counting n m k ≡ true → 0 < e.ticks → TurnedOr true at body exit n m k x (record e { values = set (set e.values (e.base + at) (Num n)) (e.base + at + 3) (Num n); pc = body; ticks = e.ticks - 1 })
    begun_so some left past =
        turn_begins x at body exit n m k (omega (arith, room)) limit step some (subst (λ (v : EngineView). 0 < v.ticks) seen left) past
        ∙ ap (λ (v : EngineView). on (config_of past (record v { values = set (set v.values (v.base + at) (Num n)) (v.base + at + 3) (Num n); pc = body; ticks = v.ticks - 1 }))) (sym seen)

  pub moved_to : (values : List Value) (pc ticks : ℕ) → length values ≡ length e.values → (pc ≡ body) ⊎ (pc ≡ exit) → HasTurned body exit x (record e { values = values; pc = pc; ticks = ticks })
  moved_to values pc ticks long place =
      record {
        values = values;
        pc = pc;
        ticks = ticks;
        is = ap (λ (v : EngineView). record v { values = values; pc = pc; ticks = ticks }) seen;
        long = long ∙ ap (λ (v : EngineView). length v.values) seen;
        place = place;
      }

  pub moved_on : HasTurned body exit x (record e { values = set e.values (e.base + at) (Num n); pc = exit })
  moved_on = moved_to (set e.values (e.base + at) (Num n)) exit e.ticks (length-set e.values (e.base + at) (Num n)) (inr refl)

  pub moved_in : HasTurned body exit x (record e { values = set (set e.values (e.base + at) (Num n)) (e.base + at + 3) (Num n); pc = body; ticks = e.ticks - 1 })
  moved_in =
      moved_to (set (set e.values (e.base + at) (Num n)) (e.base + at + 3) (Num n)) body (e.ticks - 1)
      (length-set (set e.values (e.base + at) (Num n)) (e.base + at + 3) (Num n) ∙ length-set e.values (e.base + at) (Num n)) (inl refl)

-- ---- what an instruction comes to

three_are : (a b c : Value) (n m k : ℤ) → three_numbers a b c ≡ Some (n, m, k) → (a ≡ Num n) × (b ≡ Num m) × (c ≡ Num k)
three_are (Num x) (Num y) (Num z) n m k e =
    let same : (x, y, z) ≡ (n, m, k) = same_Some (x, y, z) (n, m, k) e in
    (ap (λ t. Num t.0) same, ap (λ t. Num t.1) same, ap (λ t. Num t.2) same)
three_are a b c n m k e = absurd (none-some (n, m, k) e)

module _ (x : EngineView) (at count : ℕ) where
  abbrev v0 : Value
  v0 = value_at x.values (x.base + at)

  abbrev v1 : Value
  v1 = value_at x.values (x.base + at + 1)

  abbrev v2 : Value
  v2 = value_at x.values (x.base + at + 2)

  abbrev counts_in : Past → meant.Value → meant.Value → meant.Value → Step
  counts_in past a b c = act.counts_on (run_of x) (frames_of x) (registers_of x) (state_of past x) at count a b c

  places : (past : Past) → step_of (i.for_next at count) past x ≡ counts_in past (value_view x.heap.texts v0) (value_view x.heap.texts v1) (value_view x.heap.texts v2)
  places past =
      ap (λ p. counts_in past (value_view x.heap.texts v0) (slots_view x.heap.texts x.values p) (slots_view x.heap.texts x.values (x.base + (at + 2)))) (let e : x.base + (at + 1) ≡ x.base + at + 1 = omega arith in e)
      ∙ ap (λ p. counts_in past (value_view x.heap.texts v0) (value_view x.heap.texts v1) (slots_view x.heap.texts x.values p)) (let e : x.base + (at + 2) ≡ x.base + at + 2 = omega arith in e)

  no_numbers : (past : Past) (a b c : Value) → three_numbers a b c ≡ None → counts_in past (value_view x.heap.texts a) (value_view x.heap.texts b) (value_view x.heap.texts c) ≡ on (config_of past (at_pc x (x.pc + 1)))
  no_numbers past (Num n) (Num m) (Num k) e = absurd (none-some (n, m, k) (sym e))
  no_numbers past a b c e = refl

  -- it goes on where these aren't numbers
  pub next_passes : three_numbers v0 v1 v2 ≡ None → (past : Past) → step_of (i.for_next at count) past x ≡ on (config_of past (at_pc x (x.pc + 1)))
  next_passes e past = places past ∙ no_numbers past v0 v1 v2 e

  by_numbers : (past : Past) (n m k : ℤ) → three_numbers v0 v1 v2 ≡ Some (n, m, k) → step_of (i.for_next at count) past x ≡ act.counts (run_of x) (frames_of x) (registers_of x) (state_of past x) at count m k (arithmetic.add n k)
  by_numbers past n m k e =
      let are = three_are v0 v1 v2 n m k e in
      places past
      ∙ ap (λ v. counts_in past (value_view x.heap.texts v) (value_view x.heap.texts v1) (value_view x.heap.texts v2)) are.0
      ∙ ap (λ v. counts_in past (meant.num n) (value_view x.heap.texts v) (value_view x.heap.texts v2)) are.1
      ∙ ap (λ v. counts_in past (meant.num n) (meant.num m) (value_view x.heap.texts v)) are.2

  -- the next number is out of range
  pub next_ends : (n m k : ℤ) (fault : NumFault) → three_numbers v0 v1 v2 ≡ Some (n, m, k) → arithmetic.add n k ≡ Err fault → (past : Past) → step_of (i.for_next at count) past x ≡ on (config_of past (at_pc x (x.pc + 1)))
  next_ends n m k fault e f past = by_numbers past n m k e ∙ ap (λ o. act.counts (run_of x) (frames_of x) (registers_of x) (state_of past x) at count m k o) f

  -- it is a turn's
  pub next_turns : (n m k next : ℤ) → three_numbers v0 v1 v2 ≡ Some (n, m, k) → arithmetic.add n k ≡ Ok next → (past : Past) → step_of (i.for_next at count) past x ≡ turn_of at (x.pc - count) (x.pc + 1) next m k past x
  next_turns n m k next e f past = by_numbers past n m k e ∙ ap (λ o. act.counts (run_of x) (frames_of x) (registers_of x) (state_of past x) at count m k o) f

  -- the numbers that stay
  pub limit_is : (n m k : ℤ) → three_numbers v0 v1 v2 ≡ Some (n, m, k) → v1 ≡ Num m
  limit_is n m k e = (three_are v0 v1 v2 n m k e).1

  pub step_is : (n m k : ℤ) → three_numbers v0 v1 v2 ≡ Some (n, m, k) → v2 ≡ Num k
  step_is n m k e = (three_are v0 v1 v2 n m k e).2

  -- a turn that began, or that wants a tick
  pub next_did : (n m k next : ℤ) → three_numbers v0 v1 v2 ≡ Some (n, m, k) → arithmetic.add n k ≡ Ok next → (b : Bool) (new : EngineView) → TurnedOr b at (x.pc - count) (x.pc + 1) next m k x new → OnFalse b (new ≡ x) → DidOr (i.for_next at count) b x new
  next_did n m k next e f true new t same = λ past. next_turns n m k next e f past ∙ t past
  next_did n m k next e f false new t same = λ past.
      subst (λ (v : EngineView). step_of (i.for_next at count) past v ≡ stop (no_ticks (state_of past v))) (sym same)
      (next_turns n m k next e f past
      ∙ subst (λ (v : EngineView). turn_of at (x.pc - count) (x.pc + 1) next m k past v ≡ stop (no_ticks (state_of past v))) same (t past))

  -- ---- a loop begins

  module _ (s : i.Site) where
    abbrev begins_in : Past → (a b c : meant.Value) → Step
    begins_in past a b c = act.begins (run_of x) (frames_of x) (registers_of x) (state_of past x) s at count (as_number a) (as_number b) (as_number c)

    -- with its numbers its first turn begins, or none
    pub begin_turns : (n m k : ℤ) → three_numbers v0 v1 v2 ≡ Some (n, m, k) → (past : Past) → step_of (i.for_begin s at count) past x ≡ turn_of at (x.pc + 1) (x.pc + 1 + count) n m k past x
    begin_turns n m k e past =
        let are = three_are v0 v1 v2 n m k e in
        ap (λ p. begins_in past (value_view x.heap.texts v0) (slots_view x.heap.texts x.values p) (slots_view x.heap.texts x.values (x.base + (at + 2)))) (let e : x.base + (at + 1) ≡ x.base + at + 1 = omega arith in e)
        ∙ ap (λ p. begins_in past (value_view x.heap.texts v0) (value_view x.heap.texts v1) (slots_view x.heap.texts x.values p)) (let e : x.base + (at + 2) ≡ x.base + at + 2 = omega arith in e)
        ∙ ap (λ v. begins_in past (value_view x.heap.texts v) (value_view x.heap.texts v1) (value_view x.heap.texts v2)) are.0
        ∙ ap (λ v. begins_in past (meant.num n) (value_view x.heap.texts v) (value_view x.heap.texts v2)) are.1
        ∙ ap (λ v. begins_in past (meant.num n) (meant.num m) (value_view x.heap.texts v)) are.2

    pub begin_did : (n m k : ℤ) → three_numbers v0 v1 v2 ≡ Some (n, m, k) → (b : Bool) (new : EngineView) → TurnedOr b at (x.pc + 1) (x.pc + 1 + count) n m k x new → OnFalse b (new ≡ x) → DidOr (i.for_begin s at count) b x new
    begin_did n m k e true new t same = λ past. begin_turns n m k e past ∙ t past
    begin_did n m k e false new t same = λ past.
        subst (λ (v : EngineView). step_of (i.for_begin s at count) past v ≡ stop (no_ticks (state_of past v))) (sym same)
        (begin_turns n m k e past
        ∙ subst (λ (v : EngineView). turn_of at (x.pc + 1) (x.pc + 1 + count) n m k past v ≡ stop (no_ticks (state_of past v))) same (t past))
