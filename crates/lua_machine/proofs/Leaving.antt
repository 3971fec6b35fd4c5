-- A function ends: its results, and what the function that waited gets of them.
use Rattle.std.proofs.Common.{◌≡◌, ℕ, zero, suc, ◌+◌, ◌-◌, ◌≤◌, List, [], ◌∷◌, ◌++◌, length, take, drop, refl, sym, ap, ◌∙◌, Bool, true, false, arith}
use Rattle.std.specs.Prelude.{map, not, slice_range}
use Rattle.lua_tree.specs.Tree.{Bytes}
use Rattle.lua_meaning.specs.Value as meant
use Rattle.lua_meaning.specs.Value.{first, flag, is_true}
use Rattle.lua_machine.specs.Past.{Past, no_past}
use Rattle.lua_meaning.specs.World.{given}
use Rattle.lua_heap.specs.declared.value.Value.{Value}
use Rattle.lua_heap.specs.declared.value.Value.TheVariants.{Bool as Flag}
use Rattle.lua_heap.specs.Value.{value_view}
use Rattle.lua_code.specs.Instr as i
use Rattle.lua_code.specs.State.{row, put, Registers, Frame as Waiting, Step, on}
use Rattle.lua_code.specs.Frames.{received, finish}
use Rattle.lua_code.specs.Act as act
use Rattle.lua_machine.specs.declared.frame.Wants.{Wants}
use Rattle.lua_machine.specs.declared.frame.Wants.TheVariants.{ToSlot, TruthTo, UntruthTo, ToTail, Nothing}
use Rattle.lua_machine.specs.declared.frame.Role.TheVariants.{Waits}
use Rattle.lua_machine.specs.declared.frame.Frame.{Frame}
use Rattle.lua_machine.specs.declared.status.Status.TheVariants.{Gives}
use Rattle.lua_machine.specs.Arguments as args
use Rattle.lua_machine.specs.Arguments.{behind_where, behind_of}
use Rattle.lua_machine.specs.View.{EngineView, slots_view, registers_of, run_of, frames_of, state_of, config_of, wants_view}
use Rattle.lua_machine.specs.Made.{IsEngine}
use Rattle.lua_machine.specs.Does.{step_of, step_as, Did}
use Rattle.lua_machine.specs.Frames.{resumed, WentOn}
use Rattle.lua_machine.specs.Ready.{WantsFit}
use Rattle.lua_machine.specs.Results.{held_at, results_at, tail_where, received_values, truth, WantsOne}
use Rattle.lua_machine.proofs.Doing.{slots_set}
use Rattle.lua_machine.proofs.Waiting.{resumed_frames}

-- ---- results

row_later : (texts : List Bytes) (x : Value) (xs : List Value) (n count : ℕ) → row (slots_view texts (x ∷ xs)) (suc n) count ≡ row (slots_view texts xs) n count
row_later texts x xs n zero = refl
row_later texts x xs n (suc count) = ap (λ vs. slots_view texts xs n ∷ vs) (row_later texts x xs (suc n) count)

pub row_taken : (texts : List Bytes) (xs : List Value) (n count : ℕ) → n + count ≤ length xs → map (value_view texts) (take count (drop n xs)) ≡ row (slots_view texts xs) n count
row_taken texts xs n zero le = refl
row_taken texts [] n (suc count) le = absurd (let e : ⊥ = omega (arith, le) in e)
row_taken texts (x ∷ xs) zero (suc count) le = ap (λ vs. value_view texts x ∷ vs) (row_taken texts xs zero count (omega (arith, le)) ∙ sym (row_later texts x xs zero count))
row_taken texts (x ∷ xs) (suc n) (suc count) le = row_taken texts xs n (suc count) (omega (arith, le)) ∙ sym (row_later texts x xs n (suc count))

map_append : (f : Value → meant.Value) (xs ys : List Value) → map f (xs ++ ys) ≡ map f xs ++ map f ys
map_append f [] ys = refl
map_append f (x ∷ xs) ys = ap (λ vs. f x ∷ vs) (map_append f xs ys)

pub held_view : (m : EngineView) (n count : ℕ) (tailed : Bool) → n + count ≤ length m.values → map (value_view m.heap.texts) (held_at m n count tailed) ≡ results_at m n count tailed
held_view m n count tailed le =
    map_append (value_view m.heap.texts) (slice_range m.values n (n + count)) (tail_where tailed m.tail)
    ∙ ap (λ k. map (value_view m.heap.texts) (take k (drop n m.values)) ++ map (value_view m.heap.texts) (tail_where tailed m.tail)) (let e : n + count - n ≡ count = omega arith in e)
    ∙ ap (λ vs. vs ++ map (value_view m.heap.texts) (tail_where tailed m.tail)) (row_taken m.heap.texts m.values n count le)

rest_is : (m : EngineView) (tailed : Bool) → act.rest (run_of m) (frames_of m) (registers_of m) (state_of no_past m) tailed ≡ map (value_view m.heap.texts) (tail_where tailed m.tail)
rest_is m true = refl
rest_is m false = refl

-- ---- what a frame gets

receives : (m : EngineView) (w : Wants) (v : Value) (vs : List meant.Value) → WantsOne w → WantsFit m.base (length m.values) w → value_view m.heap.texts v ≡ first vs → received (wants_view w) vs m.base (registers_of m) ≡ registers_of (record m { values = received_values w v m })
receives m (ToSlot n) v vs one lt e =
    ap (λ w. with_slots (put (slots_view m.heap.texts m.values) (m.base + n) w)) (sym e)
    ∙ ap with_slots (slots_set m.heap.texts m.values (m.base + n) v lt)
  where
    with_slots : (ℕ → meant.Value) → Registers
    with_slots s = record { slots = s; cells = (registers_of m).cells; tail = (registers_of m).tail }
receives m (TruthTo n) v vs one lt e =
    ap (λ w. with_slots (put (slots_view m.heap.texts m.values) (m.base + n) (flag (is_true w)))) (sym e)
    ∙ ap with_slots (slots_set m.heap.texts m.values (m.base + n) (Flag (truth m v)) lt)
  where
    with_slots : (ℕ → meant.Value) → Registers
    with_slots s = record { slots = s; cells = (registers_of m).cells; tail = (registers_of m).tail }
receives m (UntruthTo n) v vs one lt e =
    ap (λ w. with_slots (put (slots_view m.heap.texts m.values) (m.base + n) (flag (not (is_true w))))) (sym e)
    ∙ ap with_slots (slots_set m.heap.texts m.values (m.base + n) (Flag (not (truth m v))) lt)
  where
    with_slots : (ℕ → meant.Value) → Registers
    with_slots s = record { slots = s; cells = (registers_of m).cells; tail = (registers_of m).tail }
receives m ToTail v vs one lt e = absurd one
receives m Nothing v vs one lt e = refl

-- ---- the step

abbrev leaves : (past : Past) (m : EngineView) → List meant.Value → List Waiting → Step
leaves past m vs frames = finish (given vs) frames (registers_of m) (state_of past m)

-- what a function's end comes to, whatever the past were
left : (m : EngineView) (from count : ℕ) (tailed : Bool) (past : Past) → step_of (i.leave from count tailed) past m ≡ leaves past m (results_at m (m.base + from) count tailed) (frames_of m)
left m from count true past = refl
left m from count false past = refl

-- results go to the function of Lua on top
module _ (m new : EngineView) (is : IsEngine m) (f : Frame) (wants : Wants) (role : f.role ≡ Waits wants) (went : WentOn f m new) (vs : List meant.Value) (past : Past) where
  -- it goes on with the first one
  pub gives_one : (v : Value) → WantsOne wants → WantsFit f.base (length m.values) wants → value_view m.heap.texts v ≡ first vs → leaves past m vs (frames_of m) ≡ on (config_of past (record new { values = received_values wants v new }))
  gives_one v one fits e =
      let x : EngineView = resumed m went.frames f in
      ap (leaves past m vs) (resumed_frames m is went.frames f went.were wants role)
      ∙ ap (λ (r : Registers). on (record { active = (config_of past x).active; frames = frames_of x; registers = r; state = state_of past x }))
      (receives x wants v vs one fits e)
      ∙ ap (λ (y : EngineView). on (config_of past (record y { values = received_values wants v y }))) (sym went.are)

  -- or with all of them
  pub gives_all : (tail : List Value) → ToTail ≡ wants → map (value_view m.heap.texts) tail ≡ vs → leaves past m vs (frames_of m) ≡ on (config_of past (record new { tail = tail }))
  gives_all tail all e =
      let x : EngineView = resumed m went.frames f in
      ap (leaves past m vs) (resumed_frames m is went.frames f went.were wants role)
      ∙ ap (λ (w : Wants). on (record { active = (config_of past x).active; frames = frames_of x; registers = received (wants_view w) vs x.base (registers_of x); state = state_of past x })) (sym all)
      ∙ ap (λ ws. on (record { active = (config_of past x).active; frames = frames_of x; registers = record { slots = (registers_of x).slots; cells = (registers_of x).cells; tail = ws }; state = state_of past x })) (sym e)
      ∙ ap (λ (y : EngineView). on (config_of past (record y { tail = tail }))) (sym went.are)

-- those of a function that ends
pub left_one : (m new : EngineView) (is : IsEngine m) (f : Frame) (wants : Wants) (role : f.role ≡ Waits wants) (from count : ℕ) (tailed : Bool) (v : Value) (went : WentOn f m new) → WantsOne wants → WantsFit f.base (length m.values) wants → value_view m.heap.texts v ≡ first (results_at m (m.base + from) count tailed) → Did (i.leave from count tailed) m (record new { values = received_values wants v new })
left_one m new is f wants role from count tailed v went one fits e past =
    left m from count tailed past ∙ gives_one m new is f wants role went (results_at m (m.base + from) count tailed) past v one fits e

pub left_all : (m new : EngineView) (is : IsEngine m) (f : Frame) (wants : Wants) (role : f.role ≡ Waits wants) (from count : ℕ) (tailed : Bool) (went : WentOn f m new) → ToTail ≡ wants → m.base + from + count ≤ length m.values → Did (i.leave from count tailed) m (record new { tail = held_at new (m.base + from) count tailed })
left_all m new is f wants role from count tailed went all le past =
    left m from count tailed past
    ∙ gives_all m new is f wants role went (results_at m (m.base + from) count tailed) past (held_at new (m.base + from) count tailed) all
    (ap (λ (y : EngineView). map (value_view m.heap.texts) (held_at y (m.base + from) count tailed)) went.are ∙ held_view m (m.base + from) count tailed le)

-- those of a function whose caller isn't one of Lua
tail_is : (tailed : Bool) (m : EngineView) → behind_of (behind_where tailed) m ≡ tail_where tailed m.tail
tail_is true m = refl
tail_is false m = refl

pub left_given : (m : EngineView) (from count : ℕ) (tailed : Bool) → m.base + from + count ≤ length m.values → (past : Past) → step_of (i.leave from count tailed) past m ≡ step_as Gives past (record m { args = args.given m (m.base + from) count (behind_where tailed) })
left_given m from count tailed le past =
    left m from count tailed past
    ∙ ap (λ (vs : List meant.Value). leaves past m vs (frames_of m)) (sym (held_view m (m.base + from) count tailed le))
    ∙ ap (λ (vs : List Value). leaves past m (map (value_view m.heap.texts) (slice_range m.values (m.base + from) (m.base + from + count) ++ vs)) (frames_of m)) (sym (tail_is tailed m))

pub one_unless : (w : Wants) → (w ≡ ToTail → ⊥) → WantsOne w
one_unless ToTail other = other refl
one_unless w other = tt
