-- Instructions that call, and those of lists of values and generic loops.
use Rattle.std.proofs.Common.{◌≡◌, ℕ, zero, suc, ◌+◌, ◌-◌, ◌<◌, ◌≤◌, List, [], ◌∷◌, ◌++◌, length, set, Bool, true, false, refl, sym, ap, ◌∙◌, subst, inl, Option, Some, None, slice_get, arith}
use Rattle.std.specs.Prelude.{map, unwrap_or, if◌then◌else◌, codes, Result, Ok, Err, IfOk}
use Rattle.lua_tree.specs.Tree.{Bytes}
use Rattle.lua_meaning.specs.Value as meant
use Rattle.lua_meaning.specs.Value.{is_nil}
use Rattle.lua_machine.specs.Past.{Past}
use Rattle.lua_meaning.specs.Store.{handler}
use Rattle.lua_heap.specs.declared.entries.Function.{Function}
use Rattle.lua_heap.specs.declared.value.Value.{Value}
use Rattle.lua_heap.specs.declared.value.Value.TheVariants.{Nil, Func, Native}
use Rattle.lua_heap.specs.declared.native.Native as native
use Rattle.lua_heap.specs.Value.{value_view}
use Rattle.lua_heap.specs.Heap.{store_of, no_function, IsMade}
use Rattle.lua_code.specs.Instr as i
use Rattle.lua_code.specs.declared.instr.Instr.TheVariants.{Invoke, InvokeAll, Spread, EachNext}
use Rattle.lua_code.specs.Valid.{cells_at}
use Rattle.lua_code.specs.State.{put_values, row, Made, put_slot, Step, on}
use Rattle.lua_code.specs.Frames.{Callee, runs, callee_of, with_args, ticking, calling}
use Rattle.lua_code.specs.Act as act
use Rattle.lua_machine.specs.declared.arguments.Behind.{Behind}
use Rattle.lua_machine.specs.declared.frame.Wants.{Wants}
use Rattle.lua_machine.specs.declared.frame.Wants.TheVariants.{ToSlot, ToTail}
use Rattle.lua_machine.specs.declared.invoke.Callee.TheVariants.{Runs, Handles, Library, HandlesLibrary, Nothing}
use Rattle.lua_machine.specs.declared.status.Status.{Status}
use Rattle.lua_machine.specs.declared.status.Status.TheVariants.{Goes, NoTick}
use Rattle.lua_machine.specs.View.{EngineView, value_at, slots_view, wants_view, registers_of, run_of, frames_of, made_view, state_of, config_of}
use Rattle.lua_machine.specs.Ready.{AreFit, IsReadyFor}
use Rattle.lua_machine.specs.Does.{site_at, step_of, step_at, at_pc, Takes}
use Rattle.lua_machine.specs.Arguments.{filled, behind_where, behind_of, args_at}
use Rattle.lua_machine.specs.Callees.{callee_at, called_at}
use Rattle.lua_machine.specs.Entering.{HasFunction, CanCall}
use Rattle.lua_machine.specs.Calling.{IsNoFunction, IsCallee, calling_frames, calling_step, CallsAs}
use Rattle.lua_machine.proofs.Doing.{slots_set}
use Rattle.lua_machine.proofs.Keeping.{goes_on}
use Rattle.lua_machine.proofs.Taking.{length_set, stays_at, takes_jump, takes_turned}
use Rattle.lua_machine.proofs.Turning.{ticking_one, no_tick}
use Rattle.lua_machine.proofs.InSlots.{filled_long, slots_filled}
use Rattle.lua_machine.proofs.Begun.{site_cells}
use Rattle.lua_machine.proofs.Entered.{has_function}

-- ---- what is called

pub no_function_of : (v : Value) → ((id : ℕ) → v ≡ Func id → ⊥) → ((f : native.Native) → v ≡ Native f → ⊥) → IsNoFunction v
no_function_of (Func id) a b = a id refl
no_function_of (Native f) a b = b f refl
no_function_of v a b = tt

by_handler : (m : EngineView) (v : Value) → IsNoFunction v → (args : List meant.Value) → called_at m v args ≡ with_args (callee_of (map (made_view m.chunks) m.heap.functions) (handler (store_of m.heap) (value_view m.heap.texts v) (codes "__call"))) (value_view m.heap.texts v ∷ args)
by_handler m (Func id) p args = absurd p
by_handler m (Native f) p args = absurd p
by_handler m v p args = refl

made_in : (f : Function → Made) (xs : List Function) (n : ℕ) → n < length xs → slice_get (map f xs) n ≡ Some (f (unwrap_or (slice_get xs n) no_function))
made_in f [] n lt = absurd (let e : ⊥ = omega (arith, lt) in e)
made_in f (x ∷ xs) zero lt = refl
made_in f (x ∷ xs) (suc n) lt = made_in f xs n (omega (arith, lt))

callee_is : (m : EngineView) (id : ℕ) → id < length m.heap.functions → callee_of (map (made_view m.chunks) m.heap.functions) (meant.func id) ≡ Some (callee_at m id)
callee_is m id lt = ap callee_of_made (made_in (made_view m.chunks) m.heap.functions id lt)
  where
    callee_of_made : Option Made → Option Callee
    callee_of_made None = None
    callee_of_made (Some made) = Some (runs made.code made.cells)

pub runs_function : (m : EngineView) (id : ℕ) → HasFunction m id → IsCallee (Runs id) (Func id) m
runs_function m id f = (f, λ args. ap (λ (o : Option Callee). with_args o args) (callee_is m id f.made))

module _ (m : EngineView) (v h : Value) (other : IsNoFunction v) (is : value_view m.heap.texts h ≡ handler (store_of m.heap) (value_view m.heap.texts v) (codes "__call")) where
  abbrev made : List Made
  made = map (made_view m.chunks) m.heap.functions

  handled : (args : List meant.Value) → called_at m v args ≡ with_args (callee_of made (value_view m.heap.texts h)) (value_view m.heap.texts v ∷ args)
  handled args = by_handler m v other args ∙ ap (λ (w : meant.Value). with_args (callee_of made w) (value_view m.heap.texts v ∷ args)) (sym is)

  pub handles_function : (id : ℕ) → h ≡ Func id → HasFunction m id → IsCallee (Handles id) v m
  handles_function id e f = (
    f,
    λ args.
        handled args
        ∙ ap (λ (w : Value). with_args (callee_of made (value_view m.heap.texts w)) (value_view m.heap.texts v ∷ args)) e
        ∙ ap (λ (o : Option Callee). with_args o (value_view m.heap.texts v ∷ args)) (callee_is m id f.made),
  )

  pub handles_library : (f : native.Native) → h ≡ Native f → IsCallee (HandlesLibrary f) v m
  handles_library f e = λ args. handled args ∙ ap (λ (w : Value). with_args (callee_of made (value_view m.heap.texts w)) (value_view m.heap.texts v ∷ args)) e

  nothing : (w : Value) → IsNoFunction w → callee_of made (value_view m.heap.texts w) ≡ None
  nothing (Func id) p = absurd p
  nothing (Native f) p = absurd p
  nothing w p = refl

  pub handles_nothing : IsNoFunction h → IsCallee Nothing v m
  handles_nothing p = λ args. handled args ∙ ap (λ (o : Option Callee). with_args o (value_view m.heap.texts v ∷ args)) (nothing h p)

-- by what a value is
pub runs_value : (m : EngineView) (v : Value) (id : ℕ) → v ≡ Func id → AreFit m → IsMade m.heap v → IsCallee (Runs id) v m
runs_value m v id e r known =
    subst (λ (w : Value). IsCallee (Runs id) w m) (sym e) (runs_function m id (has_function m id r (subst (IsMade m.heap) e known)))

pub library_value : (m : EngineView) (v : Value) (f : native.Native) → v ≡ Native f → IsCallee (Library f) v m
library_value m v f e = λ args. ap (λ (w : Value). called_at m w args) e

pub handles_value : (m : EngineView) (v h : Value) (id : ℕ) → IsNoFunction v → value_view m.heap.texts h ≡ handler (store_of m.heap) (value_view m.heap.texts v) (codes "__call") → h ≡ Func id → AreFit m → IsMade m.heap h → IsCallee (Handles id) v m
handles_value m v h id p is e r known = handles_function m v h p is id e (has_function m id r (subst (IsMade m.heap) e known))

-- ---- the instructions

rest_given : (m : EngineView) (past : Past) (tailed : Bool) → act.rest (run_of m) (frames_of m) (registers_of m) (state_of past m) tailed ≡ map (value_view m.heap.texts) (behind_of (behind_where tailed) m)
rest_given m past true = refl
rest_given m past false = refl

-- a call that the running function makes
abbrev makes : EngineView → Past → Wants → (at first : ℕ) → List meant.Value → (cells : ℕ) → Step
makes m past wants at first args cells =
    calling (slots_view m.heap.texts m.values (m.base + at)) args (calling_frames wants m) first cells (registers_of m) (state_of past m)

invoke_step : (m : EngineView) (wants : Wants) (at count : ℕ) (tailed : Bool) (past : Past) → step_of (i.invoke (site_at m.proto m.pc) (wants_view wants) at count tailed) past m ≡ calling_step wants (value_at m.values (m.base + at)) (m.base + at + 1) (args_at m (m.base + at + 1) count (behind_where tailed)) past m
invoke_step m wants at count tailed past =
    ap (λ n. makes m past wants at (m.base + at + 1) (row (slots_view m.heap.texts m.values) n count ++ act.rest (run_of m) (frames_of m) (registers_of m) (state_of past m) tailed) (m.cell_base + (site_at m.proto m.pc).cells)) (let e : m.base + (at + 1) ≡ m.base + at + 1 = omega arith in e)
    ∙ ap (λ (vs : List meant.Value). makes m past wants at (m.base + at + 1) (row (slots_view m.heap.texts m.values) (m.base + at + 1) count ++ vs) (m.cell_base + (site_at m.proto m.pc).cells)) (rest_given m past tailed)
    ∙ ap (λ n. makes m past wants at (m.base + at + 1) (args_at m (m.base + at + 1) count (behind_where tailed)) (m.cell_base + n)) (sym (site_cells (slice_get m.proto.sites m.pc)))

module _ {E : Type 0} (m new : EngineView) (at count : ℕ) (tailed : Bool) (o : Result Status E) where
  takes_slot : (to : ℕ) (o : Result Status E) → IfOk o (λ status. CallsAs (ToSlot to) (value_at m.values (m.base + at)) (m.base + at + 1) count (behind_where tailed) status m new) → IfOk o (λ status. Takes (Invoke to at count tailed) status m new)
  takes_slot to (Ok status) c = record { step = λ past. invoke_step m (ToSlot to) at count tailed past ∙ c.step past; kept = c.kept }
  takes_slot to (Err e) c = c

  takes_tail : (o : Result Status E) → IfOk o (λ status. CallsAs ToTail (value_at m.values (m.base + at)) (m.base + at + 1) count (behind_where tailed) status m new) → IfOk o (λ status. Takes (InvokeAll at count tailed) status m new)
  takes_tail (Ok status) c = record { step = λ past. invoke_step m ToTail at count tailed past ∙ c.step past; kept = c.kept }
  takes_tail (Err e) c = c

  module _ (v : Value) (first : ℕ) (behind : Behind) (is_value : v ≡ value_at m.values (m.base + at)) (is_first : first ≡ m.base + at + 1) (is_behind : behind ≡ behind_where tailed) where
    same_call : (wants : Wants) → IfOk o (λ status. CallsAs wants v first count behind status m new) → IfOk o (λ status. CallsAs wants (value_at m.values (m.base + at)) (m.base + at + 1) count (behind_where tailed) status m new)
    same_call wants c =
        subst (λ (w : Value). IfOk o (λ status. CallsAs wants w (m.base + at + 1) count (behind_where tailed) status m new)) is_value
        (subst (λ (n : ℕ). IfOk o (λ status. CallsAs wants v n count (behind_where tailed) status m new)) is_first
        (subst (λ (b : Behind). IfOk o (λ status. CallsAs wants v first count b status m new)) is_behind c))

    pub takes_invoke : (to : ℕ) → IfOk o (λ status. CallsAs (ToSlot to) v first count behind status m new) → IfOk o (λ status. Takes (Invoke to at count tailed) status m new)
    takes_invoke to c = takes_slot to o (same_call (ToSlot to) c)

    pub takes_invoke_all : IfOk o (λ status. CallsAs ToTail v first count behind status m new) → IfOk o (λ status. Takes (InvokeAll at count tailed) status m new)
    takes_invoke_all c = takes_tail o (same_call ToTail c)

pub can_invoke : (m : EngineView) (to at count first : ℕ) (tailed : Bool) → first ≡ m.base + at + 1 → IsReadyFor (Invoke to at count tailed) m → CanCall (ToSlot to) first count m
can_invoke m to at count first tailed e r =
    let slots = r.slots in
    record { ready = r.ready; short = r.short; leads = r.leads; fits = omega (arith, slots); slots = omega (arith, slots, e) }

pub can_invoke_all : (m : EngineView) (at count first : ℕ) (tailed : Bool) → first ≡ m.base + at + 1 → IsReadyFor (InvokeAll at count tailed) m → CanCall ToTail first count m
can_invoke_all m at count first tailed e r =
    let slots = r.slots in
    record { ready = r.ready; short = r.short; leads = r.leads; fits = tt; slots = omega (arith, slots, e) }

-- ---- values of the tail

pub takes_spread : (m : EngineView) (from count : ℕ) (tailed : Bool) (behind : Behind) → IsReadyFor (Spread from count tailed) m → behind ≡ behind_where tailed → Takes (Spread from count tailed) Goes m (record m { values = filled m.values (m.base + from) count (behind_of behind m); pc = m.pc + 1 })
takes_spread m from count tailed behind r is =
    let slots : m.base + (from + count) ≤ length m.values = r.slots in
    let long = filled_long m.values (m.base + from) count (behind_of behind m) in
    record {
      step = λ past.
          ap (λ (vs : List meant.Value). spreads past (put_values (slots_view m.heap.texts m.values) (m.base + from) count vs)) (rest_given m past tailed)
          ∙ ap (λ (b : Behind). spreads past (put_values (slots_view m.heap.texts m.values) (m.base + from) count (map (value_view m.heap.texts) (behind_of b m)))) (sym is)
          ∙ ap (λ (s : ℕ → meant.Value). spreads past s) (sym (slots_filled m.heap.texts m.values (m.base + from) count (behind_of behind m) (omega (arith, slots))));
      kept = goes_on m (record m { values = filled m.values (m.base + from) count (behind_of behind m); pc = m.pc + 1 }) (cells_at m.proto m.pc) r.ready r.ready.fit.chunks (stays_at m (filled m.values (m.base + from) count (behind_of behind m)) (m.pc + 1) m.ticks (omega (arith, long))) r.cells r.leads;
    }
  where
    spreads : Past → (ℕ → meant.Value) → Step
    spreads past s = on (record { active = (config_of past (at_pc m (m.pc + 1))).active; frames = frames_of m; registers = record { slots = s; cells = (registers_of m).cells; tail = (registers_of m).tail }; state = state_of past m })

-- ---- generic loops

not_nil : (texts : List Bytes) (v : Value) → (v ≡ Nil → ⊥) → is_nil (value_view texts v) ≡ false
not_nil texts Nil other = absurd (other refl)
not_nil texts v other = refl

module _ (m : EngineView) (at count : ℕ) (r : IsReadyFor (EachNext at count) m) where
  abbrev each_as : (v : Value) (past : Past) → Step
  each_as v past = act.each (run_of m) (frames_of m) (registers_of m) (state_of past m) at count (value_view m.heap.texts v)

  each_step : (v : Value) → v ≡ value_at m.values (m.base + (at + 3)) → (past : Past) → step_at (EachNext at count) past m ≡ each_as v past
  each_step v is past = ap (λ (w : Value). each_as w past) (sym is)

  pub each_ends : (v : Value) → v ≡ value_at m.values (m.base + (at + 3)) → v ≡ Nil → Takes (EachNext at count) Goes m (record m { pc = m.pc + 1; ticks = m.ticks })
  each_ends v is none = takes_jump (EachNext at count) m r (m.pc + 1) m.ticks r.leads.0 (λ past. each_step v is past ∙ ap (λ (w : Value). each_as w past) none)

  abbrev turn : (v : Value) → Past → Bool → Step
  turn v past b = if b then on (config_of past (at_pc m (m.pc + 1))) else ticking m.ticks (state_of past m) (λ st. act.going (run_of m) (frames_of m) (registers_of m) (state_of past m) (m.pc - count) (put_slot (registers_of m) (m.base + at + 2) (value_view m.heap.texts v)) st)

  pub each_waits : (v : Value) → v ≡ value_at m.values (m.base + (at + 3)) → (v ≡ Nil → ⊥) → m.ticks ≡ 0 → Takes (EachNext at count) NoTick m m
  each_waits v is some none = record { step = λ past. each_step v is past ∙ ap (turn v past) (not_nil m.heap.texts v some) ∙ no_tick m.ticks (state_of past m) _ none; kept = tt }

  pub each_goes : (v : Value) → v ≡ value_at m.values (m.base + (at + 3)) → (v ≡ Nil → ⊥) → 0 < m.ticks → Takes (EachNext at count) Goes m (record m { values = set m.values (m.base + at + 2) v; pc = m.pc - count; ticks = m.ticks - 1 })
  each_goes v is some left =
      let slots : m.base + (at + 4) ≤ length m.values = r.slots in
      takes_turned (EachNext at count) m r (record m { values = set m.values (m.base + at + 2) v; pc = m.pc - count; ticks = m.ticks - 1 }) (m.pc - count) (m.pc + 1)
      (record { values = set m.values (m.base + at + 2) v; pc = m.pc - count; ticks = m.ticks - 1; is = refl; long = length_set m.values (m.base + at + 2) v; place = inl refl })
      r.leads.2 r.leads.0
      (λ past.
      each_step v is past
      ∙ ap (turn v past) (not_nil m.heap.texts v some)
      ∙ ticking_one m.ticks (state_of past m) _ left
      ∙ ap (λ (s : ℕ → meant.Value). on (record { active = (config_of past (at_pc m (m.pc - count))).active; frames = frames_of m; registers = record { slots = s; cells = (registers_of m).cells; tail = (registers_of m).tail }; state = state_of past (record m { ticks = m.ticks - 1 }) })) (slots_set m.heap.texts m.values (m.base + at + 2) v (omega (arith, slots))))
