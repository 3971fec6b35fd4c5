-- Calls that functions of the library make.
use Rattle.std.proofs.Common.{◌≡◌, ℕ, zero, suc, ◌+◌, ◌-◌, ◌<◌, ◌≤◌, List, [], ◌∷◌, ◌++◌, length, Bool, true, false, refl, sym, ap, ◌∙◌, subst, Option, Some, None, arith}
use Rattle.std.specs.Prelude.{map, nat_lt, if◌then◌else◌, codes, Result, Ok, Err, IfOk}
use Rattle.std.proofs.lemmas.Bool.{lt-ltb, le-ltb}
use Rattle.std.proofs.lemmas.List.{length-append}
use Rattle.lua_meaning.specs.Value as meant
use Rattle.lua_meaning.specs.Fault.{placed, call_text}
use Rattle.lua_meaning.specs.Calls.{caller}
use Rattle.lua_heap.specs.declared.value.Value.{Value}
use Rattle.lua_heap.specs.declared.native.Native.{Native}
use Rattle.lua_heap.specs.Native.{native_view}
use Rattle.lua_heap.specs.Value.{value_view}
use Rattle.lua_heap.specs.Heap.{function_at}
use Rattle.lua_code.specs.State as s
use Rattle.lua_code.specs.State.{Config, Step, on}
use Rattle.lua_code.specs.Frames.{Callee, built_in, has_room, places, raised, begun, entering_called}
use Rattle.lua_machine.specs.Past.{Past}
use Rattle.lua_machine.specs.declared.arguments.Behind.TheVariants.{Args}
use Rattle.lua_machine.specs.declared.frame.Duty.{Duty}
use Rattle.lua_machine.specs.declared.frame.Frame.{Frame}
use Rattle.lua_machine.specs.declared.invoke.Callee.TheVariants.{Runs, Handles, Library, HandlesLibrary, Nothing}
use Rattle.lua_machine.specs.declared.status.Status.{Status}
use Rattle.lua_machine.specs.declared.status.Status.TheVariants as status
use Rattle.lua_machine.specs.declared.status.Status.TheVariants.{Goes, NoTick, Gives, Raises, Prints, Asks, Ends, Fails}
use Rattle.lua_machine.specs.View.{EngineView, frames_of, registers_of, state_of}
use Rattle.lua_machine.specs.Made.{IsEngine}
use Rattle.lua_machine.specs.Ready.{IsWaiting, IsServing}
use Rattle.lua_machine.specs.Does.{Came}
use Rattle.lua_machine.specs.Serving.{IsRefusal}
use Rattle.lua_machine.specs.Callees.{callee_at, called_at}
use Rattle.lua_machine.specs.Calling.{IsCallee}
use Rattle.lua_machine.specs.Entering.{HasFunction, CanBegin, HasBegun, serving_frame, pushed_duty}
use Rattle.lua_machine.specs.Back.{args_of, back_frames, a_tick_less, TakesCall, FewFrames, starting_step, Starts, back_step, CallsBack}
use Rattle.lua_machine.proofs.Turning.{ticking_one, no_tick}
use Rattle.lua_machine.proofs.Called.{frames_long, each_came}
use Rattle.lua_machine.proofs.Begun.{begun_config, begun_ready}
use Rattle.lua_machine.proofs.Waiting.{pushed_duty_frames}
use Rattle.lua_machine.proofs.Loads.{all_last}

-- ---- the limit on active calls

room_in : (frames : List s.Frame) → length frames ≤ 4096 → has_room frames ≡ true
room_in [] le = refl
room_in (f ∷ frames) le = lt-ltb (length frames) 4096 le

no_room_in : (frames : List s.Frame) → 4096 < length frames → has_room frames ≡ false
no_room_in [] lt = absurd (let e : ⊥ = omega (arith, lt) in e)
no_room_in (f ∷ frames) lt = le-ltb (length frames) 4096 (omega (arith, lt))

-- ---- a call takes its tick

module _ (m : EngineView) (f : Callee) where
  abbrev overflow : Past → EngineView → Step
  overflow past n = raised (frames_of n) (registers_of n) (meant.str (placed (caller (places (frames_of n))) (codes "stack overflow"))) (state_of past n)

  abbrev begins : Past → Step
  begins past = on (begun f (args_of m) (frames_of m) m.base m.cell_base (registers_of m) (state_of past (a_tick_less m)))

  ticked : (b : Bool) → 0 < m.ticks → has_room (frames_of m) ≡ b → (past : Past) → starting_step f past m ≡ (if b then begins past else overflow past (a_tick_less m))
  ticked b lt room past =
      ticking_one m.ticks (state_of past m) _ lt
      ∙ ap (λ (c : Bool). if c then begins past else overflow past (a_tick_less m)) room

  pub begins_so : 0 < m.ticks → length m.frames ≤ 4096 → (past : Past) → starting_step f past m ≡ begins past
  begins_so lt few past = let long = frames_long m in ticked true lt (room_in (frames_of m) (omega (arith, few, long))) past

  -- it doesn't begin
  pub starts_not : (o : Status) (new : EngineView) → TakesCall (Some o) m new → Starts f o m new
  starts_not NoTick new t = record { came = record { step = λ past. no_tick m.ticks (state_of past m) _ t.0 ∙ ap (λ (y : EngineView). s.stop (s.no_ticks (state_of past y))) (sym t.1); kept = tt }; few = tt }
  starts_not (Raises v) new t =
      let long = frames_long m in
      let deep = t.1 in
      let text = t.2 in
      record {
        came = record {
          step = λ past.
              ticked false t.0 (no_room_in (frames_of m) (omega (arith, deep, long))) past
              ∙ ap (λ (w : meant.Value). raised (frames_of m) (registers_of m) w (state_of past (a_tick_less m))) (sym text.value_is)
              ∙ ap (λ (c : Config). raised c.frames c.registers (value_view new.heap.texts v) c.state) (sym (text.same past));
          kept = (text.made, text.fit);
        };
        few =
            let same = ap (λ (c : Config). length c.frames) (text.same (record { asks = []; output = []; ends = [] })) in
            let long_new = frames_long new in
            omega (arith, same, long_new, long);
      }
  starts_not Goes new t = absurd t
  starts_not (status.Serves g) new t = absurd t
  starts_not Gives new t = absurd t
  starts_not (Prints line) new t = absurd t
  starts_not (Asks question errand) new t = absurd t
  starts_not Ends new t = absurd t
  starts_not (Fails v) new t = absurd t

  pub starts_some : (o : Option Status) (came : Status) (new : EngineView) → o ≡ Some came → TakesCall o m new → Starts f came m new
  starts_some o came new is t = starts_not came new (subst (λ (p : Option Status). TakesCall p m new) is t)

pub takes_none : (m mid : EngineView) (o : Option Status) → ((s : Status) → o ≡ Some s → ⊥) → TakesCall o m mid → TakesCall None m mid
takes_none m mid None other t = t
takes_none m mid (Some s) other t = absurd (other s refl)

module _ (m mid : EngineView) (r : IsServing m) (t : TakesCall None m mid) where
  less_serving : IsServing (a_tick_less m)
  less_serving = record { fit = record { frames = r.fit.frames; functions = r.fit.functions; chunks = r.fit.chunks }; slots = r.slots; cells = r.cells }

  -- one of the library
  pub starts_native : (f : Native) → Starts (built_in (native_view f)) (status.Serves f) m mid
  starts_native f =
      subst (Starts (built_in (native_view f)) (status.Serves f) m) (sym t.2)
      (record {
        came = record { step = begins_so m (built_in (native_view f)) t.0 t.1; kept = less_serving };
        few = tt;
      })

  -- one of Lua
  pub can_start : m.extra_base ≡ length m.extras → CanBegin mid.base mid.cell_base 0 mid
  can_start top =
      let slots = r.slots in
      subst (λ (y : EngineView). CanBegin y.base y.cell_base 0 y) (sym t.2)
      (record { fit = less_serving.fit; top = top; slots = omega (arith, slots); cells = r.cells })

  pub has_less : (id : ℕ) → HasFunction m id → HasFunction mid id
  has_less id f = subst (λ (y : EngineView). HasFunction y id) (sym t.2) (record { made = f.made; code = f.code })

  pub starts_function : (id : ℕ) (new : EngineView) → HasFunction m id → m.extra_base ≡ length m.extras → IsEngine mid → HasBegun (function_at mid.heap id) mid.base mid.cell_base 0 Args mid new → Starts (callee_at m id) Goes m new
  starts_function id new f top is e =
      let can = can_start top in
      let has = has_less id f in
      record {
        came = record {
          step = λ past.
              begins_so m (callee_at m id) t.0 t.1 past
              ∙ ap (λ (y : EngineView). on (begun (callee_at y id) (args_of y) (frames_of y) y.base y.cell_base (registers_of y) (state_of past y))) (sym t.2)
              ∙ ap on (sym (begun_config mid (function_at mid.heap id) mid.base mid.cell_base 0 Args can has.code is new e past));
          kept = begun_ready mid (function_at mid.heap id) mid.base mid.cell_base 0 Args can has.code is new e;
        };
        few = tt;
      }

-- ---- a value is called back

-- the frame of the function of the library is on top
module _ (m mid : EngineView) (duty : Duty) (v : Value) (pushed : mid ≡ pushed_duty m duty) where
  called_as : (o : Option (Callee × List meant.Value)) → called_at mid v (args_of mid) ≡ o → (past : Past) → back_step duty v past m ≡ entering_called (raised (frames_of mid) (registers_of mid)) (value_view mid.heap.texts v) o (frames_of mid) mid.base mid.cell_base (registers_of mid) (state_of past mid)
  called_as o e past =
      ap (λ (fs : List s.Frame). stepping fs (pushed_duty m duty)) (sym (pushed_duty_frames m duty))
      ∙ ap (λ (y : EngineView). stepping (frames_of y) y) (sym pushed)
      ∙ ap (λ (c : Option (Callee × List meant.Value)). entering_called (raised (frames_of mid) (registers_of mid)) (value_view mid.heap.texts v) c (frames_of mid) mid.base mid.cell_base (registers_of mid) (state_of past mid)) e
    where
      stepping : List s.Frame → EngineView → Step
      stepping fs y = entering_called (raised fs (registers_of y)) (value_view y.heap.texts v) (called_at y v (args_of y)) fs y.base y.cell_base (registers_of y) (state_of past y)

  few_back : (o : Status) (new : EngineView) → FewFrames o (length mid.frames - 1) new → FewFrames o (length m.frames) new
  few_back o new few =
      let one = length-append m.frames (serving_frame duty m ∷ []) in
      subst (λ (n : ℕ). FewFrames o n new)
      (ap (λ (y : EngineView). length y.frames - 1) pushed ∙ (let e : length (m.frames ++ serving_frame duty m ∷ []) - 1 ≡ length m.frames = omega (arith, one) in e)) few

  -- it is called on its arguments, or on itself and them
  pub calls_back : (f : Callee) (args : List Value) (o : Status) (new : EngineView) → called_at mid v (args_of mid) ≡ Some (f, map (value_view mid.heap.texts) args) → Starts f o (record mid { args = args }) new → CallsBack duty v o m new
  calls_back f args o new is done =
      record {
        came = record { step = λ past. called_as (Some (f, map (value_view mid.heap.texts) args)) is past ∙ done.came.step past; kept = done.came.kept };
        few = few_back o new done.few;
      }

  pub calls_nothing : (error : Value) (new : EngineView) → IsCallee Nothing v mid → IsRefusal (call_text (value_view mid.heap.texts v)) error mid new → CallsBack duty v (Raises error) m new
  calls_nothing error new is text =
      record {
        came = record {
          step = λ past.
              called_as None (is (args_of mid)) past
              ∙ ap (λ (w : meant.Value). raised (frames_of mid) (registers_of mid) w (state_of past mid)) (sym text.value_is)
              ∙ ap (λ (c : Config). raised c.frames c.registers (value_view new.heap.texts error) c.state) (sym (text.same past));
          kept = (text.made, text.fit);
        };
        few =
            let same = ap (λ (c : Config). length c.frames) (text.same (record { asks = []; output = []; ends = [] })) in
            let long_new = frames_long new in
            let long = frames_long mid in
            let grown = ap (λ (y : EngineView). length y.frames) pushed in
            let one = length-append m.frames (serving_frame duty m ∷ []) in
            omega (arith, same, long_new, long, grown, one);
      }

pub pushed_serving : (m : EngineView) (duty : Duty) → IsServing m → IsServing (pushed_duty m duty)
pushed_serving m duty r =
    record {
      fit = record {
        frames = all_last (IsWaiting m.chunks (length m.values) (length m.cells)) m.frames (serving_frame duty m) r.fit.frames (r.slots, r.cells);
        functions = r.fit.functions;
        chunks = r.fit.chunks;
      };
      slots = r.slots;
      cells = r.cells;
    }

-- by what the value is
module _ {E : Type 0} (m mid new : EngineView) (duty : Duty) (v : Value) (pushed : mid ≡ pushed_duty m duty) (o : Result Status E) where
  each_back : (f : Callee) (args : List Value) → called_at mid v (args_of mid) ≡ Some (f, map (value_view mid.heap.texts) args) → IfOk o (λ came. Starts f came (record mid { args = args }) new) → IfOk o (λ came. CallsBack duty v came m new)
  each_back f args is done = each_came o (λ came. Starts f came (record mid { args = args }) new) (λ came. CallsBack duty v came m new) (λ came s. calls_back m mid duty v pushed f args came new is s) done

  pub back_runs : (id : ℕ) → IsCallee (Runs id) v mid → IfOk o (λ came. Starts (callee_at mid id) came mid new) → IfOk o (λ came. CallsBack duty v came m new)
  back_runs id is done = each_back (callee_at mid id) mid.args (is.1 (args_of mid)) done

  pub back_handles : (id : ℕ) (e : EngineView) → e ≡ record mid { args = v ∷ mid.args } → IsCallee (Handles id) v mid → IfOk o (λ came. Starts (callee_at e id) came e new) → IfOk o (λ came. CallsBack duty v came m new)
  back_handles id e put is done = each_back (callee_at mid id) (v ∷ mid.args) (is.1 (args_of mid)) (subst (λ (y : EngineView). IfOk o (λ came. Starts (callee_at y id) came y new)) put done)

  pub back_library : (f : Native) → IsCallee (Library f) v mid → IfOk o (λ came. Starts (built_in (native_view f)) came mid new) → IfOk o (λ came. CallsBack duty v came m new)
  back_library f is done = each_back (built_in (native_view f)) mid.args (is (args_of mid)) done

  pub back_handles_library : (f : Native) (e : EngineView) → e ≡ record mid { args = v ∷ mid.args } → IsCallee (HandlesLibrary f) v mid → IfOk o (λ came. Starts (built_in (native_view f)) came e new) → IfOk o (λ came. CallsBack duty v came m new)
  back_handles_library f e put is done = each_back (built_in (native_view f)) (v ∷ mid.args) (is (args_of mid)) (subst (λ (y : EngineView). IfOk o (λ came. Starts (built_in (native_view f)) came y new)) put done)

-- a value comes before the arguments
pub put_first : (e m : EngineView) → e ≡ m → (v : Value) (vs : List Value) → vs ≡ v ∷ e.args → record e { args = vs } ≡ record m { args = v ∷ m.args }
put_first e m seen v vs is = ap (λ (ws : List Value). record e { args = ws }) is ∙ ap (λ (y : EngineView). record y { args = v ∷ y.args }) seen
