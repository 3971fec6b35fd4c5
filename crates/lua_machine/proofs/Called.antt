-- What calls come to.
use Rattle.std.proofs.Common.{◌≡◌, ℕ, suc, ◌-◌, ◌<◌, ◌≤◌, List, [], ◌∷◌, ◌++◌, length, Bool, true, false, refl, sym, ap, ◌∙◌, Option, Some, None, arith}
use Rattle.std.specs.Prelude.{map, reverse, nat_lt, if◌then◌else◌, codes, Result, Ok, Err, IfOk}
use Rattle.std.proofs.lemmas.Bool.{lt-ltb, le-ltb}
use Rattle.std.proofs.lemmas.List.{length-append, reverse-append}
use Rattle.lua_tree.specs.Tree.{Bytes}
use Rattle.lua_meaning.specs.Value as meant
use Rattle.lua_machine.specs.Past.{Past}
use Rattle.lua_meaning.specs.Fault.{placed, call_text}
use Rattle.lua_heap.specs.declared.value.Value.{Value}
use Rattle.lua_heap.specs.declared.native.Native.{Native}
use Rattle.lua_heap.specs.Native.{native_view}
use Rattle.lua_heap.specs.Value.{value_view}
use Rattle.lua_heap.specs.Heap.{function_at}
use Rattle.lua_code.specs.State as s
use Rattle.lua_code.specs.State.{Config, Step, on}
use Rattle.lua_code.specs.Frames.{Callee, built_in, has_room, raised, begun, entering_called}
use Rattle.lua_code.specs.Act.{at_line}
use Rattle.lua_machine.specs.declared.arguments.Behind.{Behind}
use Rattle.lua_machine.specs.declared.arguments.Behind.TheVariants.{Args}
use Rattle.lua_machine.specs.declared.invoke.Callee.TheVariants.{Nothing}
use Rattle.lua_machine.specs.declared.frame.Wants.{Wants}
use Rattle.lua_machine.specs.declared.frame.Frame.{Frame}
use Rattle.lua_machine.specs.declared.chunk.Chunk.{Chunk}
use Rattle.lua_machine.specs.Frames.{pushed}
use Rattle.lua_machine.specs.declared.status.Status.{Status}
use Rattle.lua_machine.specs.declared.status.Status.TheVariants.{Goes, NoTick, Serves, Raises}
use Rattle.lua_machine.specs.View.{EngineView, frames_below, frames_of, registers_of, run_of, state_of}
use Rattle.lua_machine.specs.Made.{IsEngine}
use Rattle.lua_machine.specs.Does.{site_at, Came}
use Rattle.lua_machine.specs.Errors.{Raised}
use Rattle.lua_machine.specs.Arguments.{given, args_at}
use Rattle.lua_machine.specs.Callees.{callee_at, called_at}
use Rattle.lua_machine.specs.Entering.{HasFunction, CanCall, free_cells, called, HasBegun}
use Rattle.lua_machine.specs.Calling.{IsCallee, calling_frames, entering_step, EntersAs, calling_step, CallsAs}
use Rattle.lua_machine.proofs.Turning.{ticking_one, no_tick}
use Rattle.lua_machine.proofs.Begun.{calling_is, can_begin, begun_config, begun_ready, called_config, called_serving}
use Rattle.lua_machine.proofs.Waiting.{pushed_is}
use Rattle.lua_machine.proofs.Entered.{given_view}

-- ---- a step as another one

pub came_as : (does does_so : Past → Step) (status : Status) (new : EngineView) → ((past : Past) → does_so past ≡ does past) → Came does status new → Came does_so status new
came_as does does_so status new same c = record { step = λ past. same past ∙ c.step past; kept = c.kept }

-- an error of the running function at its place
pub came_raised : (does : Past → Step) (m new : EngineView) (text : Bytes) (v : Value) → Raised text v m new → ((past : Past) → does past ≡ raised (frames_of m) (registers_of m) (meant.str (placed (at_line (run_of m) (site_at m.proto m.pc)) text)) (state_of past m)) → Came does (Raises v) new
came_raised does m new text v s is =
    record {
      step = λ past.
          is past
          ∙ ap (λ (w : meant.Value). raised (frames_of m) (registers_of m) w (state_of past m)) (sym s.text_is)
          ∙ ap (λ (c : Config). raised c.frames c.registers (value_view new.heap.texts v) c.state) (sym (s.same past));
      kept = (s.made, s.fit);
    }

-- ---- the limit on active calls

below_long : (texts : List Bytes) (chunks : List Chunk) (extras : List Value) (top : ℕ) (fs : List Frame) → length (frames_below texts chunks extras top fs) ≡ length fs
below_long texts chunks extras top [] = refl
below_long texts chunks extras top (f ∷ fs) = ap suc (below_long texts chunks extras f.extra_base fs)

reverse_long : (fs : List Frame) → length (reverse fs) ≡ length fs
reverse_long [] = refl
reverse_long (f ∷ fs) =
    let e = reverse_long fs in
    let l = length-append (reverse fs) (f ∷ []) in
    ap (λ (gs : List Frame). length gs) (reverse-append (f ∷ []) fs) ∙ (let z : length (reverse fs ++ f ∷ []) ≡ suc (length fs) = omega (arith, e, l) in z)

pub frames_long : (m : EngineView) → length (frames_of m) ≡ length m.frames
frames_long m = below_long m.heap.texts m.chunks m.extras m.extra_base (reverse m.frames) ∙ reverse_long m.frames

room_for : (m : EngineView) (wants : Wants) → has_room (calling_frames wants m) ≡ nat_lt (length m.frames) 4096
room_for m wants = ap (λ n. nat_lt n 4096) (frames_long m)

pub has_room_for : (m : EngineView) (wants : Wants) → length m.frames < 4096 → has_room (calling_frames wants m) ≡ true
has_room_for m wants lt = room_for m wants ∙ lt-ltb (length m.frames) 4096 lt

pub has_no_room : (m : EngineView) (wants : Wants) → 4096 ≤ length m.frames → has_room (calling_frames wants m) ≡ false
has_no_room m wants le = room_for m wants ∙ le-ltb (length m.frames) 4096 le

-- ---- a call of a function

abbrev a_tick_less : EngineView → EngineView
a_tick_less m = record m { ticks = m.ticks - 1 }

module _ (m : EngineView) (wants : Wants) (f : Callee) (first : ℕ) (args : List meant.Value) where
  -- where there is a tick
  ticked : (b : Bool) → 0 < m.ticks → has_room (calling_frames wants m) ≡ b → (past : Past) → entering_step wants f first args past m ≡ (if b then on (begun f args (calling_frames wants m) first (free_cells m) (registers_of m) (state_of past (a_tick_less m))) else raised (frames_of m) (registers_of m) (meant.str (placed (at_line (run_of m) (site_at m.proto m.pc)) (codes "stack overflow"))) (state_of past (a_tick_less m)))
  ticked b lt room past =
      ticking_one m.ticks (state_of past m) _ lt
      ∙ ap (λ (c : Bool). if c then on (begun f args (calling_frames wants m) first (free_cells m) (registers_of m) (state_of past (a_tick_less m))) else raised (frames_of m) (registers_of m) (meant.str (placed (at_line (run_of m) (site_at m.proto m.pc)) (codes "stack overflow"))) (state_of past (a_tick_less m))) room

module _ (m : EngineView) (wants : Wants) (f : Callee) (first count : ℕ) (behind : Behind) where
  -- no tick is left
  pub enters_not : m.ticks ≡ 0 → EntersAs wants f first count behind NoTick m m
  enters_not none = record { step = λ past. no_tick m.ticks (state_of past m) _ none; kept = tt }

  -- too many calls are active
  pub enters_too_deep : (new : EngineView) (v : Value) → 0 < m.ticks → 4096 ≤ length m.frames → Raised (codes "stack overflow") v (a_tick_less m) new → EntersAs wants f first count behind (Raises v) m new
  enters_too_deep new v lt deep s =
      came_raised _ (a_tick_less m) new (codes "stack overflow") v s (ticked m wants f first (args_at m first count behind) false lt (has_no_room m wants deep))

module _ (m : EngineView) (wants : Wants) (first count : ℕ) (behind : Behind) (is : IsEngine m) (r : CanCall wants first count m) where
  engine_less : IsEngine (a_tick_less m)
  engine_less = record { events = is.events; extra = is.extra; below = is.below; values = is.values; tail = is.tail; extras = is.extras; args = is.args; cells = is.cells; chunks = is.chunks; modules = is.modules }

  can_less : CanCall wants first count (a_tick_less m)
  can_less = record { ready = record { placed = r.ready.placed; proto = r.ready.proto; fit = record { frames = r.ready.fit.frames; functions = r.ready.fit.functions; chunks = r.ready.fit.chunks } }; short = r.short; leads = r.leads; fits = r.fits; slots = r.slots }

  pub enters : (id : ℕ) (new : EngineView) → HasFunction m id → 0 < m.ticks → length m.frames < 4096 → HasBegun (function_at m.heap id) first (free_cells m) count behind (pushed (a_tick_less m) wants) new → EntersAs wants (callee_at m id) first count behind Goes m new
  enters id new f lt room e =
      let is_pushed = pushed_is (a_tick_less m) wants engine_less in
      let can = can_begin (a_tick_less m) wants first count can_less in
      record {
        step = λ past.
            ticked m wants (callee_at m id) first (args_at m first count behind) true lt (has_room_for m wants room) past
            ∙ ap (λ (fs : List s.Frame). on (begun (callee_at m id) (args_at m first count behind) fs first (free_cells m) (registers_of m) (state_of past (a_tick_less m)))) (sym (calling_is (a_tick_less m) wants r.ready.proto))
            ∙ ap on (sym (begun_config (pushed (a_tick_less m) wants) (function_at m.heap id) first (free_cells m) count behind can f.code is_pushed new e past));
        kept = begun_ready (pushed (a_tick_less m) wants) (function_at m.heap id) first (free_cells m) count behind can f.code is_pushed new e;
      }

  -- one of the library
  pub enters_library : (f : Native) (new : EngineView) → 0 < m.ticks → length m.frames < 4096 → new ≡ called wants first (given (a_tick_less m) first count behind) (a_tick_less m) → EntersAs wants (built_in (native_view f)) first count behind (Serves f) m new
  enters_library f new lt room e =
      record {
        step = λ past.
            ticked m wants (built_in (native_view f)) first (args_at m first count behind) true lt (has_room_for m wants room) past
            ∙ ap on (sym (called_config (a_tick_less m) wants first count can_less f (given (a_tick_less m) first count behind) (args_at m first count behind) new e (given_view (a_tick_less m) first count behind r.slots) past));
        kept = called_serving (a_tick_less m) wants first count can_less (given (a_tick_less m) first count behind) new e;
      }

-- ---- a call of a value

module _ (m : EngineView) (wants : Wants) (v : Value) (first : ℕ) (args : List meant.Value) where
  -- by what it runs
  called_as : (o : Option (Callee × List meant.Value)) → called_at m v args ≡ o → (past : Past) → calling_step wants v first args past m ≡ entering_called (raised (calling_frames wants m) (registers_of m)) (value_view m.heap.texts v) o (calling_frames wants m) first (free_cells m) (registers_of m) (state_of past m)
  called_as o e past = ap (λ (c : Option (Callee × List meant.Value)). entering_called (raised (calling_frames wants m) (registers_of m)) (value_view m.heap.texts v) c (calling_frames wants m) first (free_cells m) (registers_of m) (state_of past m)) e

module _ (m new : EngineView) (wants : Wants) (v : Value) (first count : ℕ) (behind : Behind) where
  pub calls_so : (f : Callee) (status : Status) → called_at m v (args_at m first count behind) ≡ Some (f, args_at m first count behind) → EntersAs wants f first count behind status m new → CallsAs wants v first count behind status m new
  calls_so f status is c = came_as _ _ status new (called_as m wants v first (args_at m first count behind) (Some (f, args_at m first count behind)) is) c

  pub calls_nothing : (error : Value) → IsCallee Nothing v m → Raised (call_text (value_view m.heap.texts v)) error m new → CallsAs wants v first count behind (Raises error) m new
  calls_nothing error is s = came_raised _ m new (call_text (value_view m.heap.texts v)) error s (called_as m wants v first (args_at m first count behind) None (is (args_at m first count behind)))

-- with the value before the arguments
pub calls_handled : (m new : EngineView) (wants : Wants) (v : Value) (first count : ℕ) (behind : Behind) (f : Callee) (status : Status) (args : List Value) → called_at m v (args_at m first count behind) ≡ Some (f, value_view m.heap.texts v ∷ args_at m first count behind) → map (value_view m.heap.texts) args ≡ value_view m.heap.texts v ∷ args_at m first count behind → EntersAs wants f first 0 Args status (record m { args = args }) new → CallsAs wants v first count behind status m new
calls_handled m new wants v first count behind f status args is same c =
    came_as _ _ status new
    (λ past.
    called_as m wants v first (args_at m first count behind) (Some (f, value_view m.heap.texts v ∷ args_at m first count behind)) is past
    ∙ ap (λ (vs : List meant.Value). entering_step wants f first vs past m) (sym same)) c

-- whatever came of it
pub calls_each : {E : Type 0} (o : Result Status E) (P Q : Status → Type 0) → ((status : Status) → P status → Q status) → IfOk o P → IfOk o Q
calls_each (Ok status) P Q f p = f status p
calls_each (Err e) P Q f p = p

pub each_came : {A E : Type 0} (o : Result A E) (P Q : A → Type 0) → ((x : A) → P x → Q x) → IfOk o P → IfOk o Q
each_came (Ok x) P Q f p = f x p
each_came (Err e) P Q f p = p
