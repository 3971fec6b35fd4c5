-- What a function of the library comes to is a step of the definitions' machine.
use Rattle.std.proofs.Common.{◌≡◌, ℕ, List, Bool, true, false, refl, sym, ap, ◌∙◌, subst, Some}
use Rattle.std.specs.Prelude.{IsTrue, IsFalse, Result, Ok, Err}
use Rattle.lua_meaning.specs.Native as native
use Rattle.lua_meaning.specs.Value as meant
use Rattle.lua_machine.specs.Past.{Past}
use Rattle.lua_meaning.specs.World.{given}
use Rattle.lua_meaning.specs.Fault.{fault_value}
use Rattle.lua_meaning.specs.Calls.{caller}
use Rattle.lua_meaning.specs.Arguments.{Answer, answers}
use Rattle.lua_meaning.specs.Library.{library}
use Rattle.lua_heap.specs.declared.entries.Function.{Function}
use Rattle.lua_heap.specs.declared.native.Native.{Native}
use Rattle.lua_heap.specs.declared.value.Value.{Value}
use Rattle.lua_heap.specs.Native.{native_view}
use Rattle.lua_heap.specs.Value.{value_view}
use Rattle.lua_heap.specs.Heap.{HeapView, store_of, Extends}
use Rattle.lua_lib.specs.declared.call.cause.Cause.{Cause}
use Rattle.lua_lib.specs.declared.call.cause.LibFault.{LibFault}
use Rattle.lua_lib.specs.declared.call.cause.LibFault.TheVariants.{Fails, Elsewhere}
use Rattle.lua_lib.specs.Causes.{AreMade, values_of, error_of}
use Rattle.lua_lib.specs.Runs.{Refuses, Calls}
use Rattle.lua_lib.specs.Here.{is_here}
use Rattle.lua_code.specs.State as s
use Rattle.lua_code.specs.State.{Registers, State, Config, Step}
use Rattle.lua_code.specs.Frames.{places, finish, raised}
use Rattle.lua_code.specs.Natives.{Program, serves_as, by_library, answered, gives}
use Rattle.lua_code.specs.Act.{act}
use Rattle.lua_machine.specs.declared.status.Status.{Status}
use Rattle.lua_machine.specs.declared.status.Status.TheVariants.{Gives, Raises}
use Rattle.lua_machine.specs.View.{EngineView, frames_in, frames_of, registers_in, registers_of, state_in, state_of, config_of, serving_config}
use Rattle.lua_machine.specs.Made.{IsEngine}
use Rattle.lua_machine.specs.Ready.{AreFit}
use Rattle.lua_machine.specs.Serving.{Failed, ServedOr}
use Rattle.lua_machine.specs.Does.{step_as}
use Rattle.lua_machine.proofs.Doing.{later_at}
use Rattle.lua_machine.proofs.Keeping.{fit_grown}
use Rattle.lua_machine.proofs.Growing.{same_frames_of, same_registers, same_state, grown}

-- ---- a function that is there is the meaning's

module _ (program : Program) (base cell_base : ℕ) (frames : List s.Frame) (r : Registers) where
  served_here : (f : native.Native) (args : List meant.Value) (st : State) → IsTrue (is_here f) → serves_as program base cell_base frames r f args st ≡ by_library program base cell_base frames r f (library f args) st (gives program base cell_base frames r)
  served_here native.error args st here = cc
  served_here native.pcall args st here = cc
  served_here native.print args st here = cc
  served_here native.require args st here = cc
  served_here native.tostring args st here = cc
  served_here native.love_thread_get_channel args st here = cc
  served_here native.love_thread_new_channel args st here = cc
  served_here native.love_thread_new_thread args st here = cc
  served_here native.love_filesystem_read args st here = cc
  served_here native.love_filesystem_new_file_data args st here = cc
  served_here native.love_event_push args st here = cc
  served_here native.love_event_quit args st here = cc
  served_here native.love_event_poll args st here = cc
  served_here native.poll_walk args st here = cc
  served_here native.love_event_clear args st here = cc
  served_here native.channel_push args st here = cc
  served_here native.channel_supply args st here = cc
  served_here native.channel_pop args st here = cc
  served_here native.channel_peek args st here = cc
  served_here native.channel_demand args st here = cc
  served_here native.channel_get_count args st here = cc
  served_here native.channel_has_read args st here = cc
  served_here native.channel_clear args st here = cc
  served_here native.channel_perform_atomic args st here = cc
  served_here native.thread_start args st here = cc
  served_here native.thread_wait args st here = cc
  served_here native.thread_is_running args st here = cc
  served_here native.thread_get_error args st here = cc
  served_here f args st here = refl

module _ (m : EngineView) (is : IsEngine m) (fit : AreFit m) (f : Native) (h : HeapView) (more : Extends m.heap h) (functions : h.functions ≡ m.heap.functions) where
  -- what was made later leaves it fit
  pub later_fit : (args : List Value) → AreFit (record m { heap = h; args = args })
  later_fit args =
      let later = fit_grown m h is more functions fit in
      record { frames = later.frames; functions = later.functions; chunks = later.chunks }

  abbrev answer : Answer (List meant.Value)
  answer = library (native_view f) (values_of m.heap m.args) (store_of m.heap)

  module _ (here : IsTrue (is_here (native_view f))) (program : Program) (past : Past) where
    abbrev answers_so : Answer (List meant.Value) → Step
    answers_so a = answered program m.base m.cell_base (frames_of m) (registers_of m) (native_view f) a (state_of past m) (gives program m.base m.cell_base (frames_of m) (registers_of m))

    served_as : (a : Answer (List meant.Value)) → answer ≡ a → act program (serving_config f past m) ≡ answers_so a
    served_as a e =
        served_here program m.base m.cell_base (frames_of m) (registers_of m) (native_view f) (values_of m.heap m.args) (state_of past m) here
        ∙ ap answers_so e

    -- its values are the results
    values_step : (values : List Value) → answer ≡ answers (values_of h values) (store_of h) → act program (serving_config f past m) ≡ step_as Gives past (record m { heap = h; args = values })
    values_step values e =
        served_as _ e
        ∙ ap (λ (frames : List s.Frame). comes frames (registers_of m) (state_in m.heap.texts m.heap.functions (store_of h) past m)) (sym (same_frames_of m.heap h more m is.extras))
        ∙ ap (λ (r : Registers). comes (frames_in h.texts m) r (state_in m.heap.texts m.heap.functions (store_of h) past m)) (sym (same_registers m.heap h more m is.values is.tail))
        ∙ ap (λ (fs : List Function). comes (frames_in h.texts m) (registers_in h.texts m) (state_in m.heap.texts fs (store_of h) past m)) (sym functions)
        ∙ ap (comes (frames_in h.texts m) (registers_in h.texts m)) (sym (same_state m.heap h more m is.modules h.functions (store_of h) past))
      where
        comes : List s.Frame → Registers → State → Step
        comes frames r st = finish (given (values_of h values)) frames r st

  -- its values go on
  pub serves_values : (values : List Value) → IsTrue (is_here (native_view f)) → answer ≡ answers (values_of h values) (store_of h) → ServedOr true (Some Gives) f m (record m { heap = h; args = values })
  serves_values values here e = λ program. record { step = λ past. values_step here program past values e; kept = later_fit values }

  -- it fails
  pub serves_error : (cause : Cause) (v : Value) (new : EngineView) → IsTrue (is_here (native_view f)) → Refuses m.heap h (library (native_view f) (values_of m.heap m.args)) (error_of h.texts cause) → Failed f cause v (record m { heap = h }) new → ServedOr true (Some (Raises v)) f m new
  serves_error cause v new here refuses failed = λ program. record {
    step = λ past.
        served_as here program past _ refused.0
        ∙ ap (λ (c : Config). raised (frames_of m) (registers_of m) (fault_value (native_view f) (caller (places c.frames)) failed.error) (state_of past m)) (sym (same past))
        ∙ ap (λ (w : meant.Value). raised (frames_of m) (registers_of m) w (state_of past m)) (sym failed.value_is)
        ∙ ap (λ (c : Config). raised c.frames c.registers (value_view new.heap.texts v) c.state) (sym (failed.same past ∙ same past));
    kept = (failed.made, failed.fit);
  }
    where
      refused : Refuses m.heap h (library (native_view f) (values_of m.heap m.args)) (Some failed.error)
      refused = subst (Refuses m.heap h (library (native_view f) (values_of m.heap m.args))) failed.is refuses

      same : (past : Past) → config_of past (record m { heap = h }) ≡ config_of past m
      same past = grown m h is more refused.1 functions past

-- ---- by what a call of `lua_lib` came to

given_apart : {R : Type 0} (values : R) (o : Result R LibFault) → o ≡ Ok values → o ≡ Err Elsewhere → ⊥
given_apart values o a b = cc

failed_apart : {R : Type 0} (cause : Cause) (o : Result R LibFault) → o ≡ Err (Fails cause) → o ≡ Err Elsewhere → ⊥
failed_apart cause o a b = cc

here_unless : {R : Type 0} (b : Bool) (o : Result R LibFault) (values : R) → o ≡ Ok values → (IsFalse b → o ≡ Err Elsewhere) → IsTrue b
here_unless true o values is elsewhere = cc
here_unless false o values is elsewhere = absurd (given_apart values o is (elsewhere refl))

here_failing : {R : Type 0} (b : Bool) (o : Result R LibFault) (cause : Cause) → o ≡ Err (Fails cause) → (IsFalse b → o ≡ Err Elsewhere) → IsTrue b
here_failing true o cause is elsewhere = cc
here_failing false o cause is elsewhere = absurd (failed_apart cause o is (elsewhere refl))

-- what the heap made later is there, and so are the results
pub made_later : (m : EngineView) (h : HeapView) (values : List Value) → Extends m.heap h → IsEngine m → AreMade h values → IsEngine (record m { heap = h; args = values })
made_later m h values more is made =
    let later = later_at m h m.pc more is in
    record { events = later.events; extra = later.extra; below = later.below; values = later.values; tail = later.tail; extras = later.extras; args = made; cells = later.cells; chunks = later.chunks; modules = later.modules }

module _ (e m : EngineView) (seen : e ≡ m) (is : IsEngine e) (fit : AreFit m) (f : Native) (h : HeapView) (more : Extends e.heap h) (functions : h.functions ≡ e.heap.functions) where
  fit_seen : AreFit e
  fit_seen = subst AreFit (sym seen) fit

  pub fits_later : (args : List Value) → AreFit (record e { heap = h; args = args })
  fits_later args = later_fit e is fit_seen f h more functions args

  module _ (args : List Value) (are : args ≡ e.args) where
    pub serves_ok : {R : Type 0} (made : R) (o : Result R LibFault) (values : List Value) → o ≡ Ok made → (IsFalse (is_here (native_view f)) → o ≡ Err Elsewhere) → (IsTrue (is_here (native_view f)) → library (native_view f) (values_of e.heap args) (store_of e.heap) ≡ answers (values_of h values) (store_of h)) → (here : Bool) → ServedOr here (Some Gives) f m (record e { heap = h; args = values })
    serves_ok made o values ok elsewhere calls b =
        let here = here_unless (is_here (native_view f)) o made ok elsewhere in
        subst (λ (y : EngineView). ServedOr b (Some Gives) f y (record e { heap = h; args = values })) seen
        (serves_values e is fit_seen f h more functions values here (subst (λ (vs : List Value). library (native_view f) (values_of e.heap vs) (store_of e.heap) ≡ answers (values_of h values) (store_of h)) are (calls here)))

    pub serves_failing : {R : Type 0} (o : Result R LibFault) (items : R → List Value) (x : LibFault) (cause : Cause) (v : Value) (new : EngineView) → o ≡ Err x → x ≡ Fails cause → (IsFalse (is_here (native_view f)) → o ≡ Err Elsewhere) → (IsTrue (is_here (native_view f)) → Calls items e.heap h (library (native_view f) (values_of e.heap args)) (Err x)) → Failed f cause v (record e { heap = h }) new → (here : Bool) → ServedOr here (Some (Raises v)) f m new
    serves_failing o items x cause v new err_x x_is elsewhere calls failed b =
        let err : o ≡ Err (Fails cause) = subst (λ (y : LibFault). o ≡ Err y) x_is err_x in
        let here = here_failing (is_here (native_view f)) o cause err elsewhere in
        subst (λ (y : EngineView). ServedOr b (Some (Raises v)) f y new) seen
        (serves_error e is fit_seen f h more functions cause v new here (subst (λ (vs : List Value). Refuses e.heap h (library (native_view f) (values_of e.heap vs)) (error_of h.texts cause)) are (subst (λ (y : LibFault). Calls items e.heap h (library (native_view f) (values_of e.heap args)) (Err y)) x_is (calls here))) failed)
