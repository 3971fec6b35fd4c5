-- What a function of LÖVE, or a reply, comes to is a step of the definitions' machine.
use Rattle.std.proofs.Common.{◌≡◌, ℕ, List, [], ◌∷◌, Bool, true, false, refl, sym, ap, ◌∙◌, subst, Some}
use Rattle.std.specs.Prelude.{IsTrue, IsFalse, Result, Ok, Err, map}
use Rattle.std.specs.Global.{Vec}
use Rattle.std.specs.List.{AllByRecursion}
use Rattle.lua_tree.specs.Tree.{Bytes}
use Rattle.lua_meaning.specs.Native as native
use Rattle.lua_meaning.specs.Value as meant
use Rattle.lua_meaning.specs.World.{given}
use Rattle.lua_meaning.specs.Fault.{placed, fault_value}
use Rattle.lua_meaning.specs.MessageView.{ask_view}
use Rattle.lua_meaning.specs.Calls.{caller}
use Rattle.lua_meaning.specs.Arguments.{Lib, Answer, answers}
use Rattle.lua_heap.specs.declared.entries.Function.{Function}
use Rattle.lua_heap.specs.declared.native.Native.{Native}
use Rattle.lua_heap.specs.declared.value.Value.{Value}
use Rattle.lua_heap.specs.Native.{native_view}
use Rattle.lua_heap.specs.Value.{value_view}
use Rattle.lua_heap.specs.Heap.{HeapView, store_of, Extends}
use Rattle.lua_lib.specs.declared.call.cause.Cause.{Cause}
use Rattle.lua_lib.specs.declared.call.cause.LibFault.{LibFault}
use Rattle.lua_lib.specs.declared.call.cause.LibFault.TheVariants.{Fails, Elsewhere}
use Rattle.lua_lib.specs.Causes.{values_of, error_of}
use Rattle.lua_lib.specs.Runs.{Refuses}
use Rattle.lua_code.specs.declared.program.File.{File}
use Rattle.lua_code.specs.declared.program.Program as declared
use Rattle.lua_code.specs.Held as held
use Rattle.lua_code.specs.Held.{program_view}
use Rattle.lua_code.specs.State as s
use Rattle.lua_code.specs.State.{Registers, State, with_store, Config, Step}
use Rattle.lua_code.specs.Frames.{places, finish, raised}
use Rattle.lua_code.specs.Act.{act}
use Rattle.love_functions.specs.declared.errand.Called.{Called}
use Rattle.love_functions.specs.declared.errand.Called.TheVariants.{Gives, Refuses as RefusesBy, Asks as AsksFor}
use Rattle.love_functions.specs.Asking as asking
use Rattle.love_functions.specs.Asking.{Files, is_here, part_of}
use Rattle.love_functions.specs.View.{called_view, errand_view, files_view, Calls}
use Rattle.love_functions.specs.Serves.{after, path_of, AllServe}
use Rattle.lua_machine.specs.declared.status.Status.{Status}
use Rattle.lua_machine.specs.declared.status.Status.TheVariants.{Raises}
use Rattle.lua_machine.specs.Past.{Past}
use Rattle.lua_machine.specs.View.{EngineView, frames_in, frames_of, registers_in, registers_of, state_in, state_of, config_of, serving_config}
use Rattle.lua_machine.specs.Made.{IsEngine}
use Rattle.lua_machine.specs.Ready.{IsCode, IsServing}
use Rattle.lua_machine.specs.Does.{step_as}
use Rattle.lua_machine.specs.Serving.{IsRefusal, Failed, Served}
use Rattle.lua_machine.specs.Asking.{called_step, ComesTo}
use Rattle.lua_machine.proofs.Keeping.{loaded_later}
use Rattle.lua_machine.proofs.Growing.{same_frames_of, same_registers, same_state, grown}

-- the paths and the bytes of a game's files
files_same : (files : List File) → map path_of (map held.file_view files) ≡ files_view files
files_same [] = refl
files_same (file ∷ files) = ap (λ (rest : Files). (file.name, file.content.bytes) ∷ rest) (files_same files)

-- ---- an error that has a text alone

pub comes_refused : (called : Called) (text : Vec ℕ) (said : Bytes) (v : Value) (m new : EngineView) → called ≡ RefusesBy text → said ≡ text.items → IsRefusal said v m new → ComesTo called (Raises v) m new
comes_refused called text said v m new is same refusal =
    subst (λ (x : Called). ComesTo x (Raises v) m new) (sym is)
    (record {
      step = λ past.
          ap (λ (b : Bytes). raised (frames_of m) (registers_of m) (meant.str (placed (caller (places (frames_of m))) b)) (state_of past m)) (sym same)
          ∙ ap (λ (w : meant.Value). raised (frames_of m) (registers_of m) w (state_of past m)) (sym refusal.value_is)
          ∙ ap (λ (c : Config). raised c.frames c.registers (value_view new.heap.texts v) c.state) (sym (refusal.same past));
      kept = (refusal.made, refusal.fit);
    })

-- ---- a heap that has made more

module _ (m : EngineView) (is : IsEngine m) (h : HeapView) (more : Extends m.heap h) (functions : h.functions ≡ m.heap.functions) where
  pub later_serving : IsServing m → IsServing (record m { heap = h })
  later_serving ready =
      record {
        fit = record {
          frames = ready.fit.frames;
          functions = subst (AllByRecursion (IsCode m.chunks)) (sym functions) ready.fit.functions;
          chunks = loaded_later m.heap h more m.chunks is.chunks ready.fit.chunks;
        };
        slots = ready.slots;
        cells = ready.cells;
      }

  -- frames, registers and state are as they were, but for the store
  later_step : (past : Past) (next : List s.Frame → Registers → State → Step) → next (frames_of m) (registers_of m) (with_store (state_of past m) (store_of h)) ≡ next (frames_in h.texts m) (registers_in h.texts m) (state_in h.texts h.functions (store_of h) past m)
  later_step past next =
      ap (λ (frames : List s.Frame). next frames (registers_of m) (state_in m.heap.texts m.heap.functions (store_of h) past m)) (sym (same_frames_of m.heap h more m is.extras))
      ∙ ap (λ (r : Registers). next (frames_in h.texts m) r (state_in m.heap.texts m.heap.functions (store_of h) past m)) (sym (same_registers m.heap h more m is.values is.tail))
      ∙ ap (λ (st : State). next (frames_in h.texts m) (registers_in h.texts m) st) (sym (same_state m.heap h more m is.modules m.heap.functions (store_of h) past))
      ∙ ap (λ (fs : List Function). next (frames_in h.texts m) (registers_in h.texts m) (state_in h.texts fs (store_of h) past m)) (sym functions)

  -- what a function comes to goes on from there
  pub after_called : (past : Past) (f : native.Native) (called : Called) → after m.base m.cell_base (frames_of m) (registers_of m) f (state_of past m) (answers (called_view h called) (store_of h)) ≡ called_step called past (record m { heap = h })
  after_called past f (Gives values) =
      later_step past (λ frames r st. finish (given (values_of h values.items)) frames r st)
  after_called past f (RefusesBy text) =
      later_step past (λ frames r st. raised frames r (meant.str (placed (caller (places frames)) text.items)) st)
  after_called past f (AsksFor question errand) =
      later_step past (λ frames r st. s.asks (ask_view question) (record {
        errand = errand_view h errand;
        base = m.base;
        cell_base = m.cell_base;
        frames = frames;
        registers = r;
        state = st;
      }))

  -- an error of a function, once its value is there
  after_failed : (f : Native) (cause : Cause) (v : Value) (new : EngineView) → store_of h ≡ store_of m.heap → (failed : Failed f cause v (record m { heap = h }) new) → (past : Past) → raised (frames_of m) (registers_of m) (fault_value (native_view f) (caller (places (frames_of m))) failed.error) (state_of past m) ≡ step_as (Raises v) past new
  after_failed f cause v new store failed past =
      ap (λ (c : Config). raised (frames_of m) (registers_of m) (fault_value (native_view f) (caller (places c.frames)) failed.error) (state_of past m)) (sym same)
      ∙ ap (λ (w : meant.Value). raised (frames_of m) (registers_of m) w (state_of past m)) (sym failed.value_is)
      ∙ ap (λ (c : Config). raised c.frames c.registers (value_view new.heap.texts v) c.state) (sym (failed.same past ∙ same))
    where
      same : config_of past (record m { heap = h }) ≡ config_of past m
      same = grown m h is more store functions past

  -- ---- a function that is there

  module _ (serves : AllServe) (program : declared.Program) (state : ℕ) (f : Native) (here : IsTrue (is_here (native_view f))) where
    abbrev part : Lib asking.Called
    part = part_of (files_view program.files) state (native_view f) (values_of m.heap m.args)

    served_as : (a : Answer asking.Called) → part (store_of m.heap) ≡ a → (past : Past) → act (program_view program state) (serving_config f past m) ≡ after m.base m.cell_base (frames_of m) (registers_of m) (native_view f) (state_of past m) a
    served_as a e past =
        serves (program_view program state) m.base m.cell_base (frames_of m) (registers_of m) (native_view f) (values_of m.heap m.args) (state_of past m) here
        ∙ ap (λ (files : Files). answered (part_of files state (native_view f) (values_of m.heap m.args) (store_of m.heap))) (files_same program.files)
        ∙ ap answered e
      where
        answered : Answer asking.Called → Step
        answered a = after m.base m.cell_base (frames_of m) (registers_of m) (native_view f) (state_of past m) a

    pub asks_called : (called : Called) (status : Status) (new : EngineView) → part (store_of m.heap) ≡ answers (called_view h called) (store_of h) → ComesTo called status (record m { heap = h }) new → Served (program_view program state) f status m new
    asks_called called status new e came =
        record {
          step = λ past. served_as _ e past ∙ after_called past (native_view f) called ∙ came.step past;
          kept = came.kept;
        }

    pub asks_error : (cause : Cause) (v : Value) (new : EngineView) → Refuses m.heap h part (error_of h.texts cause) → Failed f cause v (record m { heap = h }) new → Served (program_view program state) f (Raises v) m new
    asks_error cause v new refuses failed =
        let refused : Refuses m.heap h part (Some failed.error) = subst (Refuses m.heap h part) failed.is refuses in
        record {
          step = λ past. served_as _ refused.0 past ∙ after_failed f cause v new refused.1 failed past;
          kept = (failed.made, failed.fit);
        }

-- ---- by what a call came to

given_apart : (called : Called) (o : Result Called LibFault) → o ≡ Ok called → o ≡ Err Elsewhere → ⊥
given_apart called o a b = cc

failed_apart : (cause : Cause) (o : Result Called LibFault) → o ≡ Err (Fails cause) → o ≡ Err Elsewhere → ⊥
failed_apart cause o a b = cc

here_unless : (b : Bool) (o : Result Called LibFault) → (o ≡ Err Elsewhere → ⊥) → (IsFalse b → o ≡ Err Elsewhere) → IsTrue b
here_unless true o not elsewhere = refl
here_unless false o not elsewhere = absurd (not (elsewhere refl))

module _ (e m : EngineView) (seen : e ≡ m) (is : IsEngine e) (ready : IsServing m) (h : HeapView) (more : Extends e.heap h) (functions : h.functions ≡ e.heap.functions) where
  pub serving_later : IsServing (record e { heap = h })
  serving_later = later_serving e is h more functions (subst IsServing (sym seen) ready)

  module _ (serves : AllServe) (program : declared.Program) (state : ℕ) (f : Native) (files : List File) (args : List Value) (listed : files ≡ program.files) (are : args ≡ e.args) (o : Result Called LibFault) (elsewhere : IsFalse (is_here (native_view f)) → o ≡ Err Elsewhere) where
    abbrev part_on : Lib asking.Called
    part_on = part_of (files_view files) state (native_view f) (values_of e.heap args)

    part_same : part_on ≡ part_of (files_view program.files) state (native_view f) (values_of e.heap e.args)
    part_same =
        ap (λ (fs : List File). part_of (files_view fs) state (native_view f) (values_of e.heap args)) listed
        ∙ ap (λ (vs : List Value). part_of (files_view program.files) state (native_view f) (values_of e.heap vs)) are

    pub asks_ok : (called : Called) (status : Status) (new : EngineView) → o ≡ Ok called → (IsTrue (is_here (native_view f)) → part_on (store_of e.heap) ≡ answers (called_view h called) (store_of h)) → ComesTo called status (record e { heap = h }) new → Served (program_view program state) f status m new
    asks_ok called status new ok calls came =
        let here = here_unless (is_here (native_view f)) o (given_apart called o ok) elsewhere in
        subst (λ (y : EngineView). Served (program_view program state) f status y new) seen
        (asks_called e is h more functions serves program state f here called status new (subst (λ (part : Lib asking.Called). part (store_of e.heap) ≡ answers (called_view h called) (store_of h)) part_same (calls here)) came)

    pub asks_failing : (x : LibFault) (cause : Cause) (v : Value) (new : EngineView) → o ≡ Err x → x ≡ Fails cause → (IsTrue (is_here (native_view f)) → Calls e.heap h part_on (Err x)) → Failed f cause v (record e { heap = h }) new → Served (program_view program state) f (Raises v) m new
    asks_failing x cause v new err is_x calls failed =
        let here = here_unless (is_here (native_view f)) o (failed_apart cause o (err ∙ ap (λ (y : LibFault). Err y) is_x)) elsewhere in
        subst (λ (y : EngineView). Served (program_view program state) f (Raises v) y new) seen
        (asks_error e is h more functions serves program state f here cause v new
        (subst (λ (part : Lib asking.Called). Refuses e.heap h part (error_of h.texts cause)) part_same (subst (λ (y : LibFault). Calls e.heap h part_on (Err y)) is_x (calls here))) failed)
