-- Parts of functions of the library, the values that they give and the errors that they raise.
use Rattle.std.proofs.Common.{◌≡◌, ℕ, ℤ, List, [], ◌∷◌, drop, map, refl, sym, ap, ◌∙◌, subst}
use Rattle.std.specs.Prelude.{codes, pos, Result, Ok, Err, IfOk}
use Rattle.std.proofs.lemmas.List.{drop-map}
use Rattle.lua_tree.specs.Tree.{Bytes}
use Rattle.lua_meaning.specs.Native as native
use Rattle.lua_meaning.specs.Value as meant
use Rattle.lua_meaning.specs.World.{given}
use Rattle.lua_meaning.specs.Arguments.{Lib, Answer, argument, number_or}
use Rattle.lua_meaning.specs.Store.{handler}
use Rattle.lua_meaning.specs.Control.{level_place, error_value, value_text}
use Rattle.lua_heap.specs.declared.native.Native.{Native}
use Rattle.lua_heap.specs.declared.native.Native.TheVariants as natives
use Rattle.lua_heap.specs.declared.value.Value.{Value}
use Rattle.lua_heap.specs.declared.value.Value.TheVariants as values
use Rattle.lua_heap.specs.declared.value.Value.TheVariants.{Nil, Bool as Flag, Num, Str, Table, Func, Channel, Thread, Data}
use Rattle.lua_heap.specs.Value.{value_view}
use Rattle.lua_heap.specs.Native.{native_view}
use Rattle.lua_heap.specs.Heap.{store_of}
use Rattle.lua_lib.specs.declared.call.cause.Cause.{Cause}
use Rattle.lua_lib.specs.Causes.{error_of, Comes}
use Rattle.lua_lib.specs.Outcome.{Gives, Raises as RaisesIt}
use Rattle.lua_lib.specs.Faults.{RaisesBy}
use Rattle.lua_code.specs.State as s
use Rattle.lua_code.specs.State.{State, Config, Step}
use Rattle.lua_code.specs.Frames.{places, by_text, finish, raised, calling}
use Rattle.lua_code.specs.Natives.{Program, by_library, answered}
use Rattle.lua_machine.specs.declared.frame.Duty.TheVariants as duties
use Rattle.lua_machine.specs.declared.status.Status.{Status}
use Rattle.lua_machine.specs.declared.status.Status.TheVariants.{Gives as GivesStatus, Raises}
use Rattle.lua_machine.specs.Past.{Past}
use Rattle.lua_machine.specs.View.{EngineView, frames_of, registers_of, state_of, config_of}
use Rattle.lua_machine.specs.Does.{step_as, finishing}
use Rattle.lua_machine.specs.Serving.{IsText, Failed, Served}
use Rattle.lua_machine.specs.Fulfilling.{GivesOne}
use Rattle.lua_machine.specs.Back.{args_of, back_step, CallsBack}
use Rattle.lua_machine.specs.Refusing.{IsValue}
use Rattle.lua_machine.specs.Basics.{ServedAlone, GivesValue}
use Rattle.lua_machine.specs.Ready.{AreFit}
use Rattle.lua_machine.proofs.Passing.{asked_by}

-- an error's value goes to the frames
pub raises_value : (w : meant.Value) (v : Value) (m new : EngineView) → value_view new.heap.texts v ≡ w → ((past : Past) → config_of past new ≡ config_of past m) → (past : Past) → raised (frames_of m) (registers_of m) w (state_of past m) ≡ step_as (Raises v) past new
raises_value w v m new is same past =
    ap (λ (x : meant.Value). raised (frames_of m) (registers_of m) x (state_of past m)) (sym is)
    ∙ ap (λ (c : Config). raised c.frames c.registers (value_view new.heap.texts v) c.state) (sym (same past))

-- ---- a part of a function

module _ {A : Type 0} (program : Program) (f : Native) (part : Lib A) (next : A → State → Step) (m : EngineView) where
  abbrev comes : Past → Answer A → Step
  comes past a = answered program m.base m.cell_base (frames_of m) (registers_of m) (native_view f) a (state_of past m) next

  pub library_gives : (a : A) → Gives part a → (past : Past) → by_library program m.base m.cell_base (frames_of m) (registers_of m) (native_view f) part (state_of past m) next ≡ next a (state_of past m)
  library_gives a gives past = ap (comes past) (gives (store_of m.heap))

  pub library_fails : (cause : Cause) (v : Value) (new : EngineView) → RaisesBy part (error_of m.heap.texts cause) → Failed f cause v m new → (past : Past) → by_library program m.base m.cell_base (frames_of m) (registers_of m) (native_view f) part (state_of past m) next ≡ step_as (Raises v) past new
  library_fails cause v new raises failed past = ap (comes past) (raises_it (store_of m.heap)) ∙ raises_value _ v m new failed.value_is failed.same past
    where
      raises_it : RaisesIt part failed.error
      raises_it = subst (RaisesBy part) failed.is raises

-- ---- `error`

module _ (m new : EngineView) (v : Value) where
  abbrev leveled : ℤ → State → Step
  leveled level st = raised (frames_of m) (registers_of m) (error_value (argument 0 (args_of m)) (level_place level (places (frames_of m)))) st

  pub raises_level : (level : ℤ) → Gives (number_or 1 (args_of m) (pos 1)) level → IsValue (error_value (argument 0 (args_of m)) (level_place level (places (frames_of m)))) v m new → ServedAlone natives.Error (Raises v) m new
  raises_level level gives is = λ program. record {
    step = λ past. library_gives program natives.Error (number_or 1 (args_of m) (pos 1)) leveled m level gives past ∙ raises_value _ v m new is.value_is is.same past;
    kept = (is.made, is.fit);
  }

  pub raises_cause : (cause : Cause) → RaisesBy (number_or 1 (args_of m) (pos 1)) (error_of m.heap.texts cause) → Failed natives.Error cause v m new → ServedAlone natives.Error (Raises v) m new
  raises_cause cause raises failed = λ program. record {
    step = λ past. library_fails program natives.Error (number_or 1 (args_of m) (pos 1)) leveled m cause v new raises failed past;
    kept = (failed.made, failed.fit);
  }

-- ---- one value is given

pub gives_text : (text : Bytes) (v : Value) (status : Status) (m mid new : EngineView) → IsText text v m mid → GivesOne v status mid new → GivesValue (meant.str text) status m new
gives_text text v status m mid new is one =
    subst (λ (s : Status). GivesValue (meant.str text) s m new) (sym one.0)
    (subst (λ (y : EngineView). GivesValue (meant.str text) GivesStatus m y) (sym one.1)
    (record {
      step = λ past.
          ap (λ (w : meant.Value). finishing (given (w ∷ [])) past m) (sym is.value_is)
          ∙ ap (λ (c : Config). finish (given (value_view mid.heap.texts v ∷ [])) c.frames c.registers c.state) (sym (is.same past));
      kept = record { frames = is.fit.frames; functions = is.fit.functions; chunks = is.fit.chunks };
    }))

-- ---- in whatever program

pub served_alone : {E : Type 0} (o : Result Status E) (f g : Native) (m new : EngineView) (program : Program) → g ≡ f → IfOk o (λ status. ServedAlone f status m new) → IfOk o (λ status. Served program g status m new)
served_alone (Ok status) f g m new program is served = subst (λ (h : Native). Served program h status m new) (sym is) (served program)
served_alone (Err e) f g m new program is served = served

-- ---- `pcall` and `tostring`

first_argument : (vs : List meant.Value) → meant.first vs ≡ argument 0 vs
first_argument [] = refl
first_argument (v ∷ vs) = refl

not_nil : (texts : List Bytes) (h : Value) → (h ≡ Nil → ⊥) → value_view texts h ≡ meant.nil → ⊥
not_nil texts Nil other is = other refl
not_nil texts (Flag b) other is = cc
not_nil texts (Num z) other is = cc
not_nil texts (Str id) other is = cc
not_nil texts (Table id) other is = cc
not_nil texts (Func id) other is = cc
not_nil texts (values.Native f) other is = cc
not_nil texts (Channel n) other is = cc
not_nil texts (Thread n) other is = cc
not_nil texts (Data id) other is = cc

module _ (m : EngineView) (v : Value) (status : Status) (new : EngineView) where
  pub tries : (mid : EngineView) → value_view m.heap.texts v ≡ argument 0 (args_of m) → mid ≡ record m { args = drop 1 m.args } → CallsBack duties.Tries v status mid new → ServedAlone natives.Pcall status m new
  tries mid first rest back = λ program. record {
    step = λ past.
        ap (λ (w : meant.Value). calls past w (drop 1 (args_of m))) (sym first)
        ∙ ap (calls past (value_view m.heap.texts v)) (drop-map (value_view m.heap.texts) 1 m.args)
        ∙ ap (λ (y : EngineView). back_step duties.Tries v past y) (sym rest)
        ∙ back.came.step past;
    kept = back.came.kept;
  }
    where
      calls : Past → meant.Value → List meant.Value → Step
      calls past w vs = calling w vs (s.serves s.tries m.base m.cell_base ∷ frames_of m) m.base m.cell_base (registers_of m) (state_of past m)

  module _ (first : value_view m.heap.texts v ≡ meant.first (args_of m)) where
    abbrev own_step : Past → meant.Value → Step
    own_step past w = finish (given (meant.str (value_text (store_of m.heap) w) ∷ [])) (frames_of m) (registers_of m) (state_of past m)

    abbrev asking_step : Past → meant.Value → meant.Value → Step
    asking_step past w h = calling h (w ∷ []) (s.serves s.converts m.base m.cell_base ∷ frames_of m) m.base m.cell_base (registers_of m) (state_of past m)

    abbrev text_step : Past → meant.Value → Step
    text_step past w = by_text (handler (store_of m.heap) w (codes "__tostring")) (own_step past w) (asking_step past w)

    abbrev argument_is : argument 0 (args_of m) ≡ value_view m.heap.texts v
    argument_is = sym (first_argument (args_of m)) ∙ sym first

    -- its handler is asked
    pub converts : (h : Value) → value_view m.heap.texts h ≡ handler (store_of m.heap) (value_view m.heap.texts v) (codes "__tostring") → (h ≡ Nil → ⊥) → CallsBack duties.Converts h status (record m { args = v ∷ [] }) new → ServedAlone natives.ToString status m new
    converts h is some back = λ program. record {
      step = λ past.
          ap (text_step past) argument_is
          ∙ ap (λ (g : meant.Value). by_text g (own_step past (value_view m.heap.texts v)) (asking_step past (value_view m.heap.texts v))) (sym is)
          ∙ asked_by (own_step past (value_view m.heap.texts v)) (asking_step past (value_view m.heap.texts v)) (value_view m.heap.texts h) (not_nil m.heap.texts h some)
          ∙ back.came.step past;
      kept = back.came.kept;
    }

    -- it has its own text
    pub gives_own : handler (store_of m.heap) (value_view m.heap.texts v) (codes "__tostring") ≡ meant.nil → GivesValue (meant.str (value_text (store_of m.heap) (value_view m.heap.texts v))) status m new → ServedAlone natives.ToString status m new
    gives_own is gives = λ program. record {
      step = λ past.
          ap (text_step past) argument_is
          ∙ ap (λ (g : meant.Value). by_text g (own_step past (value_view m.heap.texts v)) (asking_step past (value_view m.heap.texts v))) is
          ∙ gives.step past;
      kept = gives.kept;
    }
