-- The values of errors of functions of the library.
use Rattle.std.proofs.Common.{◌≡◌, ℕ, ◌-◌, ◌<◌, List, [], ◌∷◌, ◌++◌, length, false, refl, sym, ap, ◌∙◌, subst, Option, Some, None, slice_get, arith}
use Rattle.std.specs.Prelude.{unwrap_or, codes, reverse, Result, Ok, Err, IfOk}
use Rattle.std.specs.Fmt.{signed_decimal}
use Rattle.std.proofs.lemmas.List.{reverse-append}
use Rattle.lua_tree.specs.Tree.{Bytes}
use Rattle.lua_meaning.specs.Native as native
use Rattle.lua_meaning.specs.Value as meant
use Rattle.lua_meaning.specs.Text.{type_name}
use Rattle.lua_meaning.specs.Fault.{Fault as Error, Place, bad_argument, fault_value}
use Rattle.lua_meaning.specs.Calls.{caller}
use Rattle.lua_heap.specs.declared.native.Native.{Native}
use Rattle.lua_heap.specs.declared.value.Value.{Value}
use Rattle.lua_heap.specs.declared.value.Value.TheVariants as values
use Rattle.lua_heap.specs.Native.{native_view}
use Rattle.lua_heap.specs.Value.{value_view}
use Rattle.lua_heap.specs.Heap.{HeapView, store_of, IsMade, Extends}
use Rattle.lua_lib.specs.declared.fault.Fault.{Fault}
use Rattle.lua_lib.specs.declared.fault.Fault.TheVariants.{IndexOutOfRange, BaseOutOfRange, NoByte, Negative, NotWhole, OutOfRange, StringTooLong, TooManyValues, PatternsNotAvailable, InvalidFormat, NoSuchKey, KeyIsNil, AssertionFailed, NoMetatable, Protected, PositionOutOfBounds, NoOrder, TakesNoFunction, OutOfBounds, NotSeconds, NoStatus, Memory}
use Rattle.lua_lib.specs.declared.call.cause.Cause.{Cause}
use Rattle.lua_lib.specs.declared.call.cause.Cause.TheVariants.{Wants, By, NoText, Raises}
use Rattle.lua_lib.specs.Causes.{expected_text, error_of}
use Rattle.lua_lib.specs.Texts.{cause_text, placed_text, cause_value}
use Rattle.lua_lib.proofs.Texts.{error-value}
use Rattle.lua_code.specs.Instr as i
use Rattle.lua_code.specs.Frames as frames
use Rattle.lua_code.specs.Frames.{places}
use Rattle.lua_machine.specs.declared.frame.Wants as frame
use Rattle.lua_machine.specs.declared.frame.Duty.{Duty}
use Rattle.lua_machine.specs.declared.frame.Role.{Role}
use Rattle.lua_machine.specs.declared.frame.Role.TheVariants.{Waits, Serves}
use Rattle.lua_machine.specs.declared.frame.Frame.{Frame}
use Rattle.lua_machine.specs.declared.chunk.Chunk.{Chunk}
use Rattle.lua_machine.specs.View.{EngineView, protos_at, proto_at, no_proto, code_of, line_of, place_of, kept_in, frame_as, frame_in, frames_below, frames_of, config_of}
use Rattle.lua_machine.specs.Made.{IsEngine}
use Rattle.lua_machine.specs.Frames.{IsTop}
use Rattle.lua_machine.specs.Ready.{AreFit}
use Rattle.lua_machine.specs.Serving.{IsCaller, IsCallerOf, is_memory, IsText, Failed}
use Rattle.lua_machine.proofs.Keeping.{get_in, sound_at, fit_grown}
use Rattle.lua_machine.proofs.Resuming.{top_paused}
use Rattle.lua_machine.proofs.Fetching.{code_is}
use Rattle.lua_machine.proofs.Growing.{grown}

-- a text that has its id
pub text_of : (e m : EngineView) → e ≡ m → IsEngine e → AreFit m → (h : HeapView) (id : ℕ) (text : Bytes) → slice_get h.texts id ≡ Some text → id < length h.texts → Extends e.heap h → store_of h ≡ store_of e.heap → h.functions ≡ e.heap.functions → IsText text (values.Str id) m (record e { heap = h })
text_of e m seen is fit h id text there made more store functions =
    record {
      value_is = ap (λ o. meant.str (unwrap_or o [])) there;
      made = made;
      same = λ past. grown e h is more store functions past ∙ ap (λ (v : EngineView). config_of past v) seen;
      fit = fit_grown e h is more functions (subst AreFit (sym seen) fit);
    }

-- where a function waits
pub place_is : (chunks : List Chunk) (f : Frame) (file : Bytes) (line : ℕ) → f.func < length (protos_at chunks f.chunk) → file ≡ (proto_at chunks f.chunk f.func).file → line ≡ line_of (proto_at chunks f.chunk f.func) f.pc → record { file = file; line = line } ≡ place_of chunks f
place_is chunks f file line known file_is line_is =
    ap (λ b. at b line) (file_is ∙ sym (ap i.file_of (code_is (protos_at chunks f.chunk) f.func (proto_at chunks f.chunk f.func) (get_in (protos_at chunks f.chunk) f.func no_proto known))))
    ∙ ap (λ n. at (i.file_of (code_of chunks f.chunk f.func)) n) line_is
  where
    at : Bytes → ℕ → Place
    at file line = record { file = file; line = line }

-- ---- causes

same_type : (texts : List Bytes) (v : Value) → type_name (value_view texts v) ≡ type_name (value_view [] v)
same_type texts values.Nil = refl
same_type texts (values.Bool b) = refl
same_type texts (values.Num z) = refl
same_type texts (values.Str id) = refl
same_type texts (values.Table id) = refl
same_type texts (values.Func id) = refl
same_type texts (values.Native f) = refl
same_type texts (values.Channel n) = refl
same_type texts (values.Thread n) = refl
same_type texts (values.Data id) = refl

-- a fault has an error, which says the same without a place
pub record HasError (f : native.Native) (texts : List Bytes) (cause : Cause) : Type 0 where
  pub error : Error
  pub is : error_of texts cause ≡ Some error
  pub plain : fault_value f None error ≡ meant.str (cause_text f cause)

fault_has : (f : native.Native) (texts : List Bytes) (fault : Fault) → is_memory (By fault) ≡ false → HasError f texts (By fault)
fault_has f texts IndexOutOfRange other = record { error = _; is = refl; plain = refl }
fault_has f texts BaseOutOfRange other = record { error = _; is = refl; plain = refl }
fault_has f texts (NoByte n) other = record { error = _; is = refl; plain = refl }
fault_has f texts (Negative n) other = record { error = _; is = refl; plain = refl }
fault_has f texts NotWhole other = record { error = _; is = refl; plain = refl }
fault_has f texts OutOfRange other = record { error = _; is = refl; plain = refl }
fault_has f texts StringTooLong other = record { error = _; is = refl; plain = refl }
fault_has f texts TooManyValues other = record { error = _; is = refl; plain = refl }
fault_has f texts PatternsNotAvailable other = record { error = _; is = refl; plain = refl }
fault_has f texts InvalidFormat other = record { error = _; is = refl; plain = refl }
fault_has f texts NoSuchKey other = record { error = _; is = refl; plain = refl }
fault_has f texts KeyIsNil other = record { error = _; is = refl; plain = refl }
fault_has f texts AssertionFailed other = record { error = _; is = refl; plain = refl }
fault_has f texts NoMetatable other = record { error = _; is = refl; plain = refl }
fault_has f texts Protected other = record { error = _; is = refl; plain = refl }
fault_has f texts PositionOutOfBounds other = record { error = _; is = refl; plain = refl }
fault_has f texts NoOrder other = record { error = _; is = refl; plain = refl }
fault_has f texts TakesNoFunction other = record { error = _; is = refl; plain = refl }
fault_has f texts (OutOfBounds n) other = record { error = _; is = refl; plain = refl }
fault_has f texts (NotSeconds n) other = record { error = _; is = refl; plain = refl }
fault_has f texts (NoStatus n) other = record { error = _; is = refl; plain = refl }
fault_has f texts Memory other = cc

has_error : (f : native.Native) (texts : List Bytes) (cause : Cause) → ((v : Value) → cause ≡ Raises v → ⊥) → is_memory cause ≡ false → HasError f texts cause
has_error f texts (Wants argument expected got) own other =
    record { error = _; is = refl; plain = ap (λ (t : Bytes). meant.str (bad_argument f argument (expected_text expected ++ (codes " expected, got " ++ t)))) (same_type texts got) }
has_error f texts (By fault) own other = fault_has f texts fault other
has_error f texts (NoText number value) own other =
    record { error = _; is = refl; plain = ap (λ (t : Bytes). meant.str (codes "invalid value (" ++ (t ++ (codes ") at index " ++ (signed_decimal number ++ codes " in table for 'concat'"))))) (same_type texts value) }
has_error f texts (Raises v) own other = absurd (own v refl)

placed_value : (f : native.Native) (at : Place) (texts : List Bytes) (cause : Cause) → ((v : Value) → cause ≡ Raises v → ⊥) → cause_value f at texts cause ≡ meant.str (placed_text f at cause)
placed_value f at texts (Wants argument expected got) own = refl
placed_value f at texts (By fault) own = refl
placed_value f at texts (NoText number value) own = refl
placed_value f at texts (Raises v) own = absurd (own v refl)

-- ---- whoever called the function

top_place : (m : EngineView) (f : Frame) (before : List Frame) → m.frames ≡ before ++ f ∷ [] → caller (places (frames_of m)) ≡ frames.place_of (frame_in m.chunks (kept_in m.heap.texts m.extras f.extra_base m.extra_base) f)
top_place m f before were =
    ap (λ (fs : List Frame). caller (places (frames_below m.heap.texts m.chunks m.extras m.extra_base (reverse fs)))) were
    ∙ ap (λ (fs : List Frame). caller (places (frames_below m.heap.texts m.chunks m.extras m.extra_base fs))) (reverse-append before (f ∷ []))

pub no_caller : (m : EngineView) → m.frames ≡ [] → IsCaller None m
no_caller m none = ap (λ (fs : List Frame). caller (places (frames_below m.heap.texts m.chunks m.extras m.extra_base (reverse fs)))) none

pub library_caller : (m : EngineView) (f : Frame) (duty : Duty) → IsTop (Some f) m.frames → f.role ≡ Serves duty → IsCaller None m
library_caller m f duty top role =
    top_place m f top.0 top.1
    ∙ ap (λ (r : Role). frames.place_of (frame_as r m.chunks (kept_in m.heap.texts m.extras f.extra_base m.extra_base) f)) role

pub lua_caller : (m : EngineView) (f : Frame) (wants : frame.Wants) → AreFit m → IsTop (Some f) m.frames → f.role ≡ Waits wants → IsCaller (Some f) m
lua_caller m f wants fit top role =
    let paused = top_paused m fit top.0 f top.1 wants role in
    let known = paused.placed.known in
    let inside = paused.placed.inside in
    let long = (sound_at m f.chunk f.func fit known).held.sites in
    record {
      place =
          top_place m f top.0 top.1
          ∙ ap (λ (r : Role). frames.place_of (frame_as r m.chunks (kept_in m.heap.texts m.extras f.extra_base m.extra_base) f)) role;
      known = known;
      inside = omega (arith, inside, long);
    }

module _ (f : Native) (cause : Cause) (value : Value) (m new : EngineView) (own : (v : Value) → cause ≡ Raises v → ⊥) (other : is_memory cause ≡ false) where
  pub fails_placed : (frame : Frame) → IsCallerOf frame m → IsText (placed_text (native_view f) (place_of m.chunks frame) cause) value m new → Failed f cause value m new
  fails_placed frame is_caller text =
      let has = has_error (native_view f) m.heap.texts cause own other in
      record {
        error = has.error;
        is = has.is;
        value_is =
            text.value_is
            ∙ sym (placed_value (native_view f) (place_of m.chunks frame) m.heap.texts cause own)
            ∙ sym (error-value (native_view f) (place_of m.chunks frame) m.heap.texts cause has.error has.is)
            ∙ ap (λ (o : Option Place). fault_value (native_view f) o has.error) (sym is_caller.place);
        made = text.made;
        same = text.same;
        fit = text.fit;
      }

  pub fails_plain : IsCaller None m → IsText (cause_text (native_view f) cause) value m new → Failed f cause value m new
  fails_plain none text =
      let has = has_error (native_view f) m.heap.texts cause own other in
      record {
        error = has.error;
        is = has.is;
        value_is = text.value_is ∙ sym has.plain ∙ ap (λ (o : Option Place). fault_value (native_view f) o has.error) (sym none);
        made = text.made;
        same = text.same;
        fit = text.fit;
      }

-- a value that a program gave
pub fails_own : (f : Native) (cause : Cause) (v value : Value) (m : EngineView) → cause ≡ Raises v → value ≡ v → IsMade m.heap value → AreFit m → Failed f cause value m m
fails_own f cause v value m is same made fit =
    subst (λ (x : Cause). Failed f x value m m) (sym is)
    (record { error = _; is = refl; value_is = ap (value_view m.heap.texts) same; made = made; same = λ past. refl; fit = fit })

pub owns : {E : Type 0} (o : Result Value E) (f : Native) (cause : Cause) (v : Value) (m : EngineView) → cause ≡ Raises v → IfOk o (λ same. same ≡ v) → IfOk o (λ same. IsMade m.heap same) → AreFit m → IfOk o (λ value. Failed f cause value m m)
owns (Ok value) f cause v m is same made fit = fails_own f cause v value m is same made fit
owns (Err e) f cause v m is same made fit = same
