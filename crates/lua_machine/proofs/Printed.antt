-- What `print` comes to.
use Rattle.std.proofs.Common.{◌≡◌, ℕ, ℤ, zero, suc, ◌+◌, ◌-◌, ◌<◌, ◌≤◌, List, [], ◌∷◌, ◌++◌, length, map, take, drop, refl, sym, ap, ◌∙◌, subst, Option, Some, None, arith}
use Rattle.std.specs.Prelude.{codes, set}
use Rattle.std.proofs.lemmas.List.{take_all, take-take, drop_all, drop-append-le, take-append-le, length-take-le, length-drop, length-append, map-append}
use Rattle.lua_tree.specs.Tree.{Bytes}
use Rattle.lua_meaning.specs.Value as meant
use Rattle.lua_meaning.specs.World.{Outcome, given}
use Rattle.lua_meaning.specs.Text.{as_text}
use Rattle.lua_meaning.specs.Store.{handler}
use Rattle.lua_meaning.specs.Control.{line_of}
use Rattle.lua_heap.specs.declared.native.Native.TheVariants as natives
use Rattle.lua_heap.specs.declared.value.Value.{Value}
use Rattle.lua_heap.specs.declared.value.Value.TheVariants.{Nil, Bool as Flag, Num, Str, Table, Func, Native, Channel, Thread, Data}
use Rattle.lua_heap.specs.Value.{value_view}
use Rattle.lua_heap.specs.Heap.{store_of}
use Rattle.lua_heap.proofs.Callers.{Extends-same}
use Rattle.lua_code.specs.State as s
use Rattle.lua_code.specs.State.{Registers, State, Config, Step}
use Rattle.lua_code.specs.Frames.{printing, printed, add_line, finish}
use Rattle.lua_code.specs.Natives.{Program}
use Rattle.lua_machine.specs.declared.frame.Duty.TheVariants as duties
use Rattle.lua_machine.specs.declared.frame.Frame.{Frame}
use Rattle.lua_machine.specs.declared.printing.Asked.{Asked}
use Rattle.lua_machine.specs.declared.status.Status.{Status}
use Rattle.lua_machine.specs.declared.status.Status.TheVariants.{Raises}
use Rattle.lua_machine.specs.Past.{Past, no_past}
use Rattle.lua_machine.specs.View.{EngineView, value_at, text_of, frames_of, registers_of, state_of}
use Rattle.lua_machine.specs.Made.{IsEngine}
use Rattle.lua_machine.specs.Ready.{IsServing}
use Rattle.lua_machine.specs.Does.{finishing, with_line}
use Rattle.lua_machine.specs.Serving.{IsRefusal}
use Rattle.lua_machine.specs.Fulfilling.{Fulfils}
use Rattle.lua_machine.specs.Back.{kept_of, args_of, FewFrames, CallsBack}
use Rattle.lua_machine.specs.Basics.{ServedAlone}
use Rattle.lua_machine.specs.Printing.{texts_in, out_of, printing_step, line_step, Passes, IsAsked, PassesTo, PrintsLine, PrintsFrom, KeepsText}
use Rattle.lua_machine.proofs.Called.{frames_long}
use Rattle.lua_machine.proofs.Answered.{raises_value}
use Rattle.lua_machine.proofs.Passing.{keeping, moved, keeping_serving, kept_is, kept_long, kept_next, kept_instead, instead_below, instead_taken, instead_left, asks_on}

-- ---- the line

pub line_comes : (m : EngineView) (line : Bytes) → line ≡ line_of (texts_in m.heap.texts (drop m.extra_base m.extras)) → (past : Past) → line_step past m ≡ finishing (given []) (with_line line past) m
line_comes m line is past =
    ap (λ (vs : List meant.Value). ends_with (line_of (map text_of vs))) (kept_is m)
    ∙ ap ends_with (sym is)
  where
    ends_with : Bytes → Step
    ends_with bytes = finish (given []) (frames_of m) (registers_of m) (add_line bytes (state_of past m))

pub rest_taken : (xs ys : List Value) (b : ℕ) → xs ≡ ys → take (length xs - b) (drop b xs) ≡ drop b ys
rest_taken xs ys b same = take_all (length xs - b) (drop b xs) (let e = length-drop b xs in omega (arith, e)) ∙ ap (drop b) same

-- ---- values are passed

pub passes_none : (m : EngineView) (n : ℕ) → IsServing m → Passes n n m m
passes_none m n r = record { step = λ past. refl; ready = r; base = refl; long = refl; frames = refl }

pub passes_on : (a b c : ℕ) (m mid new : EngineView) → Passes a b m mid → Passes b c mid new → Passes a c m new
passes_on a b c m mid new one two =
    record {
      step = λ past. one.step past ∙ two.step past;
      ready = two.ready;
      base = two.base ∙ one.base;
      long = two.long ∙ one.long;
      frames = two.frames ∙ one.frames;
    }

-- behind the last one the whole line is there
pub passes_all : (from n : ℕ) (m new : EngineView) → Passes from n m new → length new.extras - new.extra_base ≤ n → PassesTo from None m new
passes_all from n m new p le = (
  λ past.
      p.step past
      ∙ ap (λ (vs : List meant.Value). printing (map text_of vs) (drop n (kept_of new)) (frames_of new) new.base new.cell_base (registers_of new) (state_of past new) (out_of new)) (take_all n (kept_of new) long)
      ∙ ap (λ (vs : List meant.Value). printing (map text_of (kept_of new)) vs (frames_of new) new.base new.cell_base (registers_of new) (state_of past new) (out_of new)) (drop_all n (kept_of new) long),
  p.ready,
  p.frames,
)
  where
    long : length (kept_of new) ≤ n
    long = let e = kept_long new in omega (arith, e, le)

-- ---- `print` goes on

few_as : (status : Status) (m mid new : EngineView) → mid.frames ≡ m.frames → FewFrames status (length mid.frames) new → FewFrames status (length m.frames) new
few_as status m mid new same few = subst (λ (fs : List Frame). FewFrames status (length fs) new) same few

pub prints_asking : (from : ℕ) (asked : Asked) (v : Value) (status : Status) (m mid new : EngineView) → PassesTo from (Some asked) m mid → v ≡ value_at mid.extras (mid.extra_base + asked.number) → CallsBack (duties.Prints asked.number) asked.handler status (record mid { args = v ∷ [] }) new → PrintsFrom from status m new
prints_asking from asked v status m mid new to v_is back =
    let passed = to.0 in
    let has = to.1 in
    let n = asked.number in
    record {
      came = record {
        step = λ past.
            passed.step past
            ∙ ap (λ (vs : List meant.Value). printing (map text_of (take n (kept_of mid))) vs (frames_of mid) mid.base mid.cell_base (registers_of mid) (state_of past mid) (out_of mid))
            (kept_next mid n has.inside ∙ ap (λ (w : Value). value_view mid.heap.texts w ∷ drop (suc n) (kept_of mid)) (sym v_is))
            ∙ asks_on mid past (map text_of (take n (kept_of mid))) (value_view mid.heap.texts v) (drop (suc n) (kept_of mid)) (value_view mid.heap.texts asked.handler)
            (subst (λ (w : Value). value_view mid.heap.texts asked.handler ≡ handler_of w) (sym v_is) has.is) has.some
            ∙ back.came.step past;
        kept = back.came.kept;
      };
      few = few_as status m mid new passed.frames back.few;
    }
  where
    handler_of : Value → meant.Value
    handler_of w = handler (store_of mid.heap) (value_view mid.heap.texts w) (codes "__tostring")

pub prints_all : (from : ℕ) (status : Status) (m mid new : EngineView) → PassesTo from None m mid → PrintsLine status mid new → PrintsFrom from status m new
prints_all from status m mid new to line =
    record {
      came = record { step = λ past. to.0 past ∙ line.came.step past; kept = line.came.kept };
      few = few_as status m mid new to.2 line.few;
    }

-- ---- `print` begins

module _ (m : EngineView) (is : IsEngine m) where
  abbrev arguments_kept : List Value
  arguments_kept = take m.extra_base m.extras ++ m.args

  taken_long : length (take m.extra_base m.extras) ≡ m.extra_base
  taken_long = length-take-le m.extra_base m.extras is.extra

  kept_below : take m.extra_base arguments_kept ≡ take m.extra_base m.extras
  kept_below =
      take-append-le m.extra_base (take m.extra_base m.extras) m.args (let e = taken_long in omega (arith, e))
      ∙ take-take m.extra_base m.extra_base m.extras (omega arith)

  pub args_kept : kept_of (keeping m m.heap arguments_kept) ≡ args_of m
  args_kept =
      kept_is (keeping m m.heap arguments_kept)
      ∙ ap (map (value_view m.heap.texts)) (
      drop-append-le m.extra_base (take m.extra_base m.extras) m.args (let e = taken_long in omega (arith, e))
      ∙ ap (λ (vs : List Value). vs ++ m.args) (drop_all m.extra_base (take m.extra_base m.extras) (let e = taken_long in omega (arith, e))))

  pub begins_serving : IsServing m → IsServing (keeping m m.heap arguments_kept)
  begins_serving r = keeping_serving m m.heap arguments_kept is (Extends-same m.heap) refl refl kept_below r

  pub prints_args : (status : Status) (new : EngineView) → PrintsFrom 0 status (keeping m m.heap arguments_kept) new → ServedAlone natives.Print status m new
  prints_args status new done = λ program. record {
    step = λ past.
        sym (moved m m.heap arguments_kept is (Extends-same m.heap) refl refl kept_below (λ fs r st. printing [] (args_of m) fs m.base m.cell_base r st (λ o st. finish o fs r st)) past)
        ∙ ap (λ (vs : List meant.Value). printing [] vs (frames_of (keeping m m.heap arguments_kept)) m.base m.cell_base (registers_of (keeping m m.heap arguments_kept)) (state_of past (keeping m m.heap arguments_kept)) (out_of (keeping m m.heap arguments_kept))) (sym args_kept)
        ∙ done.came.step past;
    kept = done.came.kept;
  }

-- ---- a text is kept

module _ (m : EngineView) (is : IsEngine m) (count : ℕ) (v : Value) where
  pub keeps_instead : m.extra_base + count < length m.extras → KeepsText count v (count + 1) m (record m { extras = set m.extras (m.extra_base + count) v })
  keeps_instead lt =
      record {
        extras = set m.extras (m.extra_base + count) v;
        is = refl;
        below = instead_below m count lt m.heap is (Extends-same m.heap) v;
        texts = subst (λ k. take k (kept_of new) ≡ take count (kept_of m) ++ value_view m.heap.texts v ∷ []) next (instead_taken m count lt m.heap is (Extends-same m.heap) v);
        rest = subst (λ k. drop k (kept_of new) ≡ drop (suc count) (kept_of m)) next (instead_left m count lt m.heap is (Extends-same m.heap) v);
      }
    where
      next : suc count ≡ count + 1
      next = omega arith

      new : EngineView
      new = record m { extras = set m.extras (m.extra_base + count) v }

  pub keeps_behind : length m.extras - m.extra_base ≤ count → KeepsText count v (length m.extras - m.extra_base + 1) m (record m { extras = m.extras ++ v ∷ [] })
  keeps_behind le =
      record {
        extras = m.extras ++ v ∷ [];
        is = refl;
        below = take-append-le m.extra_base m.extras (v ∷ []) is.extra;
        texts = take_all (length m.extras - m.extra_base + 1) (kept_of new) (omega (arith, longer)) ∙ more ∙ ap (λ (vs : List meant.Value). vs ++ value_view m.heap.texts v ∷ []) (sym (take_all count (kept_of m) (omega (arith, le, long))));
        rest = drop_all (length m.extras - m.extra_base + 1) (kept_of new) (omega (arith, longer)) ∙ sym (drop_all (suc count) (kept_of m) (omega (arith, le, long)));
      }
    where
      new : EngineView
      new = record m { extras = m.extras ++ v ∷ [] }

      long : length (kept_of m) ≡ length m.extras - m.extra_base
      long = kept_long m

      more : kept_of new ≡ kept_of m ++ value_view m.heap.texts v ∷ []
      more =
          kept_is new
          ∙ ap (map (value_view m.heap.texts)) (drop-append-le m.extra_base m.extras (v ∷ []) is.extra)
          ∙ map-append (value_view m.heap.texts) (drop m.extra_base m.extras) (v ∷ [])
          ∙ ap (λ (vs : List meant.Value). vs ++ value_view m.heap.texts v ∷ []) (sym (kept_is m))

      longer : length (kept_of new) ≡ length m.extras - m.extra_base + 1
      longer = ap (λ (vs : List meant.Value). length vs) more ∙ length-append (kept_of m) (value_view m.heap.texts v ∷ []) ∙ (let e = long in omega (arith, e))

-- ---- results

abbrev fulfils_printed : EngineView → Past → (count : ℕ) → Option Bytes → Step
fulfils_printed m past count text = printed (map text_of (take count (kept_of m))) (drop (suc count) (kept_of m)) text (frames_of m) m.base m.cell_base (registers_of m) (state_of past m) (out_of m)

-- a text goes on
pub takes_text : (m mid new : EngineView) (count next : ℕ) (v : Value) (status : Status) → IsEngine m → value_view m.heap.texts v ≡ meant.first (args_of m) → as_text (value_view m.heap.texts v) ≡ Some (text_of (value_view m.heap.texts v)) → KeepsText count v next m mid → PrintsFrom next status mid new → Fulfils (duties.Prints count) status m new
takes_text m mid new count next v status is first text keeps done =
    record {
      came = record {
        step = λ past.
            ap (λ (w : meant.Value). fulfils_printed m past count (as_text w)) (sym first)
            ∙ ap (fulfils_printed m past count) text
            ∙ sym (moved m m.heap keeps.extras is (Extends-same m.heap) refl refl keeps.below (λ fs r st. printing (map text_of (take count (kept_of m)) ++ text_of (value_view m.heap.texts v) ∷ []) (drop (suc count) (kept_of m)) fs m.base m.cell_base r st (λ o st. finish o fs r st)) past)
            ∙ ap (λ (ts : List Bytes). printing ts (drop (suc count) (kept_of m)) (frames_of y) y.base y.cell_base (registers_of y) (state_of past y) (out_of y)) made_so
            ∙ ap (λ (vs : List meant.Value). printing (map text_of (take next (kept_of y))) vs (frames_of y) y.base y.cell_base (registers_of y) (state_of past y) (out_of y)) (sym left_so)
            ∙ ap (λ (z : EngineView). printing_step next past z) (sym keeps.is)
            ∙ done.came.step past;
        kept = done.came.kept;
      };
      few = few_as status m mid new (ap (λ (z : EngineView). z.frames) keeps.is) done.few;
    }
  where
    y : EngineView
    y = keeping m m.heap keeps.extras

    made_so : map text_of (take count (kept_of m)) ++ text_of (value_view m.heap.texts v) ∷ [] ≡ map text_of (take next (kept_of y))
    made_so =
        sym (map-append text_of (take count (kept_of m)) (value_view m.heap.texts v ∷ []))
        ∙ ap (λ (vs : List meant.Value). map text_of vs) (sym keeps.texts)
        ∙ ap (λ (z : EngineView). map text_of (take next (kept_of z))) keeps.is

    left_so : drop next (kept_of y) ≡ drop (suc count) (kept_of m)
    left_so = ap (λ (z : EngineView). drop next (kept_of z)) (sym keeps.is) ∙ keeps.rest

-- what is no text is an error
pub takes_none : (m new : EngineView) (count : ℕ) (v error : Value) → value_view m.heap.texts v ≡ meant.first (args_of m) → as_text (value_view m.heap.texts v) ≡ None → IsRefusal (codes "'tostring' must return a string to 'print'") error m new → Fulfils (duties.Prints count) (Raises error) m new
takes_none m new count v error first none text =
    record {
      came = record {
        step = λ past.
            ap (λ (w : meant.Value). fulfils_printed m past count (as_text w)) (sym first)
            ∙ ap (fulfils_printed m past count) none
            ∙ raises_value _ error m new text.value_is text.same past;
        kept = (text.made, text.fit);
      };
      few =
          let same = ap (λ (c : Config). length c.frames) (text.same no_past) in
          let long = frames_long m in
          let long_new = frames_long new in
          omega (arith, same, long, long_new);
    }

-- ---- by what the engine was seen as

pub keeps_seen : (e m : EngineView) → e ≡ m → IsEngine e → (count : ℕ) (v : Value) → e.extra_base + count < length e.extras → KeepsText count v (count + 1) m (record e { extras = set e.extras (e.extra_base + count) v })
keeps_seen e m seen is count v lt = subst (λ (y : EngineView). KeepsText count v (count + 1) y (record e { extras = set e.extras (e.extra_base + count) v })) seen (keeps_instead e is count v lt)

pub keeps_last : (e m : EngineView) → e ≡ m → IsEngine e → (count : ℕ) (v : Value) → length e.extras - e.extra_base ≤ count → KeepsText count v (length e.extras - e.extra_base + 1) m (record e { extras = e.extras ++ v ∷ [] })
keeps_last e m seen is count v le = subst (λ (y : EngineView). KeepsText count v (length e.extras - e.extra_base + 1) y (record e { extras = e.extras ++ v ∷ [] })) seen (keeps_behind e is count v le)

-- what has no text
pub no_text : (texts : List Bytes) (v : Value) → ((n : ℤ) → v ≡ Num n → ⊥) → ((id : ℕ) → v ≡ Str id → ⊥) → as_text (value_view texts v) ≡ None
no_text texts (Num n) number text = absurd (number n refl)
no_text texts (Str id) number text = absurd (text id refl)
no_text texts Nil number text = refl
no_text texts (Flag b) number text = refl
no_text texts (Table id) number text = refl
no_text texts (Func id) number text = refl
no_text texts (Native f) number text = refl
no_text texts (Channel n) number text = refl
no_text texts (Thread n) number text = refl
no_text texts (Data id) number text = refl
