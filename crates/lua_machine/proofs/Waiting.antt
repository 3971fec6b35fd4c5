-- Frames that wait, as the definitions have them.
use Rattle.std.proofs.Common.{◌≡◌, ℕ, zero, suc, ◌≤◌, List, [], ◌∷◌, ◌++◌, length, take, drop, refl, sym, ap, ◌∙◌, subst, Some, arith}
use Rattle.std.specs.Prelude.{reverse, map}
use Rattle.std.specs.List.{AllByRecursion}
use Rattle.std.proofs.lemmas.List.{reverse-append, take_all, take-take, length-take-le}
use Rattle.lua_tree.specs.Tree.{Bytes}
use Rattle.lua_heap.specs.declared.value.Value.{Value}
use Rattle.lua_heap.specs.Value.{value_view, IsCounted}
use Rattle.lua_heap.specs.Heap.{counts}
use Rattle.lua_code.specs.State.{waits}
use Rattle.lua_code.specs.Act.{next}
use Rattle.lua_code.specs.State as s
use Rattle.lua_machine.specs.declared.frame.Wants.{Wants}
use Rattle.lua_machine.specs.declared.frame.Duty.{Duty}
use Rattle.lua_machine.specs.declared.frame.Role.{Role}
use Rattle.lua_machine.specs.declared.frame.Role.TheVariants.{Waits, Serves}
use Rattle.lua_machine.specs.declared.frame.Frame.{Frame}
use Rattle.lua_machine.specs.declared.chunk.Chunk.{Chunk}
use Rattle.lua_machine.specs.View.{EngineView, wants_view, place_of, kept_in, duty_view, frame_as, frame_in, frames_below, frames_of, run_of}
use Rattle.lua_machine.specs.Made.{AreBelow, IsEngine}
use Rattle.lua_machine.specs.Frames.{waiting, pushed, resumed, taken_off}
use Rattle.lua_machine.specs.Entering.{serving_frame, pushed_duty}
use Rattle.lua_machine.specs.Back.{kept_of, back_frames}

reverse_last : (fs : List Frame) (f : Frame) → reverse (fs ++ f ∷ []) ≡ f ∷ reverse fs
reverse_last fs f = reverse-append fs (f ∷ [])

-- ---- one more waits

pub pushed_is : (m : EngineView) (wants : Wants) → IsEngine m → IsEngine (pushed m wants)
pushed_is m wants is =
    record {
      events = is.events;
      extra = omega arith;
      below = subst (AreBelow (length m.extras)) (sym (reverse_last m.frames (waiting m wants))) (is.extra, is.below);
      values = is.values;
      tail = is.tail;
      extras = is.extras;
      args = is.args;
      cells = is.cells;
      chunks = is.chunks;
      modules = is.modules;
    }

pub pushed_duty_is : (m : EngineView) (duty : Duty) → IsEngine m → IsEngine (pushed_duty m duty)
pushed_duty_is m duty is =
    record {
      events = is.events;
      extra = omega arith;
      below = subst (AreBelow (length m.extras)) (sym (reverse_last m.frames (serving_frame duty m))) (is.extra, is.below);
      values = is.values;
      tail = is.tail;
      extras = is.extras;
      args = is.args;
      cells = is.cells;
      chunks = is.chunks;
      modules = is.modules;
    }

pub pushed_duty_frames : (m : EngineView) (duty : Duty) → frames_of (pushed_duty m duty) ≡ back_frames duty m
pushed_duty_frames m duty = ap (frames_below m.heap.texts m.chunks m.extras (length m.extras)) (reverse_last m.frames (serving_frame duty m))

pub pushed_frames : (m : EngineView) (wants : Wants) → frames_of (pushed m wants) ≡ waits (next (run_of m)) (wants_view wants) (Some (place_of m.chunks (waiting m wants))) ∷ frames_of m
pushed_frames m wants = ap (frames_below m.heap.texts m.chunks m.extras (length m.extras)) (reverse_last m.frames (waiting m wants))

-- ---- one goes on

made_taken : (P : Value → Type 0) (n : ℕ) (xs : List Value) → AllByRecursion P xs → AllByRecursion P (take n xs)
made_taken P zero xs all = tt
made_taken P (suc n) [] all = tt
made_taken P (suc n) (x ∷ xs) all = (all.0, made_taken P n xs all.1)

-- extra arguments below a place, where those from there on are gone
same_below : (texts : List Bytes) (chunks : List Chunk) (extras : List Value) (base top : ℕ) (fs : List Frame) → top ≤ base → AreBelow top fs → frames_below texts chunks (take base extras) top fs ≡ frames_below texts chunks extras top fs
same_below texts chunks extras base top [] le below = refl
same_below texts chunks extras base top (g ∷ fs) le below =
    ap (λ (xs : List Value). frame_in chunks (map (value_view texts) (drop g.extra_base xs)) g ∷ frames_below texts chunks (take base extras) g.extra_base fs) (take-take top base extras le)
    ∙ ap (λ (rest : List s.Frame). frame_in chunks (kept_in texts extras g.extra_base top) g ∷ rest) (same_below texts chunks extras base g.extra_base fs (let b = below.0 in omega (arith, le, b)) below.1)

module _ (m : EngineView) (is : IsEngine m) (frames : List Frame) (f : Frame) (were : m.frames ≡ frames ++ f ∷ []) where
  on_top : reverse m.frames ≡ f ∷ reverse frames
  on_top = ap (λ (fs : List Frame). reverse fs) were ∙ reverse_last frames f

  below_top : AreBelow m.extra_base (f ∷ reverse frames)
  below_top = subst (AreBelow m.extra_base) on_top is.below

  taken : length (take m.extra_base m.extras) ≡ m.extra_base
  taken = length-take-le m.extra_base m.extras is.extra

  pub resumed_is : IsEngine (resumed m frames f)
  resumed_is =
      record {
        events = is.events;
        extra = let b = below_top.0 in omega (arith, b, taken);
        below = below_top.1;
        values = is.values;
        tail = is.tail;
        args = is.args;
        extras = made_taken (IsCounted (counts m.heap)) m.extra_base m.extras is.extras;
        cells = is.cells;
        chunks = is.chunks;
        modules = is.modules;
      }

  pub taken_off_is : IsEngine (taken_off m frames f)
  taken_off_is =
      let all = resumed_is in
      record {
        events = is.events;
        extra = all.extra;
        below = all.below;
        values = is.values;
        tail = is.tail;
        args = is.args;
        extras = all.extras;
        cells = is.cells;
        chunks = is.chunks;
        modules = is.modules;
      }

  -- it was the first that waited, with its extra arguments or what it keeps
  pub top_frame : frames_of m ≡ frame_in m.chunks (kept_in m.heap.texts (take m.extra_base m.extras) f.extra_base (length (take m.extra_base m.extras))) f ∷ frames_of (taken_off m frames f)
  top_frame =
      ap (frames_below m.heap.texts m.chunks m.extras m.extra_base) on_top
      ∙ ap (λ (xs : List Value). frame_in m.chunks (map (value_view m.heap.texts) (drop f.extra_base xs)) f ∷ frames_below m.heap.texts m.chunks m.extras f.extra_base (reverse frames)) (sym (take_all (length (take m.extra_base m.extras)) (take m.extra_base m.extras) (omega arith)))
      ∙ ap (λ (rest : List s.Frame). frame_in m.chunks (kept_in m.heap.texts (take m.extra_base m.extras) f.extra_base (length (take m.extra_base m.extras))) f ∷ rest) (sym (same_below m.heap.texts m.chunks m.extras m.extra_base f.extra_base (reverse frames) below_top.0 below_top.1))

  -- a function of Lua
  pub resumed_frames : (wants : Wants) → f.role ≡ Waits wants → frames_of m ≡ waits (run_of (resumed m frames f)) (wants_view wants) (Some (place_of m.chunks f)) ∷ frames_of (resumed m frames f)
  resumed_frames wants role =
      top_frame
      ∙ ap (λ (r : Role). frame_as r m.chunks (kept_in m.heap.texts (take m.extra_base m.extras) f.extra_base (length (take m.extra_base m.extras))) f ∷ frames_of (resumed m frames f)) role

  -- one of the library
  pub duty_frames : (duty : Duty) → f.role ≡ Serves duty → frames_of m ≡ s.serves (duty_view duty (kept_of (taken_off m frames f))) f.base f.cell_base ∷ frames_of (taken_off m frames f)
  duty_frames duty role =
      top_frame
      ∙ ap (λ (r : Role). frame_as r m.chunks (kept_in m.heap.texts (take m.extra_base m.extras) f.extra_base (length (take m.extra_base m.extras))) f ∷ frames_of (taken_off m frames f)) role
