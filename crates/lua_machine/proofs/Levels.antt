-- Who called the caller.
use Rattle.std.proofs.Common.{◌≡◌, ℕ, ℤ, zero, suc, ◌-◌, ◌<◌, ◌≤◌, List, [], ◌∷◌, ◌++◌, length, refl, sym, ap, ◌∙◌, subst, Option, Some, None, slice_get, get_or, arith}
use Rattle.std.specs.Prelude.{reverse, drop, IfSome, pos, negsuc}
use Rattle.std.proofs.lemmas.List.{reverse-append, length-reverse}
use Rattle.std.proofs.lemmas.Option.{none-some, same_Some, slice_get-get_or}
use Rattle.lua_tree.specs.Tree.{Bytes}
use Rattle.lua_meaning.specs.Value as meant
use Rattle.lua_meaning.specs.Fault.{Place, placed}
use Rattle.lua_meaning.specs.Calls.{Calls, caller}
use Rattle.lua_meaning.specs.Control.{level_place, error_value}
use Rattle.lua_heap.specs.declared.value.Value.{Value}
use Rattle.lua_heap.specs.declared.value.Value.TheVariants.{Nil, Bool as Flag, Num, Str, Table, Func, Native, Channel, Thread, Data}
use Rattle.lua_heap.specs.Value.{value_view}
use Rattle.lua_heap.specs.Heap.{IsMade}
use Rattle.lua_code.specs.Frames as frames
use Rattle.lua_code.specs.Frames.{places}
use Rattle.lua_machine.specs.declared.frame.Wants.{Wants}
use Rattle.lua_machine.specs.declared.frame.Duty.{Duty}
use Rattle.lua_machine.specs.declared.frame.Role.{Role}
use Rattle.lua_machine.specs.declared.frame.Role.TheVariants.{Waits, Serves}
use Rattle.lua_machine.specs.declared.frame.Frame.{Frame}
use Rattle.lua_machine.specs.View.{EngineView, place_of, kept_in, frame_as, frame_in, frames_below, frames_of}
use Rattle.lua_machine.specs.Ready.{IsPaused, IsWaiting, IsWaitingAs, AreFit}
use Rattle.lua_machine.specs.Serving.{IsCaller, IsText}
use Rattle.lua_machine.specs.Refusing.{frame_place, outer, HasSite, IsOuter, IsValue}
use Rattle.lua_machine.proofs.Keeping.{all_in, sound_at}

-- the last but one of a list
pub record IsSecond {A : Type 0} (x : A) (xs : List A) : Type 0 where
  pub before : List A
  pub last : A
  pub is : xs ≡ (before ++ x ∷ []) ++ last ∷ []

pub second_last : {A : Type 0} (xs : List A) (x : A) → 2 ≤ length xs → slice_get xs (length xs - 2) ≡ Some x → IsSecond x xs
second_last [] x le at = absurd (let e : ⊥ = omega (arith, le) in e)
second_last (a ∷ []) x le at = absurd (let e : ⊥ = omega (arith, le) in e)
second_last (a ∷ b ∷ []) x le at = record { before = []; last = b; is = ap (λ y. y ∷ b ∷ []) (same_Some a x at) }
second_last (a ∷ b ∷ c ∷ xs) x le at =
    let e : length (a ∷ b ∷ c ∷ xs) - 2 ≡ suc (length (b ∷ c ∷ xs) - 2) = omega arith in
    let rest = second_last (b ∷ c ∷ xs) x (omega arith) (subst (λ n. slice_get (a ∷ b ∷ c ∷ xs) n ≡ Some x) e at) in
    record { before = a ∷ rest.before; last = rest.last; is = ap (λ ys. a ∷ ys) rest.is }

-- the frame below the top one
outer_place : (m : EngineView) (f : Frame) (s : IsSecond f m.frames) → outer m ≡ frames.place_of (frame_in m.chunks (kept_in m.heap.texts m.extras f.extra_base s.last.extra_base) f)
outer_place m f s =
    ap (λ (fs : List Frame). caller (drop 1 (places (frames_below m.heap.texts m.chunks m.extras m.extra_base fs))))
    (ap (λ (fs : List Frame). reverse fs) s.is ∙ reverse-append (s.before ++ f ∷ []) (s.last ∷ []) ∙ ap (λ (fs : List Frame). s.last ∷ fs) (reverse-append s.before (f ∷ [])))

-- there are fewer
few_frames : (m : EngineView) (fs : List Frame) (top : ℕ) → length fs < 2 → caller (drop 1 (places (frames_below m.heap.texts m.chunks m.extras top fs))) ≡ None
few_frames m [] top lt = refl
few_frames m (f ∷ []) top lt = refl
few_frames m (f ∷ g ∷ fs) top lt = absurd (let e : ⊥ = omega (arith, lt) in e)

pub no_outer : (m : EngineView) → length m.frames < 2 → IsOuter None m
no_outer m lt = few_frames m (reverse m.frames) m.extra_base (let e = length-reverse m.frames in omega (arith, lt, e))

pub library_outer : (m : EngineView) (f : Frame) (duty : Duty) → 2 ≤ length m.frames → slice_get m.frames (length m.frames - 2) ≡ Some f → f.role ≡ Serves duty → IsOuter None m
library_outer m f duty le at role =
    let s = second_last m.frames f le at in
    outer_place m f s ∙ ap (λ (r : Role). frames.place_of (frame_as r m.chunks (kept_in m.heap.texts m.extras f.extra_base s.last.extra_base) f)) role

pub lua_outer : (m : EngineView) (f : Frame) (wants : Wants) → AreFit m → 2 ≤ length m.frames → slice_get m.frames (length m.frames - 2) ≡ Some f → f.role ≡ Waits wants → IsOuter (Some f) m
lua_outer m f wants fit le at role =
    let s = second_last m.frames f le at in
    let waits = all_in (IsWaiting m.chunks (length m.values) (length m.cells)) m.frames (length m.frames - 2) f at fit.frames in
    let paused : IsPaused m.chunks (length m.values) (length m.cells) wants f = subst (λ (r : Role). IsWaitingAs r m.chunks (length m.values) (length m.cells) f) role waits in
    let known = paused.placed.known in
    let inside = paused.placed.inside in
    let long = (sound_at m f.chunk f.func fit known).held.sites in (
      outer_place m f s ∙ ap (λ (r : Role). frames.place_of (frame_as r m.chunks (kept_in m.heap.texts m.extras f.extra_base s.last.extra_base) f)) role,
      record { known = known; inside = omega (arith, inside, long) },
    )

-- what stands at a place
pub found_at : (xs ys : List Frame) (count : ℕ) (f : Frame) → xs ≡ ys → count ≡ length xs → 2 ≤ count → f ≡ get_or xs (count - 2) f → (2 ≤ length ys) × (slice_get ys (length ys - 2) ≡ Some f)
found_at xs ys count f same long le at =
    subst (λ (zs : List Frame). (2 ≤ length zs) × (slice_get zs (length zs - 2) ≡ Some f)) same (
      omega (arith, le, long),
      subst (λ k. slice_get xs (k - 2) ≡ Some f) long (slice_get-get_or xs (count - 2) f (omega (arith, long, le)) ∙ ap (λ (x : Frame). Some x) (sym at)),
    )

-- ---- places before texts

pub caller_site : (o : Option Frame) (m : EngineView) → IsCaller o m → IfSome o (λ f. HasSite f m)
caller_site None m is = tt
caller_site (Some f) m is = record { known = is.known; inside = is.inside }

pub caller_place : (o : Option Frame) (m : EngineView) → IsCaller o m → frame_place m.chunks o ≡ caller (places (frames_of m))
caller_place None m is = sym is
caller_place (Some f) m is = sym is.place

pub outer_site : (o : Option Frame) (m : EngineView) → IsOuter o m → IfSome o (λ f. HasSite f m)
outer_site None m is = tt
outer_site (Some f) m is = is.1

pub outer_is : (o : Option Frame) (m : EngineView) → IsOuter o m → frame_place m.chunks o ≡ outer m
outer_is None m is = sym is
outer_is (Some f) m is = sym is.0

-- ---- levels

pub level_one : (level : ℤ) (calls : Calls) → level ≡ pos 1 → level_place level calls ≡ caller calls
level_one level calls is = ap (λ (z : ℤ). level_place z calls) is

pub level_two : (level : ℤ) (calls : Calls) → level ≡ pos 2 → level_place level calls ≡ caller (drop 1 calls)
level_two level calls is = ap (λ (z : ℤ). level_place z calls) is

pub level_other : (level : ℤ) (calls : Calls) → (level ≡ pos 1 → ⊥) → (level ≡ pos 2 → ⊥) → level_place level calls ≡ None
level_other (pos zero) calls one two = refl
level_other (pos (suc zero)) calls one two = absurd (one refl)
level_other (pos (suc (suc zero))) calls one two = absurd (two refl)
level_other (pos (suc (suc (suc n)))) calls one two = refl
level_other (negsuc n) calls one two = refl

-- ---- values of errors

-- a string gets its place
pub text_value : (w : meant.Value) (text : Bytes) (at place : Option Place) (v : Value) (m new : EngineView) → w ≡ meant.str text → at ≡ place → IsText (placed at text) v m new → IsValue (error_value w place) v m new
text_value w text at place v m new is same made =
    record {
      value_is = made.value_is ∙ ap (λ (p : Option Place). meant.str (placed p text)) same ∙ ap (λ (x : meant.Value). error_value x place) (sym is);
      made = made.made;
      same = made.same;
      fit = made.fit;
    }

-- no other value does
not_text : (texts : List Bytes) (v : Value) (place : Option Place) → ((id : ℕ) → v ≡ Str id → ⊥) → value_view texts v ≡ error_value (value_view texts v) place
not_text texts (Str id) place other = absurd (other id refl)
not_text texts Nil place other = refl
not_text texts (Flag b) place other = refl
not_text texts (Num z) place other = refl
not_text texts (Table id) place other = refl
not_text texts (Func id) place other = refl
not_text texts (Native f) place other = refl
not_text texts (Channel n) place other = refl
not_text texts (Thread n) place other = refl
not_text texts (Data id) place other = refl

pub other_value : (w : meant.Value) (place : Option Place) (v : Value) (m : EngineView) → value_view m.heap.texts v ≡ w → ((id : ℕ) → v ≡ Str id → ⊥) → IsMade m.heap v → AreFit m → IsValue (error_value w place) v m m
other_value w place v m is other made fit =
    record {
      value_is = not_text m.heap.texts v place other ∙ ap (λ (x : meant.Value). error_value x place) is;
      made = made;
      same = λ past. refl;
      fit = fit;
    }
