-- Results and errors go to the frames that wait.
use Rattle.std.proofs.Common.{◌≡◌, ℕ, zero, suc, ◌+◌, ◌*◌, ◌<◌, ◌≤◌, List, [], ◌∷◌, ◌++◌, length, refl, sym, ap, ◌∙◌, subst, Option, Some, None, arith}
use Rattle.std.specs.Prelude.{map, Result, Ok, Err, IfOk}
use Rattle.std.proofs.lemmas.List.{length-append}
use Rattle.lua_meaning.specs.Value as meant
use Rattle.lua_meaning.specs.World as world
use Rattle.lua_meaning.specs.World.{Outcome, given}
use Rattle.variant.specs.declared.ask.Ask.{Ask}
use Rattle.lua_heap.specs.declared.native.Native.{Native}
use Rattle.lua_heap.specs.declared.value.Value.{Value}
use Rattle.lua_heap.specs.Value.{value_view}
use Rattle.lua_heap.specs.Heap.{IsMade}
use Rattle.lua_code.specs.State as s
use Rattle.lua_code.specs.State.{Step, stop, ended}
use Rattle.lua_code.specs.Frames.{finish}
use Rattle.lua_machine.specs.Past.{Past}
use Rattle.lua_machine.specs.declared.frame.Wants.{Wants}
use Rattle.lua_machine.specs.declared.frame.Duty.{Duty}
use Rattle.lua_machine.specs.declared.frame.Role.TheVariants.{Waits, Serves}
use Rattle.lua_machine.specs.declared.frame.Frame.{Frame}
use Rattle.lua_machine.specs.declared.status.Status.{Status}
use Rattle.lua_machine.specs.declared.status.Status.TheVariants as status
use Rattle.lua_machine.specs.declared.status.Status.TheVariants.{Goes, NoTick, Gives, Raises, Prints, Asks, Ends, Fails}
use Rattle.lua_machine.specs.declared.status.Turn.TheVariants as turns
use Rattle.lua_machine.specs.declared.status.Pause.TheVariants as pauses
use Rattle.lua_machine.specs.declared.errand.Errand.{Errand}
use Rattle.lua_machine.specs.Runs.{Lands}
use Rattle.lua_machine.specs.View.{EngineView, frames_of, registers_of, state_of}
use Rattle.lua_machine.specs.Made.{IsEngine}
use Rattle.lua_machine.specs.Frames.{IsTop, taken_off, WasTakenOff}
use Rattle.lua_machine.specs.Ready.{AreFit, IsServing}
use Rattle.lua_machine.specs.Does.{step_as, given_args, IsKept}
use Rattle.lua_machine.specs.Back.{FewFrames}
use Rattle.lua_machine.specs.Serving.{Delivers, Unwinds, frames_left, Falls}
use Rattle.lua_machine.specs.Fulfilling.{fulfilling_step, Fulfils}
use Rattle.lua_machine.specs.Fulfilling as fulfilling
use Rattle.lua_machine.proofs.Waiting.{top_frame, duty_frames, resumed_frames}
use Rattle.lua_machine.proofs.Resuming.{taken_off_fit, taken_off_serving}

-- ---- no frame waits

abbrev finishes : Outcome (List meant.Value) → Past → EngineView → List s.Frame → Step
finishes o past m frames = finish o frames (registers_of m) (state_of past m)

no_frames : (m : EngineView) → IsTop None m.frames → frames_of m ≡ []
no_frames m none = ap (λ (fs : List Frame). frames_of (record m { frames = fs })) none

pub none_of : {A : Type 0} (o : Option A) → ((x : A) → o ≡ Some x → ⊥) → o ≡ None
none_of None other = refl
none_of (Some x) other = absurd (other x refl)

pub delivers_last : (m : EngineView) (o : Option Frame) → o ≡ None → IsTop o m.frames → Delivers Ends m m
delivers_last m o is top =
    let none = subst (λ (p : Option Frame). IsTop p m.frames) is top in
    record { step = λ past. ap (finishes (given_args m) past m) (no_frames m none); kept = tt }

pub unwinds_last : (m : EngineView) (v : Value) → IsMade m.heap v → (o : Option Frame) → o ≡ None → IsTop o m.frames → Unwinds v (Fails v) m m
unwinds_last m v made o is top =
    let none = subst (λ (p : Option Frame). IsTop p m.frames) is top in
    record { step = λ past. ap (finishes (world.failed (value_view m.heap.texts v)) past m) (no_frames m none); kept = made }

-- ---- the frame on top is taken off

module _ (m mid : EngineView) (is : IsEngine m) (fit : AreFit m) (f : Frame) (went : WasTakenOff f m mid) where
  abbrev off : EngineView
  off = taken_off m went.frames f

  pub off_fit : AreFit mid
  off_fit = subst AreFit (sym went.are) (taken_off_fit m fit went.frames f went.were)

  fewer : length m.frames ≡ suc (length mid.frames)
  fewer =
      let long = length-append went.frames (f ∷ []) in
      ap (λ (fs : List Frame). length fs) went.were
      ∙ (let e : length (went.frames ++ f ∷ []) ≡ suc (length went.frames) = omega (arith, long) in e)
      ∙ ap (λ (y : EngineView). suc (length y.frames)) (sym went.are)

  -- a function of Lua ends by an error
  pub unwinds_lua : (wants : Wants) (v : Value) → f.role ≡ Waits wants → IsMade m.heap v → Unwinds v (Raises v) m mid
  unwinds_lua wants v role made =
      subst (λ (y : EngineView). Unwinds v (Raises v) m y) (sym went.are)
      (record {
        step = λ past. ap (finishes (world.failed (value_view m.heap.texts v)) past m) (resumed_frames m is went.frames f went.were wants role);
        kept = (made, taken_off_fit m fit went.frames f went.were);
      })

  pub unwinds_falls : (v w : Value) → Falls (Raises v) (Raises w) m mid
  unwinds_falls v w = let e = fewer in omega (arith, e)

  -- one of the library goes on
  module _ (duty : Duty) (role : f.role ≡ Serves duty) where
    pub off_serving : IsServing mid
    off_serving = subst IsServing (sym went.are) (taken_off_serving m fit went.frames f went.were duty role)

    serves_on : (o : Outcome (List meant.Value)) (past : Past) → finishes o past m (frames_of m) ≡ fulfilling_step duty o past mid
    serves_on o past =
        ap (finishes o past m) (duty_frames m is went.frames f went.were duty role)
        ∙ ap (λ (y : EngineView). fulfilling_step duty o past y) (sym went.are)

    same_args : given_args m ≡ given_args mid
    same_args = ap given_args (sym went.are)

    same_texts : (v : Value) → value_view m.heap.texts v ≡ value_view mid.heap.texts v
    same_texts v = ap (λ (y : EngineView). value_view y.heap.texts v) (sym went.are)

    pub delivers_duty : (status : Status) (new : EngineView) → Fulfils duty status mid new → Delivers status m new
    delivers_duty status new done =
        record {
          step = λ past.
              serves_on (given_args m) past
              ∙ ap (λ (o : Outcome (List meant.Value)). fulfilling_step duty o past mid) same_args
              ∙ done.came.step past;
          kept = done.came.kept;
        }

    pub unwinds_duty : (v : Value) (status : Status) (new : EngineView) → fulfilling.Fails duty v status mid new → Unwinds v status m new
    unwinds_duty v status new done =
        record {
          step = λ past.
              serves_on (world.failed (value_view m.heap.texts v)) past
              ∙ ap (λ (w : meant.Value). fulfilling_step duty (world.failed w) past mid) (same_texts v)
              ∙ done.came.step past;
          kept = done.came.kept;
        }

    falls_from : (status : Status) (new : EngineView) → FewFrames status (length mid.frames) new → Falls Gives status m new
    falls_from Gives new few = let e = fewer in omega (arith, e, few)
    falls_from (Raises v) new few = let e = fewer in omega (arith, e, few)
    falls_from Goes new few = tt
    falls_from NoTick new few = tt
    falls_from (status.Serves f) new few = tt
    falls_from (Prints line) new few = tt
    falls_from (Asks question errand) new few = tt
    falls_from Ends new few = tt
    falls_from (Fails v) new few = tt

    pub delivers_falls : (status : Status) (new : EngineView) → Fulfils duty status mid new → Falls Gives status m new
    delivers_falls status new done = falls_from status new done.few

    pub unwinds_falls_on : (v : Value) (came : Status) (new : EngineView) → fulfilling.Fails duty v came mid new → Falls (Raises v) came m new
    unwinds_falls_on v came new done = falls_by came (ap (λ (fs : List Frame). length fs) done.frames)
      where
        falls_by : (came : Status) → length new.frames ≡ length mid.frames → Falls (Raises v) came m new
        falls_by Gives same = let e = fewer in omega (arith, e, same)
        falls_by (Raises w) same = let e = fewer in omega (arith, e, same)
        falls_by Goes same = tt
        falls_by NoTick same = tt
        falls_by (status.Serves f) same = tt
        falls_by (Prints line) same = tt
        falls_by (Asks question errand) same = tt
        falls_by Ends same = tt
        falls_by (Fails w) same = tt

    pub delivers_each : {E : Type 0} (o : Result Status E) (new : EngineView) → IfOk o (λ status. Fulfils duty status mid new) → IfOk o (λ status. Delivers status m new)
    delivers_each (Ok status) new done = delivers_duty status new done
    delivers_each (Err e) new done = done

    pub delivers_falls_each : {E : Type 0} (o : Result Status E) (new : EngineView) → IfOk o (λ status. Fulfils duty status mid new) → IfOk o (λ status. Falls Gives status m new)
    delivers_falls_each (Ok status) new done = delivers_falls status new done
    delivers_falls_each (Err e) new done = done

    pub unwinds_each : (v : Value) {E : Type 0} (o : Result Status E) (new : EngineView) → IfOk o (λ status. fulfilling.Fails duty v status mid new) → IfOk o (λ status. Unwinds v status m new)
    unwinds_each v (Ok status) new done = unwinds_duty v status new done
    unwinds_each v (Err e) new done = done

    pub unwinds_falls_each : (v : Value) {E : Type 0} (o : Result Status E) (new : EngineView) → IfOk o (λ status. fulfilling.Fails duty v status mid new) → IfOk o (λ status. Falls (Raises v) status m new)
    unwinds_falls_each v (Ok status) new done = unwinds_falls_on v status new done
    unwinds_falls_each v (Err e) new done = done

pub off_made : (m mid : EngineView) (f : Frame) → WasTakenOff f m mid → (v : Value) → IsMade m.heap v → IsMade mid.heap v
off_made m mid f went v made = subst (λ (y : EngineView). IsMade y.heap v) (sym went.are) made

-- what falls leaves less
pub falls_less : (from to : Status) (old new : EngineView) → 0 < frames_left from old → Falls from to old new → frames_left to new < frames_left from old
falls_less from Gives old new some falls = falls
falls_less from (Raises v) old new some falls = falls
falls_less from Goes old new some falls = some
falls_less from NoTick old new some falls = some
falls_less from (status.Serves f) old new some falls = some
falls_less from (Prints line) old new some falls = some
falls_less from (Asks question errand) old new some falls = some
falls_less from Ends old new some falls = some
falls_less from (Fails v) old new some falls = some

-- ---- the way from frame to frame

-- it is at a status
pub record Landing (from : Status) (old : EngineView) (status : Status) (now : EngineView) : Type 0 where
  pub kept : IsKept status now
  pub step : (past : Past) → step_as from past old ≡ step_as status past now

pub landing_first : (from : Status) (m : EngineView) → IsKept from m → Landing from m from m
landing_first from m kept = record { kept = kept; step = λ past. refl }

module _ (from : Status) (old now : EngineView) where
  pub landing_given : (status : Status) (new : EngineView) → Landing from old Gives now → Delivers status now new → Landing from old status new
  landing_given status new l c = record { kept = c.kept; step = λ past. l.step past ∙ c.step past }

  pub landing_raised : (v : Value) (status : Status) (new : EngineView) → Landing from old (Raises v) now → Unwinds v status now new → Landing from old status new
  landing_raised v status new l c = record { kept = c.kept; step = λ past. l.step past ∙ c.step past }

  -- a status at which it stands still
  pub lands_goes : Landing from old Goes now → Lands from turns.Goes old now
  lands_goes l = record { kept = l.kept; step = l.step }

  pub lands_serving : (f : Native) → Landing from old (status.Serves f) now → Lands from (turns.Serves f) old now
  lands_serving f l = record { kept = l.kept; step = l.step }

  pub lands_waiting : Landing from old NoTick now → Lands from (turns.Pauses pauses.NoTick) old now
  lands_waiting l = record { kept = tt; step = l.step }

  pub lands_printing : (line : _) → Landing from old (Prints line) now → Lands from (turns.Pauses (pauses.Prints line)) old now
  lands_printing line l = record { kept = l.kept; step = l.step }

  pub lands_asking : (question : Ask) (errand : Errand) → Landing from old (Asks question errand) now → Lands from (turns.Pauses (pauses.Asks question errand)) old now
  lands_asking question errand l = record { kept = l.kept; step = l.step }

  pub lands_ended : Landing from old Ends now → Lands from (turns.Pauses pauses.Ended) old now
  lands_ended l = record { kept = tt; step = l.step }

  pub lands_failed : (v : Value) → Landing from old (Fails v) now → Lands from (turns.Pauses (pauses.Failed v)) old now
  lands_failed v l = record { kept = l.kept; step = l.step }
