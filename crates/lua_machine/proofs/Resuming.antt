-- A frame that waited goes on, and is ready.
use Rattle.std.proofs.Common.{◌≡◌, ℕ, ◌+◌, ◌<◌, ◌≤◌, List, [], ◌∷◌, ◌++◌, length, refl, sym, subst, Bool, arith}
use Rattle.std.specs.Prelude.{map, Result, Ok, Err, IfOk, OnOk}
use Rattle.std.specs.List.{AllByRecursion}
use Rattle.lua_meaning.specs.Value.{first}
use Rattle.lua_heap.specs.declared.value.Value.{Value}
use Rattle.lua_heap.specs.Value.{value_view}
use Rattle.lua_code.specs.declared.instr.Instr.TheVariants.{Leave}
use Rattle.lua_machine.specs.declared.status.Status.{Status}
use Rattle.lua_machine.specs.declared.status.Status.TheVariants.{Goes, Gives}
use Rattle.lua_machine.specs.declared.frame.Wants.{Wants}
use Rattle.lua_machine.specs.declared.frame.Wants.TheVariants.{ToSlot, TruthTo, UntruthTo, ToTail, Nothing}
use Rattle.lua_machine.specs.declared.frame.Duty.{Duty}
use Rattle.lua_machine.specs.declared.frame.Role.{Role}
use Rattle.lua_machine.specs.declared.frame.Role.TheVariants.{Waits, Serves}
use Rattle.lua_machine.specs.declared.frame.Frame.{Frame}
use Rattle.lua_machine.specs.View.{EngineView, protos_at}
use Rattle.lua_machine.specs.Made.{IsEngine}
use Rattle.lua_machine.specs.Frames.{resumed, taken_off, WentOn}
use Rattle.lua_machine.specs.Results.{held_at, results_at, received_values, WantsOne, Gathers}
use Rattle.lua_machine.specs.Ready.{IsPlaced, IsPaused, IsWaitingAs, IsWaiting, WantsFit, AreFit, IsServing, IsReady, IsReadyFor}
use Rattle.lua_machine.specs.Does.{Takes}
use Rattle.lua_machine.specs.Serving.{Delivers}
use Rattle.lua_machine.proofs.Taking.{length_set}
use Rattle.lua_machine.proofs.Leaving.{gives_one, gives_all, left_one, left_all, left_given}

split_last : {A : Type 0} (P : A → Type 0) (xs : List A) (x : A) → AllByRecursion P (xs ++ x ∷ []) → AllByRecursion P xs × P x
split_last P [] x all = (tt, all.0)
split_last P (y ∷ xs) x all = let rest = split_last P xs x all.1 in ((all.0, rest.0), rest.1)

received_long : (w : Wants) (v : Value) (m : EngineView) → length (received_values w v m) ≡ length m.values
received_long (ToSlot n) v m = length_set m.values (m.base + n) v
received_long (TruthTo n) v m = length_set m.values (m.base + n) _
received_long (UntruthTo n) v m = length_set m.values (m.base + n) _
received_long ToTail v m = refl
received_long Nothing v m = refl

module _ (m : EngineView) (fit : AreFit m) (frames : List Frame) (f : Frame) (were : m.frames ≡ frames ++ f ∷ []) where
  waited : AllByRecursion (IsWaiting m.chunks (length m.values) (length m.cells)) frames × IsWaiting m.chunks (length m.values) (length m.cells) f
  waited = split_last (IsWaiting m.chunks (length m.values) (length m.cells)) frames f (subst (AllByRecursion (IsWaiting m.chunks (length m.values) (length m.cells))) were fit.frames)

  -- a function of Lua
  module _ (wants : Wants) (role : f.role ≡ Waits wants) where
    pub top_paused : IsPaused m.chunks (length m.values) (length m.cells) wants f
    top_paused = subst (λ (r : Role). IsWaitingAs r m.chunks (length m.values) (length m.cells) f) role waited.1

    pub top_known : f.func < length (protos_at m.chunks f.chunk)
    top_known = top_paused.placed.known

    pub top_fits : WantsFit f.base (length m.values) wants
    top_fits = top_paused.wants

    -- with other slots, as many, and another tail
    pub resumed_ready : (values tail : List Value) → length m.values ≡ length values → IsReady (record (resumed m frames f) { values = values; tail = tail })
    resumed_ready values tail same =
        record {
          placed = subst (λ n. IsPlaced m.chunks n (length m.cells) f.chunk f.func f.pc f.base f.cell_base) same top_paused.placed;
          proto = refl;
          fit = record {
            frames = subst (λ n. AllByRecursion (IsWaiting m.chunks n (length m.cells)) frames) same waited.0;
            functions = fit.functions;
            chunks = fit.chunks;
          };
        }

  -- whatever it was
  pub taken_off_fit : AreFit (taken_off m frames f)
  taken_off_fit = record { frames = waited.0; functions = fit.functions; chunks = fit.chunks }

  -- one of the library
  pub taken_off_serving : (duty : Duty) → f.role ≡ Serves duty → IsServing (taken_off m frames f)
  taken_off_serving duty role =
      let there = subst (λ (r : Role). IsWaitingAs r m.chunks (length m.values) (length m.cells) f) role waited.1 in
      record { fit = taken_off_fit; slots = there.0; cells = there.1 }

module _ (m new : EngineView) (fit : AreFit m) (f : Frame) (wants : Wants) (role : f.role ≡ Waits wants) (went : WentOn f m new) where
  abbrev x : EngineView
  x = resumed m went.frames f

  pub ready_one : (v : Value) → IsReady (record new { values = received_values wants v new })
  ready_one v =
      subst (λ (y : EngineView). IsReady (record y { values = received_values wants v y })) (sym went.are)
      (resumed_ready m fit went.frames f went.were wants role (received_values wants v x) m.tail (sym (received_long wants v x)))

  pub ready_all : (tail : List Value) → IsReady (record new { tail = tail })
  ready_all tail =
      subst (λ (y : EngineView). IsReady (record y { tail = tail })) (sym went.are)
      (resumed_ready m fit went.frames f went.were wants role m.values tail refl)

module _ (m new : EngineView) (is : IsEngine m) (from count : ℕ) (tailed : Bool) (r : IsReadyFor (Leave from count tailed) m) where
  room : m.base + from + count ≤ length m.values
  room = let slots = r.slots in omega (arith, slots)

  -- the function of Lua on top gets the first result
  pub leaves_one : (f : Frame) (wants : Wants) (role : f.role ≡ Waits wants) (v : Value) → WentOn f m new → WantsOne wants → value_view m.heap.texts v ≡ first (results_at m (m.base + from) count tailed) → Takes (Leave from count tailed) Goes m (record new { values = received_values wants v new })
  leaves_one f wants role v went one e =
      record {
        step = left_one m new is f wants role from count tailed v went one (top_fits m r.ready.fit went.frames f went.were wants role) e;
        kept = ready_one m new r.ready.fit f wants role went v;
      }

  -- or all of them
  pub leaves_all : (f : Frame) (wants : Wants) (role : f.role ≡ Waits wants) → WentOn f m new → ToTail ≡ wants → Takes (Leave from count tailed) Goes m (record new { tail = held_at new (m.base + from) count tailed })
  leaves_all f wants role went all =
      record {
        step = left_all m new is f wants role from count tailed went all room;
        kept = ready_all m new r.ready.fit f wants role went (held_at new (m.base + from) count tailed);
      }

  -- they go on to the frames
  pub leaves_given : (status : Status) → Gathers (m.base + from) count tailed status m new → Takes (Leave from count tailed) status m new
  leaves_given status gathered =
      subst (λ (s : Status). Takes (Leave from count tailed) s m new) (sym gathered.0)
      (subst (Takes (Leave from count tailed) Gives m) (sym gathered.1)
      (record {
        step = left_given m from count tailed room;
        kept = record { frames = r.ready.fit.frames; functions = r.ready.fit.functions; chunks = r.ready.fit.chunks };
      }))

  pub leaves_each : {E : Type 0} (o : Result Status E) → IfOk o (λ status. Gathers (m.base + from) count tailed status m new) → IfOk o (λ status. Takes (Leave from count tailed) status m new)
  leaves_each (Ok status) gathered = leaves_given status gathered
  leaves_each (Err e) gathered = gathered

-- results that were put together as arguments are
module _ (m new : EngineView) (is : IsEngine m) (fit : AreFit m) (f : Frame) (wants : Wants) (role : f.role ≡ Waits wants) (went : WentOn f m new) where
  pub delivers_one : (v : Value) → WantsOne wants → value_view m.heap.texts v ≡ first (map (value_view m.heap.texts) m.args) → Delivers Goes m (record new { values = received_values wants v new })
  delivers_one v one e =
      record {
        step = λ past. gives_one m new is f wants role went (map (value_view m.heap.texts) m.args) past v one (top_fits m fit went.frames f went.were wants role) e;
        kept = ready_one m new fit f wants role went v;
      }

  pub delivers_all : ToTail ≡ wants → Delivers Goes m (record new { tail = m.args })
  delivers_all all =
      record {
        step = λ past. gives_all m new is f wants role went (map (value_view m.heap.texts) m.args) past m.args all refl;
        kept = ready_all m new fit f wants role went m.args;
      }

pub on_ok : {A E : Type 0} (o : Result A E) (P Q : Type 0) → (P → Q) → OnOk o P → OnOk o Q
on_ok (Ok x) P Q f p = f p
on_ok (Err e) P Q f p = p
