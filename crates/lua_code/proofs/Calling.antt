-- Calls in the machine come to what they mean, where a task behind a tick does.
use Rattle.std.proofs.Common.{ℕ, suc, ◌+◌, ◌≡◌, ◌≤◌, refl, sym, ap, ◌∙◌, subst, List, ◌∷◌, length, map, Option, Some, None, option_map, Bool, true, false, arith, slice_get}
use Rattle.std.specs.Prelude.{not, if◌then◌else◌, nat_lt, codes}
use Rattle.std.proofs.lemmas.List.{length-map}
use Rattle.std.proofs.lemmas.Option.{slice_get-map}
use Rattle.lua_meaning.specs.Value.{Value, nil, flag, num, str, table, func, native, channel, thread, datum, first, is_true}
use Rattle.lua_meaning.specs.Store.{Store, Closure, handler}
use Rattle.lua_meaning.specs.World.{World, Ends, gives, fails, out_of_steps, needs, Act}
use Rattle.lua_meaning.specs.Fault.{Place, placed, call_text}
use Rattle.lua_meaning.specs.Locals.{values_of}
use Rattle.lua_meaning.specs.Calls as calls
use Rattle.lua_meaning.specs.Calls.{Later, invoke, results, enter, enter_called, call}
use Rattle.lua_meaning.specs.Control.{Game}
use Rattle.lua_code.specs.Instr.{Wants, to_slot, truth_to, untruth_to, to_tail, nothing}
use Rattle.lua_code.specs.State.{Registers, Running, Frame, waits, Step, on}
use Rattle.lua_code.specs.Frames as frames
use Rattle.lua_code.specs.Frames.{place_of, places, Raising, begun, entering, entering_called, calling_with, received, raised, calling}
use Rattle.lua_code.specs.Natives.{Program}
use Rattle.lua_code.specs.Act.{at_pc}
use Rattle.lua_code.specs.Follows.{made_of, state_of, program_of, callee_of}
use Rattle.lua_code.proofs.Registers.{Stays, stays_self, stays_less, stays_put, stays_tail}
use Rattle.lua_code.proofs.Goes.{Thread, Comes, comes_self, stepping, going, left_at, failing, Goes, first_comes, both, tick_goes}

-- ---- what is called

abbrev seen : calls.Callee × List Value → frames.Callee × List Value
seen c = (callee_of c.0, c.1)

callee_made_is : (o : Option Closure) → frames.callee_made (option_map made_of o) ≡ option_map callee_of (calls.callee_made o)
callee_made_is None = refl
callee_made_is (Some c) = refl

callee_is : (fs : List Closure) (v : Value) → frames.callee_of (map made_of fs) v ≡ option_map callee_of (calls.callee_of fs v)
callee_is fs (func f) = ap frames.callee_made (slice_get-map made_of fs f) ∙ callee_made_is (slice_get fs f)
callee_is fs (native f) = refl
callee_is fs v = refl

with_args_is : (o : Option calls.Callee) (args : List Value) → frames.with_args (option_map callee_of o) args ≡ option_map seen (calls.with_args o args)
with_args_is None args = refl
with_args_is (Some c) args = refl

looked_at : (fs : List Closure) (v : Value) (args : List Value) → frames.with_args (frames.callee_of (map made_of fs) v) args ≡ option_map seen (calls.with_args (calls.callee_of fs v) args)
looked_at fs v args = ap (λ o. frames.with_args o args) (callee_is fs v) ∙ with_args_is (calls.callee_of fs v) args

called_is : (fs : List Closure) (s : Store) (f : Value) (args : List Value) → frames.called (map made_of fs) s f args ≡ option_map seen (calls.called fs s f args)
called_is fs s (func f) args = looked_at fs (func f) args
called_is fs s (native f) args = looked_at fs (native f) args
called_is fs s nil args = looked_at fs (handler s nil (codes "__call")) (nil ∷ args)
called_is fs s (flag b) args = looked_at fs (handler s (flag b) (codes "__call")) (flag b ∷ args)
called_is fs s (num z) args = looked_at fs (handler s (num z) (codes "__call")) (num z ∷ args)
called_is fs s (str t) args = looked_at fs (handler s (str t) (codes "__call")) (str t ∷ args)
called_is fs s (table t) args = looked_at fs (handler s (table t) (codes "__call")) (table t ∷ args)
called_is fs s (channel c) args = looked_at fs (handler s (channel c) (codes "__call")) (channel c ∷ args)
called_is fs s (thread t) args = looked_at fs (handler s (thread t) (codes "__call")) (thread t ∷ args)
called_is fs s (datum d) args = looked_at fs (handler s (datum d) (codes "__call")) (datum d ∷ args)

-- ---- calls

-- a call that was begun comes to what the task means
abbrev pub Invokes : Game → ℕ → Later → Type 0
Invokes game n again =
    (callee : calls.Callee) (args : List Value) (frames : List Frame) (base cell_base : ℕ) (r : Registers) (w : World) → suc w.ticks ≤ n
    → Goes (program_of game) w.ticks frames base cell_base r (stepping (program_of game) w (on (begun (callee_of callee) args frames base cell_base r (state_of w)))) (again (invoke callee args (places frames)) w) (λ flow t. Unit {0}) (λ flow w t. left_at (program_of game) frames (values_of flow) w t)

pub if_goes : {A : Type 0} (program : Program) (b : Bool) (frames : List Frame) (low some : ℕ) (r : Registers) (w : World) (x y : Step) (e f : Act A) (P : A → Registers → Type 0) (t : A → World → Registers → Thread) → Goes program w.ticks frames low some r (stepping program w x) (e w) P t → Goes program w.ticks frames low some r (stepping program w y) (f w) P t → Goes program w.ticks frames low some r (stepping program w (if b then x else y)) ((if b then e else f) w) P t
if_goes program true frames low some r w x y e f P t g h = g
if_goes program false frames low some r w x y e f P t g h = h

module _ (game : Game) (n : ℕ) (again : Later) (invokes : Invokes game n again) where
  abbrev P : Program
  P = program_of game

  pub same : (w : World) → w.ticks ≤ w.ticks
  same w = omega arith

  -- an error goes to the frames in the end
  abbrev pub Raises : Raising → List Frame → Registers → Type 0
  Raises raising frames r = (v : Value) (w : World) → Comes (stepping P w (raising v (state_of w))) (failing P frames v w r)

  pub enters : (raising : Raising) (callee : calls.Callee) (args : List Value) (top : Frame) (rest : List Frame) (base cell_base : ℕ) (r : Registers) (w : World) → Raises raising (top ∷ rest) r → w.ticks ≤ n
      → Goes P w.ticks (top ∷ rest) base cell_base r (stepping P w (entering raising (callee_of callee) args (top ∷ rest) base cell_base r (state_of w))) (enter again (place_of top) (places rest) callee args w) (λ vs t. Unit {0}) (left_at P (top ∷ rest))
  enters raising callee args top rest base cell_base r w raises lw =
      tick_goes P w.ticks w.ticks (top ∷ rest) base cell_base r w _ _ _ _ (same w) (λ w' lt.
      let text = str (placed (place_of top) (codes "stack overflow")) in
      let begins = on (begun (callee_of callee) args (top ∷ rest) base cell_base r (state_of w')) in
      subst (λ m. Goes P w'.ticks (top ∷ rest) base cell_base r (stepping P w' (if nat_lt (length rest) 4096 then begins else raising text (state_of w'))) ((if nat_lt m 4096 then results (again (invoke callee args (places (top ∷ rest)))) else (λ w. fails text w)) w') (λ vs t. Unit {0}) (left_at P (top ∷ rest))) (sym (length-map rest place_of))
      (if_goes P (nat_lt (length rest) 4096) (top ∷ rest) base cell_base r w' begins (raising text (state_of w')) (results (again (invoke callee args (places (top ∷ rest))))) (λ w. fails text w) _ _
      (both P w'.ticks w'.ticks (same w') (top ∷ rest) base cell_base r _ (again (invoke callee args (places (top ∷ rest))) w') _ _ (λ flow w. gives (values_of flow) w) _ _
      (invokes callee args (top ∷ rest) base cell_base r w' (omega (arith, lt, lw)))
      (λ flow w u lu su pu. (u, same w, stays_self u base cell_base, tt, comes_self _)))
      (r, same w', stays_self r base cell_base, raises text w'))) refl

  enters_called : (raising : Raising) (f : Value) (o : Option (calls.Callee × List Value)) (top : Frame) (rest : List Frame) (base cell_base : ℕ) (r : Registers) (w : World) → Raises raising (top ∷ rest) r → w.ticks ≤ n
      → Goes P w.ticks (top ∷ rest) base cell_base r (stepping P w (entering_called raising f (option_map seen o) (top ∷ rest) base cell_base r (state_of w))) (enter_called again (place_of top) (places rest) f o w) (λ vs t. Unit {0}) (left_at P (top ∷ rest))
  enters_called raising f None top rest base cell_base r w raises lw = (r, same w, stays_self r base cell_base, raises (str (placed (place_of top) (call_text f))) w)
  enters_called raising f (Some c) top rest base cell_base r w raises lw = enters raising c.0 c.1 top rest base cell_base r w raises lw

  pub calls_with : (raising : Raising) (f : Value) (args : List Value) (top : Frame) (rest : List Frame) (base cell_base : ℕ) (r : Registers) (w : World) → Raises raising (top ∷ rest) r → w.ticks ≤ n
      → Goes P w.ticks (top ∷ rest) base cell_base r (stepping P w (calling_with raising f args (top ∷ rest) base cell_base r (state_of w))) (call again (place_of top) (places rest) f args w) (λ vs t. Unit {0}) (left_at P (top ∷ rest))
  calls_with raising f args top rest base cell_base r w raises lw =
      first_comes P w.ticks (top ∷ rest) base cell_base r _ (stepping P w (entering_called raising f (option_map seen (calls.called w.functions w.store f args)) (top ∷ rest) base cell_base r (state_of w))) (call again (place_of top) (places rest) f args w) _ _
      (λ k. (k, ap (λ o. stepping P w (entering_called raising f o (top ∷ rest) base cell_base r (state_of w)) k) (called_is w.functions w.store f args)))
      (enters_called raising f (calls.called w.functions w.store f args) top rest base cell_base r w raises lw)

  pub calls_on : (f : Value) (args : List Value) (top : Frame) (rest : List Frame) (base cell_base : ℕ) (r : Registers) (w : World) → w.ticks ≤ n
      → Goes P w.ticks (top ∷ rest) base cell_base r (stepping P w (calling f args (top ∷ rest) base cell_base r (state_of w))) (call again (place_of top) (places rest) f args w) (λ vs t. Unit {0}) (left_at P (top ∷ rest))
  calls_on f args top rest base cell_base r w lw = calls_with (raised (top ∷ rest) r) f args top rest base cell_base r w (λ v w. comes_self _) lw

-- ---- results

-- below a place the frame's registers stay, and the rest is as the callee left it, with what the frame wanted
abbrev pub Received : Wants → (base : ℕ) → (r : Registers) → (high more : ℕ) → List Value → Registers → Type 0
Received wants base r high more vs t = (u : Registers) × Stays r u high more × (t ≡ received wants vs base u)

received_stays : (wants : Wants) (base : ℕ) (vs : List Value) (r u : Registers) (some : ℕ) → Stays r u base some → Stays r (received wants vs base u) base some
received_stays (to_slot k) base vs r u some x = stays_put r u base some (base + k) (first vs) (omega arith) x
received_stays (truth_to k) base vs r u some x = stays_put r u base some (base + k) (flag (is_true (first vs))) (omega arith) x
received_stays (untruth_to k) base vs r u some x = stays_put r u base some (base + k) (flag (not (is_true (first vs)))) (omega arith) x
received_stays to_tail base vs r u some x = stays_tail r u base some vs x
received_stays nothing base vs r u some x = x

-- a callee's results go to the frame that waits for them; an error goes past it
pub to_the_frame : (program : Program) (n : ℕ) (run : Running) (pc : ℕ) (wants : Wants) (at : Option Place) (frames : List Frame) (high more : ℕ) (r : Registers) (K : Thread) (e : Ends (List Value)) → run.base ≤ high → run.cell_base ≤ more
    → Goes program n (waits (at_pc run pc) wants at ∷ frames) high more r K e (λ vs t. Unit {0}) (left_at program (waits (at_pc run pc) wants at ∷ frames))
    → Goes program n frames run.base run.cell_base r K e (Received wants run.base r high more) (λ vs w t. going program run pc frames w t)
to_the_frame program n run pc wants at frames high more r K (gives vs w) l m g = (
  received wants vs run.base g.0,
  g.1,
  received_stays wants run.base vs r g.0 run.cell_base (stays_less r g.0 high run.base more run.cell_base l m g.2),
  (g.0, g.2, refl),
  g.4,
)
to_the_frame program n run pc wants at frames high more r K (fails v w) l m g = (g.0, g.1, stays_less r g.0 high run.base more run.cell_base l m g.2, g.3)
to_the_frame program n run pc wants at frames high more r K (out_of_steps w) l m g = g
to_the_frame program n run pc wants at frames high more r K (needs ask w) l m g = g
