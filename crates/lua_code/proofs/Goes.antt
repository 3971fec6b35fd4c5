-- What the machine comes to, by what a part of a program comes to.
use Rattle.std.proofs.Common.{ℕ, zero, suc, ◌+◌, ◌≡◌, ◌≤◌, refl, ap, ◌∙◌, subst, List, [], ◌∷◌, ◌++◌, length, Option, Some, arith, slice_get}
use Rattle.lua_meaning.specs.Value.{Value}
use Rattle.lua_meaning.specs.World.{World, Ends, gives, fails, out_of_steps, needs, ◌>>>◌, take_tick, given, failed}
use Rattle.lua_code.specs.Instr.{Instr, code_of}
use Rattle.lua_code.specs.State.{Registers, State, Running, Frame, lua, End, no_ticks, needed, Step}
use Rattle.lua_code.specs.Frames.{ticking, finish}
use Rattle.lua_code.specs.Natives.{Program}
use Rattle.lua_code.specs.Act.{at_pc, act_at, act_on, after, exec}
use Rattle.lua_code.specs.Follows.{state_of}
use Rattle.lua_code.proofs.Registers.{Stays, stays_on, stays_less}

-- what a machine comes to, in so many steps
abbrev pub Thread : Type 0
Thread = ℕ → Option End

-- whatever the second comes to, the first comes to
abbrev pub Comes : Thread → Thread → Type 0
Comes K L = (k : ℕ) → (j : ℕ) × (K j ≡ L k)

pub comes_self : (K : Thread) → Comes K K
comes_self K k = (k, refl)

pub comes_on : (K L M : Thread) → Comes K L → Comes L M → Comes K M
comes_on K L M a b k = let y = b k in let x = a y.0 in (x.0, x.1 ∙ y.1)

-- ---- code at a place

abbrev pub Stands : List Instr → ℕ → List Instr → Type 0
Stands code pc [] = Unit {0}
Stands code pc (x ∷ xs) = (slice_get code pc ≡ Some x) × Stands code (pc + 1) xs

pub front : (code : List Instr) (pc : ℕ) (a b : List Instr) → Stands code pc (a ++ b) → Stands code pc a
front code pc [] b h = tt
front code pc (x ∷ a) b h = (h.0, front code (pc + 1) a b h.1)

pub back : (code : List Instr) (pc pc' : ℕ) (a b : List Instr) → pc' ≡ pc + length a → Stands code pc (a ++ b) → Stands code pc' b
back code pc pc' [] b e h = let e' : pc ≡ pc' = omega (arith, e) in subst (λ n. Stands code n b) e' h
back code pc pc' (x ∷ a) b e h = back code (pc + 1) pc' a b (omega (arith, e)) h.1

shifted : (x : Instr) (a code : List Instr) (n : ℕ) → Stands code n a → Stands (x ∷ code) (n + 1) a
shifted x [] code n h = tt
shifted x (y ∷ a) code n h = (subst (λ m. slice_get (x ∷ code) m ≡ Some y) (let e : suc n ≡ n + 1 = omega arith in e) h.0, shifted x a code (n + 1) h.1)

pub whole : (a : List Instr) → Stands a 0 a
whole [] = tt
whole (x ∷ a) = (refl, shifted x a a 0 (whole a))

-- ---- threads

module _ (program : Program) where
  abbrev pub stepping : World → Step → Thread
  stepping w x k = after program (exec program k) x w.replies

  -- a function of Lua at an instruction
  abbrev pub going : Running → ℕ → List Frame → World → Registers → Thread
  going run pc frames w r k =
      exec program k (record { active = lua (at_pc run pc); frames = frames; registers = r; state = state_of w }) w.replies

  abbrev pub left_at : List Frame → List Value → World → Registers → Thread
  left_at frames vs w r = stepping w (finish (given vs) frames r (state_of w))

  abbrev pub failing : List Frame → Value → World → Registers → Thread
  failing frames v w r = stepping w (finish (failed v) frames r (state_of w))

  -- The machine follows what a part comes to. It leaves at most n ticks; below two places slots and cells stay as they are
  -- in r; P says what the others hold.
  abbrev pub Goes : {A : Type 0} → ℕ → List Frame → (low cells : ℕ) → Registers → Thread → Ends A → (A → Registers → Type 0) → (A → World → Registers → Thread) → Type 0
  Goes n frames low cells r K (gives a w) P f = (t : Registers) × (w.ticks ≤ n) × Stays r t low cells × P a t × Comes K (f a w t)
  Goes n frames low cells r K (fails v w) P f = (t : Registers) × (w.ticks ≤ n) × Stays r t low cells × Comes K (failing frames v w t)
  Goes n frames low cells r K (out_of_steps w) P f = (j : ℕ) × (K j ≡ Some (no_ticks (state_of w)))
  Goes n frames low cells r K (needs ask w) P f = (j : ℕ) × (K j ≡ Some (needed ask (state_of w)))

  pub first_comes : {A : Type 0} (n : ℕ) (frames : List Frame) (low cells : ℕ) (r : Registers) (K L : Thread) (e : Ends A) (P : A → Registers → Type 0) (f : A → World → Registers → Thread) → Comes K L → Goes n frames low cells r L e P f → Goes n frames low cells r K e P f
  first_comes n frames low cells r K L (gives a w) P f h g = (g.0, g.1, g.2, g.3, comes_on K L _ h g.4)
  first_comes n frames low cells r K L (fails v w) P f h g = (g.0, g.1, g.2, comes_on K L _ h g.3)
  first_comes n frames low cells r K L (out_of_steps w) P f h g = let x = h g.0 in (x.0, x.1 ∙ g.1)
  first_comes n frames low cells r K L (needs ask w) P f h g = let x = h g.0 in (x.0, x.1 ∙ g.1)

  -- from other registers, which are the same below
  pub first_stays : {A : Type 0} (n : ℕ) (frames : List Frame) (low cells : ℕ) (r t : Registers) (K : Thread) (e : Ends A) (P : A → Registers → Type 0) (f : A → World → Registers → Thread) → Stays r t low cells → Goes n frames low cells t K e P f → Goes n frames low cells r K e P f
  first_stays n frames low cells r t K (gives a w) P f h g = (g.0, g.1, stays_on r t g.0 low low cells cells (omega arith) (omega arith) h g.2, g.3, g.4)
  first_stays n frames low cells r t K (fails v w) P f h g = (g.0, g.1, stays_on r t g.0 low low cells cells (omega arith) (omega arith) h g.2, g.3)
  first_stays n frames low cells r t K (out_of_steps w) P f h g = g
  first_stays n frames low cells r t K (needs ask w) P f h g = g

  -- more stays than is asked for
  pub lower : {A : Type 0} (n : ℕ) (frames : List Frame) (low high cells more : ℕ) (r : Registers) (K : Thread) (e : Ends A) (P : A → Registers → Type 0) (f : A → World → Registers → Thread) → low ≤ high → cells ≤ more → Goes n frames high more r K e P f → Goes n frames low cells r K e (λ a t. Stays r t high more × P a t) f
  lower n frames low high cells more r K (gives a w) P f x y g = (g.0, g.1, stays_less r g.0 high low more cells x y g.2, (g.2, g.3), g.4)
  lower n frames low high cells more r K (fails v w) P f x y g = (g.0, g.1, stays_less r g.0 high low more cells x y g.2, g.3)
  lower n frames low high cells more r K (out_of_steps w) P f x y g = g
  lower n frames low high cells more r K (needs ask w) P f x y g = g

  -- what takes no ticks beyond m takes none beyond n
  pub spend : {A : Type 0} (n m : ℕ) (frames : List Frame) (low cells : ℕ) (r : Registers) (K : Thread) (e : Ends A) (P : A → Registers → Type 0) (f : A → World → Registers → Thread) → m ≤ n → Goes m frames low cells r K e P f → Goes n frames low cells r K e P f
  spend n m frames low cells r K (gives a w) P f x g = (g.0, omega (arith, x, g.1), g.2, g.3, g.4)
  spend n m frames low cells r K (fails v w) P f x g = (g.0, omega (arith, x, g.1), g.2, g.3)
  spend n m frames low cells r K (out_of_steps w) P f x g = g
  spend n m frames low cells r K (needs ask w) P f x g = g

  -- One part and then another, which is followed from its own ticks on. What is known of n, that it is at most N, is
  -- handed on.
  pub both : {A B : Type 0} (N n : ℕ) → n ≤ N → (frames : List Frame) (low cells : ℕ) (r : Registers) (K : Thread) (e : Ends A) (P : A → Registers → Type 0) (f : A → World → Registers → Thread) (g : A → World → Ends B) (Q : B → Registers → Type 0) (h : B → World → Registers → Thread)
      → Goes n frames low cells r K e P f → ((a : A) (w : World) (t : Registers) → w.ticks ≤ N → Stays r t low cells → P a t → Goes w.ticks frames low cells t (f a w t) (g a w) Q h) → Goes n frames low cells r K (e >>> g) Q h
  both N n l frames low cells r K (gives a w) P f g Q h x y = first_stays n frames low cells r x.0 K (g a w) Q h x.2 (first_comes n frames low cells x.0 K (f a w x.0) (g a w) Q h x.4 (spend n w.ticks frames low cells x.0 (f a w x.0) (g a w) Q h x.1 (y a w x.0 (omega (arith, l, x.1)) x.2 x.3)))
  both N n l frames low cells r K (fails v w) P f g Q h x y = x
  both N n l frames low cells r K (out_of_steps w) P f g Q h x y = x
  both N n l frames low cells r K (needs ask w) P f g Q h x y = x

  -- the same part, and the machine goes on from where it came to
  pub then_on : {A : Type 0} (N n : ℕ) → n ≤ N → (frames : List Frame) (low cells : ℕ) (r : Registers) (K : Thread) (e : Ends A) (P : A → Registers → Type 0) (f : A → World → Registers → Thread) (Q : A → Registers → Type 0) (h : A → World → Registers → Thread)
      → Goes n frames low cells r K e P f → ((a : A) (w : World) (t : Registers) → w.ticks ≤ N → Stays r t low cells → P a t → Goes w.ticks frames low cells t (f a w t) (gives a w) Q h) → Goes n frames low cells r K e Q h
  then_on N n l frames low cells r K (gives a w) P f Q h x y = first_stays n frames low cells r x.0 K (gives a w) Q h x.2 (first_comes n frames low cells x.0 K (f a w x.0) (gives a w) Q h x.4 (spend n w.ticks frames low cells x.0 (f a w x.0) (gives a w) Q h x.1 (y a w x.0 (omega (arith, l, x.1)) x.2 x.3)))
  then_on N n l frames low cells r K (fails v w) P f Q h x y = x
  then_on N n l frames low cells r K (out_of_steps w) P f Q h x y = x
  then_on N n l frames low cells r K (needs ask w) P f Q h x y = x

  -- one instruction, which leads to a step
  pub one_step : (run : Running) (pc : ℕ) (frames : List Frame) (r : Registers) (w : World) (x : Instr) (y : Step) → slice_get (code_of run.code) pc ≡ Some x → act_on (at_pc run pc) frames r (state_of w) x ≡ y → Comes (going run pc frames w r) (stepping w y)
  one_step run pc frames r w x y h e k = (suc k, ap (λ o. after program (exec program k) (act_at (at_pc run pc) frames r (state_of w) o) w.replies) h ∙ ap (λ y. after program (exec program k) y w.replies) e)

  -- a tick
  pub tick_goes : {A : Type 0} (n m : ℕ) (frames : List Frame) (low cells : ℕ) (r : Registers) (w : World) (G : State → Step) (f : World → Ends A) (P : A → Registers → Type 0) (t : A → World → Registers → Thread) → w.ticks ≤ n → ((w' : World) → suc w'.ticks ≤ w.ticks → Goes w'.ticks frames low cells r (stepping w' (G (state_of w'))) (f w') P t) → m ≡ w.ticks → Goes n frames low cells r (stepping w (ticking m (state_of w) G)) (take_tick m w >>> λ a w. f w) P t
  tick_goes n zero frames low cells r w G f P t l h e = (0, refl)
  tick_goes n (suc m) frames low cells r w G f P t l h e = let w' : World = record w { ticks = m } in spend n m frames low cells r (stepping w' (G (state_of w'))) (f w') P t (omega (arith, l, e)) (h w' (omega (arith, e)))
