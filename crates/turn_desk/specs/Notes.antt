-- What the notes of a pass say: who made them, how far they reach, and what they are true of.
use Rattle.std.specs.Prelude.{◌≡◌, ◌≢◌, ℕ, ◌+◌, ◌<◌, ◌≤◌, Bool, true, false, List, length, take, slice_index}
use mathlib.Core.Option.{some}
use lib.ListN.{get_elem?}
use Rattle.turn_desk.specs.declared.view.Action.{Action}
use Rattle.turn_desk.specs.declared.view.Look.{Look}
use Rattle.turn_desk.specs.declared.view.Own.{Own}
use Rattle.turn_desk.specs.declared.view.Refusal.{Refusal}
use Rattle.turn_desk.specs.declared.view.Told.{Told}
use Rattle.turn_desk.specs.declared.view.View.{View}
use Rattle.turn_desk.specs.View.{spot, number_count}

-- a change stands behind all that was there before, a meeting at the last of it or behind
abbrev pub step_of : Bool → ℕ
step_of true = 1
step_of false = 0

-- an action stands behind the first n entries of its object
abbrev pub IsPast : Action → ℕ → Type 0
IsPast a n = n + step_of a.changed ≤ a.place

module _ {E : Type 0} where
  -- each note bears one of the pass's numbers, and reaches no further than its fronts
  pub record IsSigned (v : View E) : Type 0 where
    pub own : (o k : ℕ) (w : Own) → get_elem? (spot v o).own k ≡ some w → 0 < number_count w.seat v
    pub told : (o k : ℕ) (t : Told E) → get_elem? (spot v o).told k ≡ some t → 0 < number_count t.seat v
    pub refused : (k : ℕ) (r : Refusal) → get_elem? v.refused k ≡ some r
        → (0 < number_count r.seat v) × (0 < r.found) × (r.found ≤ v.seats) × (r.found ≢ r.seat)
    pub looks : (k : ℕ) (l : Look) → get_elem? v.looks k ≡ some l
        → (0 < number_count l.seat v) × (l.place ≤ (spot v l.object).front)
    pub actions : (k : ℕ) (a : Action) → get_elem? v.actions k ≡ some a
        → (0 < number_count a.seat v) × ((b : ℕ) → slice_index a.fronts b ≤ (spot v b).front)

-- a history has so many entries as a look found, and the first so many have that summary and leave nobody inside a section
pub record IsShown {E : Type 0} (summed : List E → ℕ) (between : List E → Bool) (log : List E) (l : Look) : Type 0 where
  pub within : l.place ≤ length log
  pub summary : summed (take l.place log) ≡ l.summary
  pub rests : between (take l.place log) ≡ true
