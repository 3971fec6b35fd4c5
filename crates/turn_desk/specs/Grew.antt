-- What calls leave of what a pass knew.
use Rattle.std.specs.Prelude.{◌≡◌, ℕ, ◌-◌, ◌≤◌, ◌==◌, List, [], ◌++◌, length, if◌then◌else◌}
use Rattle.love_base.specs.Prefix.{IsPrefix}
use Rattle.turn_desk.specs.declared.view.Own.{Own}
use Rattle.turn_desk.specs.declared.view.View.{View}
use Rattle.turn_desk.specs.View.{spot, places, fronts_of}

-- known lists and fronts grew, own places were appended by just these at each object, and notes were only added
pub record Grew {E : Type 0} (made : ℕ → List Own) (v w : View E) : Type 0 where
  pub number : w.number ≡ v.number
  pub seats : w.seats ≡ v.seats
  pub fixed : w.fixed ≡ v.fixed
  pub wide : length w.spots ≡ length v.spots
  pub known : (o : ℕ) → IsPrefix (spot v o).known (spot w o).known
  pub front : (o : ℕ) → (spot v o).front ≤ (spot w o).front
  pub own : (o : ℕ) → (spot w o).own ≡ (spot v o).own ++ made o
  pub told : (o : ℕ) → (spot w o).told ≡ (spot v o).told
  pub refused : IsPrefix v.refused w.refused
  pub looks : IsPrefix v.looks w.looks
  pub actions : IsPrefix v.actions w.actions

-- no place was filled
abbrev pub nothing : ℕ → List Own
nothing o = []

-- these places were filled at the object o, and no others
abbrev pub made_at : ℕ → List Own → ℕ → List Own
made_at o places p = if p == o then places else []

-- the places that a release fills, where this history of the object o is given back
abbrev pub released_places : {E : Type 0} → ℕ → List E → View E → List Own
released_places o log v = places v.number o (fronts_of v) (length (spot v o).known) (length log - length (spot v o).known)

abbrev pub released_at : {E : Type 0} → ℕ → List E → View E → ℕ → List Own
released_at o log v = made_at o (released_places o log v)

-- first the ones, then the others
abbrev pub made_both : (ℕ → List Own) → (ℕ → List Own) → ℕ → List Own
made_both a b o = a o ++ b o
