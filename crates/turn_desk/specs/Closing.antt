-- What stands once all passes of a desk are given back.
use Rattle.std.specs.Prelude.{◌≡◌, ℕ, ◌+◌, ◌-◌, ◌<◌, ◌≤◌, Bool, Contains, List, [], ◌∷◌, ◌++◌, map, length, slice_index, slice_index_or, slice_get, slice_set, sum_by, Option, Some}
use lib.ListN.{get_elem?}
use mathlib.Core.Option.{some}
use Rattle.atomic_table.specs.Table.{Me}
use Rattle.turn_desk.specs.declared.view.Phase.TheVariants.{Free}
use Rattle.turn_desk.specs.declared.view.Action.{Action}
use Rattle.turn_desk.specs.declared.view.Look.{Look}
use Rattle.turn_desk.specs.declared.view.Own.{Own}
use Rattle.turn_desk.specs.declared.view.View.{View}
use Rattle.turn_desk.specs.Notes.{IsPast, IsShown, IsSigned}
use Rattle.turn_desk.specs.Passes.{DeskId, Standing}
use Rattle.turn_desk.specs.View.{spot, fronts_of, own_count, both}

-- the front with which the pass of this number was given back, at the object o
abbrev pub front_of : List (List ℕ) → ℕ → ℕ → ℕ
front_of rows seat o = slice_index (slice_index_or rows (seat - 1) []) o

module _ {E : Type 0} where
  abbrev pub numbers_of : List (Standing E) → List ℕ
  numbers_of passes = map (λ (p : Standing E). p.view.number) passes

  abbrev pub views_of : List (Standing E) → List (View E)
  views_of passes = map (λ (p : Standing E). p.view) passes

  -- the pass has no object
  abbrev pub HoldsNothing : View E → Type 0
  HoldsNothing v = (o : ℕ) → (spot v o).phase ≡ Free

  -- how often all passes together say that they filled the place p of the object o
  abbrev pub own_total : ℕ → ℕ → List (Standing E) → ℕ
  own_total o p passes = sum_by (λ (s : Standing E). own_count o p s.view) passes

  -- each look at the object o reaches no further than the pass's front, and the history has what it found
  abbrev pub LooksStand : (List E → ℕ) → (List E → Bool) → View E → ℕ → List E → Type 0
  LooksStand summed between v o log = (k : ℕ) (l : Look) → get_elem? v.looks k ≡ some l → l.object ≡ o
      → (l.place ≤ (spot v o).front) × IsShown summed between log l

  -- each entry that the pass made at the object o stands in the history, and carries its place there
  abbrev pub EntriesStand : View E → ℕ → List E → Type 0
  EntriesStand v o log = (k : ℕ) (w : Own) → get_elem? (spot v o).own k ≡ some w
      → (0 < w.place) × (w.place ≤ length log) × (slice_index w.carries o ≡ w.place)

  -- no entry that the pass made at any object carries more at the object b than its history has
  abbrev pub EntriesCarry : View E → ℕ → List E → Type 0
  EntriesCarry v b log = (o k : ℕ) (w : Own) → get_elem? (spot v o).own k ≡ some w → slice_index w.carries b ≤ length log

  -- each action of the pass is noted with fronts that it has now, and stands nowhere behind that of its object
  abbrev pub ActionsStand : View E → Type 0
  ActionsStand v = (k : ℕ) (a : Action) → get_elem? v.actions k ≡ some a
      → IsPast a (slice_index a.fronts a.object) × ((b : ℕ) → slice_index a.fronts b ≤ (spot v b).front)

  -- no action of the first pass stands behind what an entry carries that the second made and the first had seen before
  abbrev pub ActionsFollow : View E → View E → Type 0
  ActionsFollow v u = (k : ℕ) (a : Action) → get_elem? v.actions k ≡ some a → (b i : ℕ) (w : Own) → get_elem? (spot u b).own i ≡ some w
      → w.place ≤ slice_index a.fronts b → IsPast a (slice_index w.carries a.object)

  -- the first view, once all the others were joined in
  abbrev pub gathered : View E → List (View E) → View E
  gathered base [] = base
  gathered base (v ∷ vs) = both (gathered base vs) v

  -- the rows of fronts, with that of each pass put in its place
  abbrev pub placed : List (List ℕ) → List (View E) → List (List ℕ)
  placed rows [] = rows
  placed rows (v ∷ vs) = slice_set (placed rows vs) (v.number - 1) (fronts_of v)

  -- a pass that is given back to a desk of so many passes and objects, and has no object
  pub record IsBack (seats slots : ℕ) (v : View E) : Type 0 where
    pub real : 0 < v.number
    pub within : v.number ≤ seats
    pub agreed : v.seats ≡ seats
    pub alone : v.numbers ≡ v.number ∷ []
    pub ready : v.awaited ≡ 0
    pub wide : length v.spots ≡ slots
    pub idle : HoldsNothing v
    pub signed : IsSigned v

-- what holds of each object of a list, by its place
abbrev pub AtEachObject : {O : Type 0} → List O → (ℕ → O → Type 0) → Type 0
AtEachObject {O} xs P = (o : ℕ) (x : O) → slice_get xs o ≡ Some x → P o x

-- there is an object in each slot
abbrev pub AllFilled : {O : Type 0} → List (Option O) → Type 0
AllFilled {O} slots = (o : ℕ) → o < length slots → (x : O) × (get_elem? slots o ≡ some (Some x))

-- the passes that are left, while the others were joined into one
pub record Gathers {O E : Type 0} (seats slots : ℕ) (all left : List (View E)) (before rows : List (List ℕ)) (me : Me (Option O) (View E)) : Type 0 where
  pub base : View E
  pub others : List (View E)
  pub parts : left ++ (others ++ base ∷ []) ≡ all
  pub joined : me ≡ (gathered base others, [])
  pub back : (k : ℕ) (v : View E) → get_elem? (others ++ base ∷ []) k ≡ some v → IsBack seats slots v
  pub shown : rows ≡ placed before (others ++ base ∷ [])

-- a pass of this desk that has no object
abbrev pub IsReady : {E : Type 0} → DeskId → Standing E → Type 0
IsReady desk p = (p.desk ≡ desk) × HoldsNothing p.view

-- all passes of the desk are given back: each of its numbers is that of one of these
abbrev pub AreAllBack : {E : Type 0} → DeskId → List (Standing E) → Type 0
AreAllBack desk passes = (n : ℕ) → 0 < n → n ≤ desk.seats → Contains (numbers_of passes) n

-- the passes are numbered from 1, in order
abbrev pub AreNumbered : {E : Type 0} → List (Standing E) → Type 0
AreNumbered {E} passes = (k : ℕ) (d : Standing E) → k < length passes → (slice_index_or passes k d).view.number ≡ k + 1
