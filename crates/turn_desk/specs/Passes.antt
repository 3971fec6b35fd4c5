-- What contracts see of a desk and of a pass.
use Rattle.std.specs.Prelude.{◌≡◌, ◌≢◌, ℕ, ◌+◌, ◌<◌, ◌≤◌, Bool, true, false, List, [], ◌∷◌, map, length, count_by, slice_index, Contains, Option, None}
use mathlib.Core.Option.{some}
use lib.ListN.{get_elem?}
use Rattle.atomic_table.specs.Table.{Me}
use Rattle.atomic_table.specs.Seated.{TableId}
use Rattle.turn_desk.specs.declared.view.Phase.{Phase}
use Rattle.turn_desk.specs.declared.view.Phase.TheVariants.{Free, Taken, Published}
use Rattle.turn_desk.specs.declared.view.Spot.{Spot}
use Rattle.turn_desk.specs.declared.view.View.{View}
use Rattle.turn_desk.specs.declared.view.Refusal.{Refusal}
use Rattle.turn_desk.specs.Notes.{IsSigned}
use Rattle.turn_desk.specs.View.{spot}

-- which desk it is: its table, and how many passes it has
pub record DeskId : Type 0 where
  pub table : TableId
  pub seats : ℕ

-- how many objects the desk has
abbrev pub object_count : DeskId → ℕ
object_count desk = desk.table.slots

-- a pass: its desk, and what it knows
pub record Standing (E : Type 0) : Type 0 where
  pub desk : DeskId
  pub view : View E

abbrev pub is_free : Phase → Bool
is_free Free = true
is_free Taken = false
is_free Published = false

module _ {E : Type 0} where
  -- the fixed number of the object o
  abbrev pub fixed_at : View E → ℕ → ℕ
  fixed_at v o = slice_index v.fixed o

  -- how many objects the pass doesn't have
  abbrev pub free_count : View E → ℕ
  free_count v = count_by (λ (x : Spot E). is_free x.phase) v.spots

-- a pass of this desk: its number is from 1 to the number of passes, its lists have as much as there are objects, and it was refused by other passes of the desk alone
pub record IsPassOf {E : Type 0} (desk : DeskId) (p : Standing E) : Type 0 where
  pub own : p.desk ≡ desk
  pub real : 0 < p.view.number
  pub within : p.view.number ≤ desk.seats
  pub few : desk.seats ≤ 17
  pub seats : p.view.seats ≡ desk.seats
  pub wide : length p.view.spots ≡ object_count desk
  pub kinds : length p.view.fixed ≡ object_count desk
  pub refused : (k : ℕ) (r : Refusal) → get_elem? p.view.refused k ≡ some r
      → (r.seat ≡ p.view.number) × (0 < r.found) × (r.found ≤ desk.seats) × (r.found ≢ p.view.number)

-- the slot of a kept object is empty between two calls
abbrev pub empty_slot : {O : Type 0} → ℕ → ℕ × Option O
empty_slot o = (o, None)

-- a pass between two calls: it keeps the slots of just the objects that it has, and all of them are empty
pub record Keeps {O E : Type 0} (number : ℕ) (fronts kept : List ℕ) (room : ℕ) (table : TableId) (me : Me (Option O) (View E)) : Type 0 where
  pub named : number ≡ me.0.number
  pub real : 0 < number
  pub within : number ≤ me.0.seats
  pub few : me.0.seats ≤ 17
  pub alone : me.0.numbers ≡ number ∷ []
  pub ready : me.0.awaited ≡ 0
  pub wide : length me.0.spots ≡ table.slots
  pub kinds : length me.0.fixed ≡ table.slots
  pub signed : IsSigned me.0
  pub seen : fronts ≡ map (λ (x : Spot E). x.front) me.0.spots
  pub slots : me.1 ≡ map empty_slot kept
  pub covers : (o : ℕ) → (spot me.0 o).phase ≢ Free → Contains kept o
  pub counted : length kept + free_count me.0 ≡ table.slots
  pub roomy : table.slots ≤ room
