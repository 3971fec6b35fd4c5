-- The desk rule: what holds of the words, the slots and the views of all passes between any two steps.
use Rattle.std.specs.Prelude.{◌≡◌, ◌≢◌, ◌⊎◌, ℕ, ◌+◌, ◌*◌, ◌^◌, ◌<◌, ◌≤◌, Bool, true, List, [], length, sum_by, slice_index, Option, Some, None}
use mathlib.Core.Option.{some, none}
use mathlib.Core.Option as maybe
use lib.ListN.{get_elem?}
use Rattle.atomic_table.specs.Table.{State}
use Rattle.turn_desk.specs.declared.view.Action.{Action}
use Rattle.turn_desk.specs.declared.view.Look.{Look}
use Rattle.turn_desk.specs.declared.view.Own.{Own}
use Rattle.turn_desk.specs.declared.view.Phase.TheVariants.{Free}
use Rattle.turn_desk.specs.declared.view.Told.{Told}
use Rattle.turn_desk.specs.declared.view.View.{View}
use Rattle.love_base.specs.Prefix.{IsPrefix}
use Rattle.turn_desk.specs.Notes.{IsPast, IsShown, IsSigned}
use Rattle.turn_desk.specs.View.{spot, own_count, number_count}

-- what all passes agree on: the numbers stay, and the histories only grow
pub record World (E : Type 0) : Type 0 where
  pub objects : ℕ
  -- how many passes the desk has; 0 until it is brought
  pub seats : ℕ
  -- the objects below this number haven't been put in yet
  pub awaited : ℕ
  -- the published history of each object
  pub logs : ℕ → List E
  -- what the entry at each place of it carries, a number for each object
  pub carries : ℕ → ℕ → List ℕ
  -- the fixed number of each object
  pub fixes : ℕ → ℕ

-- the second world stands later than the first
pub record Later {E : Type 0} (W W' : World E) : Type 0 where
  pub objects : W'.objects ≡ W.objects
  pub seats : W'.seats ≡ W.seats
  pub awaited : W'.awaited ≡ W.awaited
  pub fixes : (o : ℕ) → W'.fixes o ≡ W.fixes o
  pub logs : (o : ℕ) → IsPrefix (W.logs o) (W'.logs o)
  pub carries : (o i : ℕ) → i ≤ length (W.logs o) → W'.carries o i ≡ W.carries o i

-- the tally of a history: its length in the 22 high bits, its summary in the 42 low ones
abbrev pub tally_of : {E : Type 0} → (List E → ℕ) → List E → ℕ
tally_of summed log = length log * 2 ^ 42 + summed log

module _ {E : Type 0} where
  -- each entry carries its place at its own object, and nowhere more than there is
  abbrev pub AreCarried : World E → Type 0
  AreCarried W = (o i : ℕ) → 0 < i → i ≤ length (W.logs o)
      → (slice_index (W.carries o i) o ≡ i) × ((b : ℕ) → slice_index (W.carries o i) b ≤ length (W.logs b))

  -- an action stands nowhere behind what its pass had seen of its object, nor behind what the entries carry that it had seen
  pub record IsFresh (W : World E) (a : Action) : Type 0 where
    pub here : IsPast a (slice_index a.fronts a.object)
    pub there : (b i : ℕ) → 0 < i → i ≤ slice_index a.fronts b → IsPast a (slice_index (W.carries b i) a.object)

  -- an entry stands in the history, and carries what is said
  pub record IsEntry (W : World E) (o : ℕ) (w : Own) : Type 0 where
    pub real : 0 < w.place
    pub within : w.place ≤ length (W.logs o)
    pub carries : w.carries ≡ W.carries o w.place

module _ {E : Type 0} (summed : List E → ℕ) (between : List E → Bool) where
  -- what a pass knows is true, and stays so in every later world
  pub record Knows (W : World E) (v : View E) : Type 0 where
    pub wide : length v.spots ≡ W.objects
    pub seats : v.seats ≡ W.seats
    pub awaited : v.awaited ≡ W.awaited
    pub kinds : length v.fixed ≡ W.objects
    pub fixed : (o : ℕ) → o < W.objects → slice_index v.fixed o ≡ W.fixes o
    pub handed : (k : ℕ) (numbers : List ℕ) → get_elem? v.handed k ≡ some numbers
        → (o : ℕ) → o < W.objects → slice_index numbers o ≡ W.fixes o
    pub prefix : (o : ℕ) → IsPrefix (spot v o).known (W.logs o)
    pub front : (o : ℕ) → (length (spot v o).known ≤ (spot v o).front) × ((spot v o).front ≤ length (W.logs o))
    pub told : (o k : ℕ) (t : Told E) → get_elem? (spot v o).told k ≡ some t → IsPrefix t.known (W.logs o)
    pub own : (o k : ℕ) (w : Own) → get_elem? (spot v o).own k ≡ some w → IsEntry W o w
    pub looks : (k : ℕ) (l : Look) → get_elem? v.looks k ≡ some l → IsShown summed between (W.logs l.object) l
    pub actions : (k : ℕ) (a : Action) → get_elem? v.actions k ≡ some a → IsFresh W a
    pub signed : IsSigned v

module _ {E : Type 0} where
  -- who the pass in the seat j is: number 1 makes the others, and one that was joined in has nothing left
  pub record Named (next maker j : ℕ) (v : View E) : Type 0 where
    pub own : 0 < v.number → 0 < number_count v.number v
    pub makes : 0 < v.next → (v.next ≡ next) × (j ≡ maker) × (v.number ≡ 1)
    pub spent : v.number ≡ 0 → v.spots ≡ []

module _ {O E : Type 0} (history : O → List E) (number : O → ℕ) (summed : List E → ℕ) (between : List E → Bool) where
  -- one object: its turn word, its tally word and its slot, who has it, and who filled each place
  pub record ObjectOk (words : List ℕ) (homes : List (maybe.Option (Option O))) (views : List (View E)) (W : World E) (o : ℕ) : Type 0 where
    pub tally : slice_index words (8 * o + 1) ≡ tally_of summed (W.logs o)
    pub short : length (W.logs o) < 2 ^ 22
    pub small : summed (W.logs o) < 2 ^ 42
    pub rests : between (W.logs o) ≡ true
    pub fresh : o < W.awaited → W.logs o ≡ []
    pub vacant : slice_index words (8 * o) ≡ 0 → o < W.awaited → get_elem? homes o ≡ some (some None)
    pub home : slice_index words (8 * o) ≡ 0 → W.awaited ≤ o
        → (x : O) × (get_elem? homes o ≡ some (some (Some x)))
        × (history x ≡ W.logs o) × (number x ≡ W.fixes o)
    pub away : slice_index words (8 * o) ≢ 0
        → (get_elem? homes o ≡ some none) × (j : ℕ) × (v : View E) × (get_elem? views j ≡ some v)
        × (v.number ≡ slice_index words (8 * o)) × ((spot v o).phase ≢ Free)
    pub busy : (j : ℕ) (v : View E) → get_elem? views j ≡ some v → (spot v o).phase ≢ Free
        → (slice_index words (8 * o) ≡ v.number) × (0 < v.number) × ((spot v o).known ≡ W.logs o)
    pub once : (p : ℕ) → 0 < p → p ≤ length (W.logs o) → sum_by (own_count o p) views ≡ 1
    pub else : (p : ℕ) → (p ≡ 0) ⊎ (length (W.logs o) < p) → sum_by (own_count o p) views ≡ 0

  -- the words of an object stand 8 apart from those of the next: its turn word, then its tally word
  pub record Desked (s : State (Option O) (View E)) : Type 0 where
    pub world : World E
    -- the number of the next pass to be made, and the seat of the pass that makes it
    pub next : ℕ
    pub maker : ℕ
    pub wide : length s.words ≡ 8 * world.objects
    pub deep : length s.homes ≡ world.objects
    pub within : 0 < world.seats → next ≤ world.seats + 1
    pub most : world.seats ≤ 17
    pub once : (n : ℕ) → 0 < n → n < next → sum_by (number_count n) s.views ≡ 1
    pub else : (n : ℕ) → (n ≡ 0) ⊎ (next ≤ n) → sum_by (number_count n) s.views ≡ 0
    pub carried : AreCarried world
    pub objects : (o : ℕ) → o < world.objects → ObjectOk s.words s.homes s.views world o
    pub named : (j : ℕ) (v : View E) → get_elem? s.views j ≡ some v → Named next maker j v
    pub knows : (j : ℕ) (v : View E) → get_elem? s.views j ≡ some v → 0 < v.number → Knows summed between world v
