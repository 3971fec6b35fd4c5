-- What each step tells the pass that makes it.
use Rattle.std.specs.Prelude.{◌≡◌, ◌≢◌, ℕ, ◌+◌, ◌*◌, ◌^◌, ◌<◌, ◌≤◌, All, Bool, true, List, [], ◌∷◌, ◌++◌, length, slice_index, Option, Some, None}
use mathlib.Core.Option.{some}
use lib.ListN.{get_elem?}
use Rattle.atomic_table.specs.Table.{Me, Step, rest}
use Rattle.turn_desk.specs.declared.view.Look.{Look}
use Rattle.turn_desk.specs.declared.view.Phase.TheVariants.{Taken}
use Rattle.turn_desk.specs.declared.view.Refusal.{Refusal}
use Rattle.turn_desk.specs.declared.view.Told.{Told}
use Rattle.turn_desk.specs.declared.view.View.{View}
use Rattle.love_base.specs.Prefix.{IsPrefix}
use Rattle.turn_desk.specs.Notes.{IsShown}
use Rattle.turn_desk.specs.View.{spot, received, taken, refused, published, freed, looked, seated, brought}

-- a history goes on from all that a pass has seen of the object o, or was told of it: its known list and its looks
pub record Continues {E : Type 0} (summed : List E → ℕ) (between : List E → Bool) (v : View E) (o : ℕ) (log : List E) : Type 0 where
  pub known : IsPrefix (spot v o).known log
  pub front : (spot v o).front ≤ length log
  pub told : (k : ℕ) (t : Told E) → get_elem? (spot v o).told k ≡ some t → IsPrefix t.known log
  pub looks : (k : ℕ) (l : Look) → get_elem? v.looks k ≡ some l → l.object ≡ o → IsShown summed between log l

-- the pass has the object o with this history, and has published nothing since
pub record HasTaken {E : Type 0} (v : View E) (o : ℕ) (log : List E) : Type 0 where
  pub phase : (spot v o).phase ≡ Taken
  pub known : (spot v o).known ≡ log
  pub front : (spot v o).front ≡ length log

-- the number of one of the desk's passes, and not this one's
pub record IsOther {E : Type 0} (v : View E) (n : ℕ) : Type 0 where
  pub real : 0 < n
  pub within : n ≤ v.seats
  pub few : v.seats ≤ 17
  pub apart : n ≢ v.number

-- a tally is that of a history that goes on from all that the pass has seen, and leaves nobody inside a section
pub record IsTally {E : Type 0} (summed : List E → ℕ) (between : List E → Bool) (v : View E) (o place summary : ℕ) : Type 0 where
  pub log : List E
  pub continues : Continues summed between v o log
  pub rests : between log ≡ true
  pub long : length log ≡ place
  pub sum : summed log ≡ summary

module _ {E : Type 0} where
  -- each is a refusal of this pass at the object o, that found another pass's number
  abbrev pub AreRefusals : View E → ℕ → List Refusal → Type 0
  AreRefusals v o notes = All (λ (r : Refusal). (r.seat ≡ v.number) × (r.object ≡ o) × IsOther v r.found) notes

  -- takes of the object o were refused, and nothing else changed
  abbrev pub Noted : View E → ℕ → View E → Type 0
  Noted v o w =
      (notes : List Refusal) × AreRefusals v o notes × (w ≡ record v { refused = v.refused ++ notes })

  -- the object o was taken with this history, perhaps after some refusals
  abbrev pub TakesAfterRefusals : View E → ℕ → List E → View E → Type 0
  TakesAfterRefusals v o log w =
      (notes : List Refusal) × AreRefusals v o notes
      × (w ≡ taken o log (record v { refused = v.refused ++ notes }))

module _ {O E : Type 0} (history : O → List E) (number : O → ℕ) (summed : List E → ℕ) (between : List E → Bool) where
  -- the pass has the object o, which is x, with a history that goes on from all that it had seen
  pub record IsGot (v : View E) (o : ℕ) (x : O) : Type 0 where
    pub continues : Continues summed between v o (history x)
    pub rests : between (history x) ≡ true
    pub kind : number x ≡ slice_index v.fixed o

  -- a take: the turn word was free, and the object is in the pass's keeping; or another pass had it
  abbrev pub took : ℕ → Me (Option O) (View E) → ℕ → Me (Option O) (View E) → Type 0
  took o m found n =
      (found ≡ 0 → (x : O) × (n ≡ (taken o (history x) m.0, (o, Some x) ∷ m.1)) × IsGot m.0 o x)
      × (found ≢ 0 → (n ≡ (refused o found m.0, m.1)) × IsOther m.0 found)

module _ {O E : Type 0} (summed : List E → ℕ) (between : List E → Bool) where
  -- a look found the tally of a history, and is noted
  abbrev pub saw : ℕ → Me (Option O) (View E) → ℕ → Me (Option O) (View E) → Type 0
  saw o m found n =
      (place summary : ℕ) × (found ≡ place * 2 ^ 42 + summary) × (place < 2 ^ 22) × (summary < 2 ^ 42)
      × IsTally summed between m.0 o place summary × (n ≡ (looked o place summary m.0, m.1))

module _ {O E : Type 0} where
  -- a step at the turn word of an object, and one at its tally word
  abbrev pub at_turn : (ℕ → Me (Option O) (View E) → ℕ → Me (Option O) (View E) → Type 0) → Step (Option O) → Me (Option O) (View E) → ℕ → Me (Option O) (View E) → Type 0
  at_turn told st m found n = (o : ℕ) → st.word ≡ 8 * o → told o m found n

  abbrev pub at_tally : (ℕ → Me (Option O) (View E) → ℕ → Me (Option O) (View E) → Type 0) → Step (Option O) → Me (Option O) (View E) → ℕ → Me (Option O) (View E) → Type 0
  at_tally told st m found n = (o : ℕ) → st.word ≡ 8 * o + 1 → told o m found n

  -- the take of an object that hasn't been put in yet: its slot is empty
  abbrev pub took_vacant : ℕ → Me (Option O) (View E) → ℕ → Me (Option O) (View E) → Type 0
  took_vacant o m found n = (found ≡ 0) × (n ≡ (received o [] m.0, (o, None) ∷ m.1))

  -- the number of passes was brought
  abbrev pub seats_brought : ℕ → Step (Option O) → Me (Option O) (View E) → ℕ → Me (Option O) (View E) → Type 0
  seats_brought seats st m found n = n ≡ (seated seats m.0, m.1)

  -- the fixed number of the object o was brought
  abbrev pub number_brought : ℕ → ℕ → Step (Option O) → Me (Option O) (View E) → ℕ → Me (Option O) (View E) → Type 0
  number_brought o number st m found n = n ≡ (brought o number m.0, m.1)

  -- this history of the object o was published, which has all that the pass had seen to stand
  abbrev pub put_out : List E → ℕ → Me (Option O) (View E) → ℕ → Me (Option O) (View E) → Type 0
  put_out log o m found n = (n ≡ (published o log m.0, m.1)) × ((spot m.0 o).front ≤ length log)

  -- the object was given back, with its slot
  abbrev pub gave : ℕ → Me (Option O) (View E) → ℕ → Me (Option O) (View E) → Type 0
  gave o m found n = n ≡ (freed o m.0, rest m.1)
