-- What a pass knows, and how each step changes it.
use Rattle.std.specs.Prelude.{ℕ, ◌+◌, ◌-◌, ◌==◌, max, true, false, List, [], ◌∷◌, ◌++◌, map, length, replicate, slice_index_or, slice_set, count_by}
use Rattle.std.proofs.Common.{zero, suc}
use Rattle.turn_desk.specs.declared.view.Action.{Action}
use Rattle.turn_desk.specs.declared.view.Look.{Look}
use Rattle.turn_desk.specs.declared.view.Own.{Own}
use Rattle.turn_desk.specs.declared.view.Phase.TheVariants.{Free, Taken, Published}
use Rattle.turn_desk.specs.declared.view.Spot.{Spot}
use Rattle.turn_desk.specs.declared.view.View.{View}

-- the n places of the object o behind the first so many, filled by one pass that has these fronts: each entry carries its own place at o and the fronts elsewhere
abbrev pub places : ℕ → ℕ → List ℕ → ℕ → ℕ → List Own
places seat o fronts after zero = []
places seat o fronts after (suc n) =
    record { seat = seat; place = after + 1; carries = slice_set fronts o (after + 1) } ∷ places seat o fronts (after + 1) n

-- the same places as the actions that filled them
abbrev pub changes : ℕ → ℕ → List ℕ → ℕ → ℕ → List Action
changes seat o fronts after zero = []
changes seat o fronts after (suc n) =
    record { seat = seat; object = o; place = after + 1; changed = true; fronts = fronts } ∷ changes seat o fronts (after + 1) n

module _ {E : Type 0} where
  -- an object of which nothing is known
  abbrev pub blank : Spot E
  blank = record { phase = Free; known = []; front = 0; own = []; told = [] }

  -- what is known of the object o
  abbrev pub spot : View E → ℕ → Spot E
  spot v o = slice_index_or v.spots o blank

  abbrev pub with_spot : View E → ℕ → Spot E → View E
  with_spot v o x = record v { spots = slice_set v.spots o x }

  -- how often the pass says that it filled the place p of the object o
  abbrev pub own_count : ℕ → ℕ → View E → ℕ
  own_count o p v = count_by (λ (w : Own). w.place == p) (spot v o).own

  -- how often the number n stands among the pass's numbers
  abbrev pub number_count : ℕ → View E → ℕ
  number_count n v = count_by (λ (k : ℕ). k == n) v.numbers

  -- the fronts of the pass, one for each object
  abbrev pub fronts_of : View E → List ℕ
  fronts_of v = map (λ (x : Spot E). x.front) v.spots

  -- these actions were noted
  abbrev pub acted : List Action → View E → View E
  acted actions v = record v { actions = v.actions ++ actions }

  -- a meeting with the object o at this place that changed nothing
  abbrev pub meeting : ℕ → ℕ → View E → Action
  meeting o place v =
      record { seat = v.number; object = o; place = place; changed = false; fronts = fronts_of v }

  -- the object o came into the pass's keeping, with this history
  abbrev pub received : ℕ → List E → View E → View E
  received o log v =
      let x = spot v o in
      with_spot v o (record {
        phase = Taken;
        known = log;
        front = length log;
        own = x.own;
        told = x.told;
      })

  -- the object o was taken, with this history, and the take is noted as an action
  abbrev pub taken : ℕ → List E → View E → View E
  taken o log v = received o log (acted (meeting o (length log) v ∷ []) v)

  -- a take of the object o found another number
  abbrev pub refused : ℕ → ℕ → View E → View E
  refused o found v =
      record v { refused = v.refused ++ record { seat = v.number; object = o; found = found } ∷ [] }

  -- this history of the object o was shown to all: what is new in it is the pass's own
  abbrev pub shown : ℕ → List E → View E → View E
  shown o log v =
      let x = spot v o in
      with_spot v o (record {
        phase = Published;
        known = log;
        front = length log;
        own = x.own ++ places v.number o (fronts_of v) (length x.known) (length log - length x.known);
        told = x.told;
      })

  -- this history of the object o was published: what is new in it is the pass's own, and each new place is noted as a change
  abbrev pub published : ℕ → List E → View E → View E
  published o log v =
      let x = spot v o in
      shown o log (acted (changes v.number o (fronts_of v) (length x.known) (length log - length x.known)) v)

  -- so many entries of the object o were seen to stand
  abbrev pub raised : ℕ → ℕ → View E → View E
  raised o place v =
      let x = spot v o in
      with_spot v o (record {
        phase = x.phase;
        known = x.known;
        front = place;
        own = x.own;
        told = x.told;
      })

  abbrev pub with_look : Look → View E → View E
  with_look look v = record v { looks = v.looks ++ look ∷ [] }

  -- a look at the object o found a history of this length, with this summary
  abbrev pub looked : ℕ → ℕ → ℕ → View E → View E
  looked o place summary v =
      with_look (record { seat = v.number; object = o; place = place; summary = summary }) (raised o place (acted (meeting o place v ∷ []) v))

  -- the object o was given back
  abbrev pub freed : ℕ → View E → View E
  freed o v =
      let x = spot v o in
      with_spot v o (record {
        phase = Free;
        known = x.known;
        front = x.front;
        own = x.own;
        told = x.told;
      })

  -- the number of passes was brought
  abbrev pub seated : ℕ → View E → View E
  seated seats v = record v { seats = seats }

  -- the object o was put in, with this fixed number
  abbrev pub brought : ℕ → ℕ → View E → View E
  brought o number v = record v { awaited = o; fixed = slice_set v.fixed o number }

  -- a pass was made
  abbrev pub makes_one : View E → View E
  makes_one v = record v { next = v.next + 1 }

  -- what the pass that was made knows
  abbrev pub newcomer : View E → View E
  newcomer v = record {
    number = v.next;
    numbers = v.next ∷ [];
    seats = v.seats;
    next = 0;
    awaited = v.awaited;
    fixed = v.fixed;
    handed = [];
    spots = replicate (length v.spots) blank;
    refused = [];
    looks = [];
    actions = [];
  }

  -- what is known of one object once the pass of this number is joined in
  abbrev pub joined : ℕ → Spot E → Spot E → Spot E
  joined seat x y = record {
    phase = x.phase;
    known = x.known;
    front = max x.front y.front;
    own = x.own ++ y.own;
    told = x.told ++ record { seat = seat; known = y.known } ∷ y.told;
  }

  -- the same for each object
  abbrev pub all_joined : ℕ → List (Spot E) → List (Spot E) → List (Spot E)
  all_joined seat [] ys = []
  all_joined seat (x ∷ xs) [] = x ∷ xs
  all_joined seat (x ∷ xs) (y ∷ ys) = joined seat x y ∷ all_joined seat xs ys

  -- the second is joined into the first, and hands over what it has
  abbrev pub both : View E → View E → View E
  both v w = record v {
    numbers = v.numbers ++ w.numbers;
    handed = v.handed ++ w.fixed ∷ w.handed;
    spots = all_joined w.number v.spots w.spots;
    refused = v.refused ++ w.refused;
    looks = v.looks ++ w.looks;
    actions = v.actions ++ w.actions;
  }

  -- what is left of a pass that was joined into another
  abbrev pub spent : View E
  spent = record {
    number = 0;
    numbers = [];
    seats = 0;
    next = 0;
    awaited = 0;
    fixed = [];
    handed = [];
    spots = [];
    refused = [];
    looks = [];
    actions = [];
  }

  -- what a pass knows that was just made, of so many objects with these fixed numbers, none of which is awaited
  abbrev pub opening : ℕ → ℕ → ℕ → ℕ → List ℕ → View E
  opening number next seats awaited fixed = record {
    number = number;
    numbers = number ∷ [];
    seats = seats;
    next = next;
    awaited = awaited;
    fixed = fixed;
    handed = [];
    spots = replicate (length fixed) blank;
    refused = [];
    looks = [];
    actions = [];
  }
