-- Joining all passes into one, and what stands then.
use Rattle.std.proofs.Common.{◌≡◌, ◌≢◌, ◌⊎◌, ℕ, ◌+◌, ◌-◌, ◌*◌, ◌<◌, ◌≤◌, ◌==◌, Bool, zero, suc, List, [], ◌∷◌, ◌++◌, length, get_or, true, sym, refl, ap, ◌∙◌, subst, arith, Option, Some, sum_by, count_by, length-set, get_or-set_same, get_or-set_other}
use Rattle.std.proofs.lemmas.List.{get_or_past}
use Rattle.std.proofs.lemmas.List.Sums.{sum_by-cons}
use Rattle.std.proofs.Math.Nat.{le-max_left, le-max_right}
use mathlib.Core.Logic.{dite}
use mathlib.Core.Option.{some, some-injective, some-ne-none}
use native.Mathlib.Decide.{dec_le, ℕ_discrete}
use lib.ListN.{get_elem?}
use Rattle.atomic_table.specs.Table.{State, Seen, Me}
use Rattle.atomic_table.proofs.Lists.{at_longer}
use Rattle.turn_desk.specs.declared.view.Action.{Action}
use Rattle.turn_desk.specs.declared.view.Look.{Look}
use Rattle.turn_desk.specs.declared.view.Own.{Own}
use Rattle.turn_desk.specs.declared.view.Spot.{Spot}
use Rattle.turn_desk.specs.declared.view.Told.{Told}
use Rattle.turn_desk.specs.declared.view.View.{View}
use Rattle.love_base.specs.Prefix.{IsPrefix}
use Rattle.turn_desk.specs.Notes.{IsShown}
use Rattle.turn_desk.specs.View.{blank, spot, own_count, number_count, fronts_of, joined, both}
use Rattle.turn_desk.specs.Rule.{World, Knows, Desked, IsEntry, IsFresh}
use Rattle.turn_desk.specs.Closing.{HoldsNothing, gathered, placed, IsBack, Gathers}
use Rattle.turn_desk.proofs.Lists.{at_behind, sum_at, sum_alone}
use Rattle.turn_desk.proofs.Rule.{given, same_seat, at_most_one}
use Rattle.turn_desk.proofs.Notes.{both_numbers}
use Rattle.turn_desk.proofs.Seats.{alone_here, both_own_at}
use Rattle.turn_desk.proofs.Views.{joined_spot, length_joined}

module _ {E : Type 0} (summed : List E → ℕ) (between : List E → Bool) where
  -- what is true of a pass in a world: all that it saw, and the numbers that it knows
  pub record IsTrueIn (W : World E) (v : View E) : Type 0 where
    pub fixed : (o : ℕ) → o < W.objects → get_or v.fixed o 0 ≡ W.fixes o
    pub handed : (k : ℕ) (numbers : List ℕ) → get_elem? v.handed k ≡ some numbers → (o : ℕ) → o < W.objects → get_or numbers o 0 ≡ W.fixes o
    pub prefix : (o : ℕ) → o < W.objects → IsPrefix (spot v o).known (W.logs o)
    pub front : (o : ℕ) → o < W.objects → (spot v o).front ≤ length (W.logs o)
    pub told : (o : ℕ) → o < W.objects → (k : ℕ) (t : Told E) → get_elem? (spot v o).told k ≡ some t → IsPrefix t.known (W.logs o)
    pub own : (o : ℕ) → o < W.objects → (k : ℕ) (w : Own) → get_elem? (spot v o).own k ≡ some w → IsEntry W o w
    pub looks : (k : ℕ) (l : Look) → get_elem? v.looks k ≡ some l → IsShown summed between (W.logs l.object) l
    pub actions : (k : ℕ) (a : Action) → get_elem? v.actions k ≡ some a → IsFresh W a

  known_true : (W : World E) (v : View E) → Knows summed between W v → IsTrueIn W v
  known_true W v k = record { fixed = k.fixed; handed = k.handed; prefix = λ o _. k.prefix o; front = λ o _. (k.front o).1; told = λ o _. k.told o; own = λ o _. k.own o; looks = k.looks; actions = k.actions }

  module _ (W : World E) (v w : View E) (a : length v.spots ≡ W.objects) (b : length w.spots ≡ W.objects) (k : IsTrueIn W (both v w)) where
    here : (o : ℕ) → o < W.objects → spot (both v w) o ≡ joined w.number (spot v o) (spot w o)
    here o lt = joined_spot w.number v.spots w.spots o (omega arith) (omega arith)

    -- what is true of two passes together was true of the first
    left_true : IsTrueIn W v
    left_true = record {
      fixed = k.fixed;
      handed = λ i l e. k.handed i l (at_longer v.handed (w.fixed ∷ w.handed) i l e);
      prefix = λ o lt. subst (λ (x : Spot E). IsPrefix x.known (W.logs o)) (here o lt) (k.prefix o lt);
      front = λ o lt. let m = le-max_left (spot v o).front (spot w o).front in let n = subst (λ (x : Spot E). x.front ≤ length (W.logs o)) (here o lt) (k.front o lt) in omega arith;
      told = λ o lt i t e. k.told o lt i t (subst (λ (x : Spot E). get_elem? x.told i ≡ some t) (sym (here o lt)) (at_longer (spot v o).told (record { seat = w.number; known = (spot w o).known } ∷ (spot w o).told) i t e));
      own = λ o lt i z e. k.own o lt i z (subst (λ (x : Spot E). get_elem? x.own i ≡ some z) (sym (here o lt)) (at_longer (spot v o).own (spot w o).own i z e));
      looks = λ i l e. k.looks i l (at_longer v.looks w.looks i l e);
      actions = λ i a e. k.actions i a (at_longer v.actions w.actions i a e);
    }

    -- and of the second
    right_true : IsTrueIn W w
    right_true = record {
      fixed = k.handed (length v.handed + 0) w.fixed (at_behind v.handed (w.fixed ∷ w.handed) 0 w.fixed refl);
      handed = λ i l e. k.handed (length v.handed + suc i) l (at_behind v.handed (w.fixed ∷ w.handed) (suc i) l e);
      prefix = λ o lt. let t : Told E = record { seat = w.number; known = (spot w o).known } in
          k.told o lt (length (spot v o).told + 0) t (subst (λ (x : Spot E). get_elem? x.told (length (spot v o).told + 0) ≡ some t) (sym (here o lt)) (at_behind (spot v o).told (t ∷ (spot w o).told) 0 t refl));
      front = λ o lt. let m = le-max_right (spot v o).front (spot w o).front in let n = subst (λ (x : Spot E). x.front ≤ length (W.logs o)) (here o lt) (k.front o lt) in omega arith;
      told = λ o lt i t e. let first : Told E = record { seat = w.number; known = (spot w o).known } in
          k.told o lt (length (spot v o).told + suc i) t (subst (λ (x : Spot E). get_elem? x.told (length (spot v o).told + suc i) ≡ some t) (sym (here o lt)) (at_behind (spot v o).told (first ∷ (spot w o).told) (suc i) t e));
      own = λ o lt i z e. k.own o lt (length (spot v o).own + i) z (subst (λ (x : Spot E). get_elem? x.own (length (spot v o).own + i) ≡ some z) (sym (here o lt)) (at_behind (spot v o).own (spot w o).own i z e));
      looks = λ i l e. k.looks (length v.looks + i) l (at_behind v.looks w.looks i l e);
      actions = λ i a e. k.actions (length v.actions + i) a (at_behind v.actions w.actions i a e);
    }

module _ {E : Type 0} where
  -- all that is known of the passes that are given back
  abbrev Back : ℕ → ℕ → List (View E) → Type 0
  Back seats slots vs = (k : ℕ) (v : View E) → get_elem? vs k ≡ some v → IsBack seats slots v

  gathered_number : (base : View E) (vs : List (View E)) → (gathered base vs).number ≡ base.number
  gathered_number base [] = refl
  gathered_number base (v ∷ vs) = gathered_number base vs

  gathered_seats : (base : View E) (vs : List (View E)) → (gathered base vs).seats ≡ base.seats
  gathered_seats base [] = refl
  gathered_seats base (v ∷ vs) = gathered_seats base vs

  gathered_awaited : (base : View E) (vs : List (View E)) → (gathered base vs).awaited ≡ base.awaited
  gathered_awaited base [] = refl
  gathered_awaited base (v ∷ vs) = gathered_awaited base vs

  gathered_wide : (base : View E) (vs : List (View E)) → length (gathered base vs).spots ≡ length base.spots
  gathered_wide base [] = refl
  gathered_wide base (v ∷ vs) = length_joined v.number (gathered base vs).spots v.spots ∙ gathered_wide base vs

  -- the last of those that are given back
  base_back : (seats slots : ℕ) (base : View E) (vs : List (View E)) → Back seats slots (vs ++ base ∷ []) → IsBack seats slots base
  base_back seats slots base [] back = back 0 base refl
  base_back seats slots base (v ∷ vs) back = base_back seats slots base vs (λ k u e. back (suc k) u e)

  gathered_idle : (seats slots : ℕ) (base : View E) (vs : List (View E)) → Back seats slots (vs ++ base ∷ []) → HoldsNothing (gathered base vs)
  gathered_idle seats slots base [] back o = (back 0 base refl).idle o
  gathered_idle seats slots base (v ∷ vs) back o =
      let rest : Back seats slots (vs ++ base ∷ []) = λ k u e. back (suc k) u e in let one = back 0 v refl in let whole : length (gathered base vs).spots ≡ slots = gathered_wide base vs ∙ (base_back seats slots base vs rest).wide in
      let wide : length v.spots ≡ slots = one.wide in let joined_wide = length_joined v.number (gathered base vs).spots v.spots in dite (dec_le (o + 1) slots)
      (λ lt. ap (λ (x : Spot E). x.phase) (joined_spot v.number (gathered base vs).spots v.spots o (omega arith) (omega arith)) ∙ gathered_idle seats slots base vs rest o)
      (λ nlt. ap (λ (x : Spot E). x.phase) (get_or_past (both (gathered base vs) v).spots o blank (omega arith)))

  gathered_numbers : (n : ℕ) (base : View E) (vs : List (View E)) → number_count n (gathered base vs) ≡ sum_by (number_count n) (vs ++ base ∷ [])
  gathered_numbers n base [] = let a = sum_by-cons (number_count n) base [] in omega arith
  gathered_numbers n base (v ∷ vs) = let a = sum_by-cons (number_count n) v (vs ++ base ∷ []) in let b = both_numbers (gathered base vs) v n in let c = gathered_numbers n base vs in omega arith

  gathered_own : (seats slots o q : ℕ) (base : View E) (vs : List (View E)) → o < slots → Back seats slots (vs ++ base ∷ []) → own_count o q (gathered base vs) ≡ sum_by (own_count o q) (vs ++ base ∷ [])
  gathered_own seats slots o q base [] lt back = let a = sum_by-cons (own_count o q) base [] in omega arith
  gathered_own seats slots o q base (v ∷ vs) lt back =
      let rest : Back seats slots (vs ++ base ∷ []) = λ k u e. back (suc k) u e in let one = back 0 v refl in let wide : length v.spots ≡ slots = one.wide in
      let whole : length (gathered base vs).spots ≡ slots = gathered_wide base vs ∙ (base_back seats slots base vs rest).wide in
      let a = sum_by-cons (own_count o q) v (vs ++ base ∷ []) in let b = both_own_at (gathered base vs) v o q (omega arith) (omega arith) in let c = gathered_own seats slots o q base vs lt rest in omega arith

  -- a pass goes by one of its numbers
  pub numbered : (seats slots : ℕ) (v : View E) → IsBack seats slots v → number_count v.number v ≡ 1
  numbered seats slots v one = ap (λ (l : List ℕ). count_by (λ (k : ℕ). k == v.number) l) one.alone ∙ alone_here v.number v.number refl

  pub placed_length : (rows : List (List ℕ)) (vs : List (View E)) → length (placed rows vs) ≡ length rows
  placed_length rows [] = refl
  placed_length rows (v ∷ vs) = length-set (placed rows vs) (v.number - 1) (fronts_of v) ∙ placed_length rows vs

  -- each row is that of the pass of its number, as no two go by one number
  pub placed_row : (seats slots : ℕ) (rows : List (List ℕ)) (vs : List (View E)) → length rows ≡ seats → Back seats slots vs → ((n : ℕ) → sum_by (number_count n) vs ≤ 1)
      → (k : ℕ) (u : View E) → get_elem? vs k ≡ some u → get_or (placed rows vs) (u.number - 1) [] ≡ fronts_of u
  placed_row seats slots rows [] long back once k u e = absurd (some-ne-none u (sym e))
  placed_row seats slots rows (v ∷ vs) long back once zero u e =
      let one = back 0 v refl in let low : 0 < v.number = one.real in let high : v.number ≤ seats = one.within in let all = placed_length rows vs in
      subst (λ (w : View E). get_or (placed rows (v ∷ vs)) (w.number - 1) [] ≡ fronts_of w) (some-injective v u e) (get_or-set_same (placed rows vs) (v.number - 1) (fronts_of v) [] (omega arith))
  placed_row seats slots rows (v ∷ vs) long back once (suc k) u e =
      let one = back 0 v refl in let other = back (suc k) u e in let rest : Back seats slots vs = λ k u e. back (suc k) u e in
      let fewer : (n : ℕ) → sum_by (number_count n) vs ≤ 1 = λ n. (let a = sum_by-cons (number_count n) v vs in let b = once n in omega arith) in
      let apart : u.number ≢ v.number = λ q. (let a = sum_by-cons (number_count v.number) v vs in let b = once v.number in let c = numbered seats slots v one in
      let d : number_count v.number u ≡ 1 = ap (λ (n : ℕ). number_count n u) (sym q) ∙ numbered seats slots u other in let f = sum_at (number_count v.number) vs k u e in let z : ⊥ = omega arith in z) in
      let low : 0 < v.number = one.real in let low' : 0 < u.number = other.real in
      get_or-set_other (placed rows vs) (v.number - 1) (u.number - 1) (fronts_of v) [] (λ q. apart (omega arith)) ∙ placed_row seats slots rows vs long rest fewer k u e

module _ {E : Type 0} (summed : List E → ℕ) (between : List E → Bool) where
  gathered_true : (W : World E) (seats slots : ℕ) (base : View E) (vs : List (View E)) → slots ≡ W.objects → Back seats slots (vs ++ base ∷ []) → IsTrueIn summed between W (gathered base vs) → (k : ℕ) (u : View E) → get_elem? (vs ++ base ∷ []) k ≡ some u → IsTrueIn summed between W u
  gathered_true W seats slots base [] same back k zero u e = subst (IsTrueIn summed between W) (some-injective base u e) k
  gathered_true W seats slots base [] same back k (suc i) u e = absurd (some-ne-none u (sym e))
  gathered_true W seats slots base (v ∷ vs) same back k zero u e =
      let rest : Back seats slots (vs ++ base ∷ []) = λ k u e. back (suc k) u e in let whole = gathered_wide base vs ∙ ((base_back seats slots base vs rest).wide ∙ same) in
      subst (IsTrueIn summed between W) (some-injective v u e) (right_true summed between W (gathered base vs) v whole ((back 0 v refl).wide ∙ same) k)
  gathered_true W seats slots base (v ∷ vs) same back k (suc i) u e =
      let rest : Back seats slots (vs ++ base ∷ []) = λ k u e. back (suc k) u e in let whole = gathered_wide base vs ∙ ((base_back seats slots base vs rest).wide ∙ same) in
      gathered_true W seats slots base vs same rest (left_true summed between W (gathered base vs) v whole ((back 0 v refl).wide ∙ same) k) i u e

module _ {O E : Type 0} where
  -- what the others are joined into is a pass
  pub gathers_real : (seats slots : ℕ) (all left : List (View E)) (before rows : List (List ℕ)) (me : Me (Option O) (View E)) → Gathers seats slots all left before rows me → 0 < me.0.number
  gathers_real seats slots all left before rows me g = subst (λ (m : Me (Option O) (View E)). 0 < m.0.number) (sym g.joined) (subst (λ (n : ℕ). 0 < n) (sym (gathered_number g.base g.others)) (base_back seats slots g.base g.others g.back).real)

module _ {O E : Type 0} (history : O → List E) (number : O → ℕ) (summed : List E → ℕ) (between : List E → Bool) where
  abbrev Rule : State (Option O) (View E) → Type 0
  Rule = Desked history number summed between

  -- what stands at the object o once all passes are one that has nothing: the object is at home, and this is its history
  pub record IsHome (W : World E) (vs : List (View E)) (homes : List (mathlib.Core.Option.Option (Option O))) (o : ℕ) : Type 0 where
    pub object : O
    pub log : history object ≡ W.logs o
    pub rests : between (history object) ≡ true
    pub home : get_elem? homes o ≡ some (some (Some object))
    pub fixed : (k : ℕ) (v : View E) → get_elem? vs k ≡ some v → number object ≡ get_or v.fixed o 0
    pub seen : (k : ℕ) (v : View E) → get_elem? vs k ≡ some v → IsPrefix (spot v o).known (history object)
    pub front : (k : ℕ) (v : View E) → get_elem? vs k ≡ some v → (spot v o).front ≤ length (history object)
    pub once : (p : ℕ) → 0 < p → p ≤ length (history object) → sum_by (own_count o p) vs ≡ 1
    pub else : (p : ℕ) → (p ≡ 0) ⊎ (length (history object) < p) → sum_by (own_count o p) vs ≡ 0

  -- every pass that there is was joined into this one
  only_one : (seats id : ℕ) (v : View E) (s : State (Option O) (View E)) (r : Rule s) → get_elem? s.views id ≡ some v → r.world.seats ≡ seats → 0 < seats → ((n : ℕ) → 0 < n → n ≤ seats → 0 < number_count n v)
      → (j : ℕ) (u : View E) → get_elem? s.views j ≡ some u → 0 < u.number → id ≡ j
  only_one seats id v s r at agreed some_seat all j u there b =
      let own = (r.named j u there).own b in let n = given history number summed between s r j u.number u there own in let within : r.next ≤ r.world.seats + 1 = r.within (omega arith) in
      same_seat history number summed between s r u.number id j v u at there (all u.number n.0 (omega arith)) own

  -- no object is out
  turn_free : (seats id : ℕ) (v : View E) (s : State (Option O) (View E)) (r : Rule s) → get_elem? s.views id ≡ some v → r.world.seats ≡ seats → 0 < seats → ((n : ℕ) → 0 < n → n ≤ seats → 0 < number_count n v) → HoldsNothing v
      → (o : ℕ) → o < r.world.objects → get_or s.words (8 * o) 0 ≡ 0
  turn_free seats id v s r at agreed some_seat all idle o lt = let ob = r.objects o lt in dite (ℕ_discrete (get_or s.words (8 * o) 0) 0) (λ z. z)
      (λ ne. let a = ob.away ne in let j : ℕ = a.1 in let u : View E = a.2 in let here = only_one seats id v s r at agreed some_seat all j u a.3 (ob.busy j u a.3 a.5).1 in
      absurd (a.5 (ap (λ (z : View E). (spot z o).phase) (some-injective u v (sym a.3 ∙ (ap (get_elem? s.views) (sym here) ∙ at))) ∙ idle o)))

  -- the places that this pass says are its own are all that there are
  own_alone : (seats id : ℕ) (v : View E) (s : State (Option O) (View E)) (r : Rule s) → get_elem? s.views id ≡ some v → r.world.seats ≡ seats → 0 < seats → ((n : ℕ) → 0 < n → n ≤ seats → 0 < number_count n v)
      → (o p : ℕ) → sum_by (own_count o p) s.views ≡ own_count o p v
  own_alone seats id v s r at agreed some_seat all o p = sum_alone (own_count o p) s.views id v at
      (λ j u ne there. dite (ℕ_discrete u.number 0)
      (λ z. ap (λ (l : List (Spot E)). count_by (λ (w : Own). w.place == p) (get_or l o blank).own) ((r.named j u there).spent z))
      (λ nz. absurd (ne (sym (only_one seats id v s r at agreed some_seat all j u there (omega arith))))))

  pub all_home : (seats slots id : ℕ) (base : View E) (vs : List (View E)) (s : State (Option O) (View E)) → (seen : Seen Rule id (gathered base vs) s) → length s.homes ≡ slots → 0 < seats
      → ((k : ℕ) (v : View E) → get_elem? (vs ++ base ∷ []) k ≡ some v → IsBack seats slots v) → ((n : ℕ) → 0 < n → n ≤ seats → 0 < sum_by (number_count n) (vs ++ base ∷ []))
      → (o : ℕ) → o < slots → IsHome seen.0.world (vs ++ base ∷ []) s.homes o
  all_home seats slots id base vs s (r, at) deep some_seat back all o lt =
      let v : View E = gathered base vs in let first = base_back seats slots base vs back in let real : 0 < v.number = subst (λ (n : ℕ). 0 < n) (sym (gathered_number base vs)) first.real in
      let knows = r.knows id v at real in let agreed : r.world.seats ≡ seats = sym knows.seats ∙ (gathered_seats base vs ∙ first.agreed) in
      let objects : slots ≡ r.world.objects = sym deep ∙ r.deep in let inside : o < r.world.objects = omega arith in
      let none_awaited : r.world.awaited ≡ 0 = sym knows.awaited ∙ (gathered_awaited base vs ∙ first.ready) in
      let all' : (n : ℕ) → 0 < n → n ≤ seats → 0 < number_count n v = λ n low high. (let a = gathered_numbers n base vs in let b = all n low high in omega arith) in
      let free = turn_free seats id v s r at agreed some_seat all' (gathered_idle seats slots base vs back) o inside in let ob = r.objects o inside in let h = ob.home free (omega arith) in
      let true_of = gathered_true summed between r.world seats slots base vs objects back (known_true summed between r.world v knows) in let own = λ (p : ℕ). own_alone seats id v s r at agreed some_seat all' o p in let same = λ (p : ℕ). gathered_own seats slots o p base vs lt back in record {
        object = h.0;
        log = h.2;
        rests = ap between h.2 ∙ ob.rests;
        home = h.1;
        fixed = λ k u e. h.3 ∙ sym ((true_of k u e).fixed o inside);
        seen = λ k u e. subst (IsPrefix (spot u o).known) (sym h.2) ((true_of k u e).prefix o inside);
        front = λ k u e. subst (λ (l : List E). (spot u o).front ≤ length l) (sym h.2) ((true_of k u e).front o inside);
        once = λ p low high. let a = own p in let b = same p in let c = ob.once p low (subst (λ (l : List E). p ≤ length l) h.2 high) in omega arith;
        else = λ p out. let a = own p in let b = same p in let c = ob.else p (subst (λ (l : List E). (p ≡ 0) ⊎ (length l < p)) h.2 out) in omega arith;
      }

  -- what each of them knew is true
  pub all_true : (seats slots id : ℕ) (base : View E) (vs : List (View E)) (s : State (Option O) (View E)) → (seen : Seen Rule id (gathered base vs) s) → length s.homes ≡ slots
      → ((k : ℕ) (v : View E) → get_elem? (vs ++ base ∷ []) k ≡ some v → IsBack seats slots v) → (seen.0.world.objects ≡ slots) × ((k : ℕ) (u : View E) → get_elem? (vs ++ base ∷ []) k ≡ some u → IsTrueIn summed between seen.0.world u)
  all_true seats slots id base vs s (r, at) deep back =
      let v : View E = gathered base vs in let first = base_back seats slots base vs back in let real : 0 < v.number = subst (λ (n : ℕ). 0 < n) (sym (gathered_number base vs)) first.real in let objects : slots ≡ r.world.objects = sym deep ∙ r.deep in
      (sym objects, gathered_true summed between r.world seats slots base vs objects back (known_true summed between r.world v (r.knows id v at real)))

  -- no two of those that are given back go by one number
  pub numbers_apart : (seats slots id : ℕ) (base : View E) (vs : List (View E)) (s : State (Option O) (View E)) → Seen Rule id (gathered base vs) s → (n : ℕ) → sum_by (number_count n) (vs ++ base ∷ []) ≤ 1
  numbers_apart seats slots id base vs s (r, at) n = let a = gathered_numbers n base vs in let b = sum_at (number_count n) s.views id (gathered base vs) at in let c = at_most_one history number summed between s r n in omega arith
