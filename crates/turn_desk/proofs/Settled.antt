-- What stands of a desk once its table is closed, in the terms of the passes that were given back.
use Rattle.std.proofs.Common.{◌≡◌, ◌⊎◌, ℕ, ◌+◌, ◌-◌, ◌<◌, ◌≤◌, Bool, zero, suc, List, [], ◌∷◌, ◌++◌, map, length, get_or, set, sym, refl, ap, ◌∙◌, subst, arith, Option, Some, All, Contains, sum_by, slice_get, take, true, false, get_or-set_same, get_or-set_other}
use Rattle.std.proofs.lemmas.List.{get_or_past, length-map}
use Rattle.std.proofs.lemmas.List.Sums.{sum_by-cons}
use mathlib.Core.Logic.{dite}
use native.Mathlib.Decide.{dec_le, ℕ_discrete}
use mathlib.Core.Option.{some, some-injective, some-ne-none}
use lib.ListN.{get_elem?}
use Rattle.atomic_table.specs.Table.{Final, Seen, Me}
use Rattle.turn_desk.specs.declared.view.Spot.{Spot}
use Rattle.turn_desk.specs.declared.view.View.{View}
use Rattle.love_base.specs.Prefix.{IsPrefix}
use Rattle.turn_desk.specs.declared.view.Own.{Own}
use Rattle.turn_desk.specs.Notes.{IsPast, IsShown}
use Rattle.turn_desk.specs.View.{blank, spot, fronts_of, own_count, number_count}
use Rattle.turn_desk.specs.Rule.{World, Desked, IsEntry}
use Rattle.turn_desk.specs.Passes.{Standing, fixed_at}
use Rattle.turn_desk.specs.Closing.{numbers_of, views_of, own_total, front_of, gathered, Gathers, AtEachObject, AllFilled, LooksStand, EntriesStand, EntriesCarry, ActionsStand, ActionsFollow}
use Rattle.turn_desk.proofs.Lists.{at_below, map_default, sum_at}
use Rattle.turn_desk.proofs.AllBack.{IsHome, IsTrueIn, all_home, all_true, numbers_apart, numbered, placed_row, placed_length}

module _ {A : Type 0} where
  pub some_at : (xs : List A) (k : ℕ) → k < length xs → (x : A) × (get_elem? xs k ≡ some x)
  some_at [] k lt = absurd (omega arith)
  some_at (x ∷ xs) zero lt = (x, refl)
  some_at (x ∷ xs) (suc k) lt = some_at xs k (omega arith)

  pub or_at : (xs : List A) (k : ℕ) (d : A) → k < length xs → get_elem? xs k ≡ some (get_or xs k d)
  or_at [] k d lt = absurd (omega arith)
  or_at (x ∷ xs) zero d lt = refl
  or_at (x ∷ xs) (suc k) d lt = or_at xs k d (omega arith)

  map_at : {B : Type 0} (f : A → B) (xs : List A) (k : ℕ) (x : A) → get_elem? xs k ≡ some x → get_elem? (map f xs) k ≡ some (f x)
  map_at f [] k x e = absurd (some-ne-none x (sym e))
  map_at f (y ∷ ys) zero x e = ap (λ (z : A). some (f z)) (some-injective y x e)
  map_at f (y ∷ ys) (suc k) x e = map_at f ys k x e

  pub map_or : {B : Type 0} (f : A → B) (xs : List A) (k : ℕ) (x : A) (d : B) → get_elem? xs k ≡ some x → get_or (map f xs) k d ≡ f x
  map_or f [] k x d e = absurd (some-ne-none x (sym e))
  map_or f (y ∷ ys) zero x d e = ap f (some-injective y x e)
  map_or f (y ∷ ys) (suc k) x d e = map_or f ys k x d e

  sum_map : {B : Type 0} (f : B → ℕ) (h : A → B) (xs : List A) → sum_by f (map h xs) ≡ sum_by (λ x. f (h x)) xs
  sum_map f h [] = refl
  sum_map f h (x ∷ xs) = let a = sum_by-cons f (h x) (map h xs) in let b = sum_by-cons (λ (y : A). f (h y)) x xs in let c = sum_map f h xs in omega arith

  -- what a list gives at a place stands there
  got_at : (xs : List A) (k : ℕ) (x : A) → slice_get xs k ≡ Some x → get_elem? (map Some xs) k ≡ some (Some x)
  got_at [] k x e = cc
  got_at (y ∷ ys) zero x e = ap some e
  got_at (y ∷ ys) (suc k) x e = got_at ys k x e

-- one element more of a list
pub take_next : {A : Type 0} (l : List A) (k : ℕ) (x : A) → get_elem? l k ≡ some x → take (k + 1) l ≡ take k l ++ x ∷ []
take_next [] k x e = absurd (some-ne-none x (sym e))
take_next (y ∷ ys) zero x e = ap (λ z. z ∷ []) (some-injective y x e)
take_next (y ∷ ys) (suc k) x e = let z : suc k + 1 ≡ suc (k + 1) = omega arith in ap (λ (n : ℕ). take n (y ∷ ys)) z ∙ ap (λ l. y ∷ l) (take_next ys k x e)

-- one slot more is empty
pub emptied_more : (flags flags' : List Bool) (o : ℕ) → flags' ≡ set flags o false → o < length flags → ((k : ℕ) → k < o → get_or flags k false ≡ false) → (k : ℕ) → k < o + 1 → get_or flags' k false ≡ false
emptied_more flags flags' o e inside so_far k lt = ap (λ (l : List Bool). get_or l k false) e ∙ dite (ℕ_discrete k o)
    (λ q. ap (λ (n : ℕ). get_or (set flags o false) n false) q ∙ get_or-set_same flags o false false inside) (λ ne. get_or-set_other flags o k false false ne ∙ so_far k (omega arith))

default_at : {A : Type 0} (xs : List A) (k : ℕ) (c d : A) → k < length xs → get_or xs k c ≡ get_or xs k d
default_at [] k c d lt = absurd (omega arith)
default_at (x ∷ xs) zero c d lt = refl
default_at (x ∷ xs) (suc k) c d lt = default_at xs k c d (omega arith)

unwrapped : {A : Type 0} (x y : A) → Some x ≡ Some y → x ≡ y
unwrapped x y e = cc

module _ {O E : Type 0} (history : O → List E) (number : O → ℕ) (summed : List E → ℕ) (between : List E → Bool) (seats slots id : ℕ) (passes : List (Standing E)) (before rows : List (List ℕ)) (me : Me (Option O) (View E)) (words : List ℕ) (xs : List (Option O)) (objects : List O)
    (f : Final (Seen (Desked history number summed between) id me.0) words xs) (g : Gathers seats slots (views_of passes) [] before rows me) (some_seat : 0 < seats) (all : (n : ℕ) → 0 < n → n ≤ seats → Contains (numbers_of passes) n)
    (long_rows : length before ≡ seats) (deep : length xs ≡ slots) where
  -- the views of the passes that were given back
  abbrev vs : List (View E)
  vs = g.others ++ g.base ∷ []

  seen : Seen (Desked history number summed between) id (gathered g.base g.others) f.0
  seen = subst (λ (v : View E). Seen (Desked history number summed between) id v f.0) (ap (λ (m : Me (Option O) (View E)). m.0) g.joined) f.1

  pass_at : (k : ℕ) (p : Standing E) → get_elem? passes k ≡ some p → get_elem? vs k ≡ some p.view
  pass_at k p e = ap (λ (l : List (View E)). get_elem? l k) g.parts ∙ map_at (λ (q : Standing E). q.view) passes k p e

  -- the pass of each number was given back
  given_back : (n : ℕ) → 0 < n → n ≤ seats → (k : ℕ) × (v : View E) × (get_elem? vs k ≡ some v) × (v.number ≡ n)
  given_back n low high = let h = all n low high in let long = length-map passes (λ (p : Standing E). p.view.number) in let p = some_at passes h.0 (let lt = h.1 in omega arith) in
      (h.0, p.0.view, pass_at h.0 p.0 p.1, sym (map_or (λ (q : Standing E). q.view.number) passes h.0 p.0 n p.1) ∙ h.2)

  counted : (n : ℕ) → 0 < n → n ≤ seats → 0 < sum_by (number_count n) vs
  counted n low high = let h = given_back n low high in let a = sum_at (number_count n) vs h.0 h.1 h.2 in
      let b : number_count n h.1 ≡ 1 = ap (λ (m : ℕ). number_count m h.1) (sym h.3) ∙ numbered seats slots h.1 (g.back h.0 h.1 h.2) in omega arith

  -- the histories as they stand at the end
  abbrev world : World E
  world = seen.0.world

  home : (o : ℕ) → o < slots → IsHome history number summed between world vs f.0.homes o
  home o lt = all_home history number summed between seats slots id g.base g.others f.0 seen (f.3 ∙ deep) some_seat g.back counted o lt

  pub filled : AllFilled xs
  filled o lt = let h = home o (omega arith) in (h.object, f.4 o (Some h.object) h.home)

  -- each object is the one that was at home
  the_object : map Some objects ≡ xs → (o : ℕ) (x : O) → slice_get objects o ≡ Some x → (lt : o < slots) × ((home o lt).object ≡ x)
  the_object taken o x e = let there : get_elem? xs o ≡ some (Some x) = ap (λ (l : List (Option O)). get_elem? l o) (sym taken) ∙ got_at objects o x e in let inside = at_below xs o (Some x) there in let lt : o < slots = omega arith in
      let same : Some (home o lt).object ≡ Some x = some-injective (Some (home o lt).object) (Some x) (sym (f.4 o (Some (home o lt).object) (home o lt).home) ∙ there) in
      (lt, unwrapped (home o lt).object x same)

  pub fixed : map Some objects ≡ xs → AtEachObject objects (λ o x. All (λ p. number x ≡ fixed_at p.view o) passes)
  fixed taken o x e k d lt = let h = the_object taken o x e in ap number (sym h.1) ∙ (home o h.0).fixed k (get_or passes k d).view (pass_at k (get_or passes k d) (or_at passes k d lt))

  pub known : map Some objects ≡ xs → AtEachObject objects (λ o x. All (λ p. IsPrefix (spot p.view o).known (history x)) passes)
  known taken o x e k d lt = let h = the_object taken o x e in subst (λ (y : O). IsPrefix (spot (get_or passes k d).view o).known (history y)) h.1 ((home o h.0).seen k (get_or passes k d).view (pass_at k (get_or passes k d) (or_at passes k d lt)))

  pub rests : map Some objects ≡ xs → AtEachObject objects (λ o x. between (history x) ≡ true)
  rests taken o x e = let h = the_object taken o x e in subst (λ (y : O). between (history y) ≡ true) h.1 (home o h.0).rests

  -- the history of an object that is given is the one that stood at the end
  its_log : map Some objects ≡ xs → (o : ℕ) (x : O) → slice_get objects o ≡ Some x → history x ≡ world.logs o
  its_log taken o x e = let h = the_object taken o x e in ap history (sym h.1) ∙ (home o h.0).log

  true_in : (world.objects ≡ slots) × ((k : ℕ) (u : View E) → get_elem? vs k ≡ some u → IsTrueIn summed between world u)
  true_in = all_true history number summed between seats slots id g.base g.others f.0 seen (f.3 ∙ deep) g.back

  -- each entry of a pass that was given back stands in the history, and carries what is said
  entry : (k : ℕ) (u : View E) → get_elem? vs k ≡ some u → (o i : ℕ) (w : Own) → get_elem? (spot u o).own i ≡ some w → IsEntry world o w
  entry k u at o i w e = let count : world.objects ≡ slots = true_in.0 in let wide : length u.spots ≡ slots = (g.back k u at).wide in dite (dec_le (o + 1) slots)
      (λ lt. (true_in.1 k u at).own o (omega arith) i w e)
      (λ nlt. absurd (some-ne-none w (sym (subst (λ (x : Spot E). get_elem? x.own i ≡ some w) (get_or_past u.spots o blank (omega arith)) e))))

  pub looks : map Some objects ≡ xs → AtEachObject objects (λ o x. All (λ p. LooksStand summed between p.view o (history x)) passes)
  looks taken o x e k d lt i l there same = let u : View E = (get_or passes k d).view in let at = pass_at k (get_or passes k d) (or_at passes k d lt) in (
    subst (λ (q : ℕ). l.place ≤ (spot u q).front) same ((g.back k u at).signed.looks i l there).1,
    subst (λ (log : List E). IsShown summed between log l) (sym (its_log taken o x e)) (subst (λ (q : ℕ). IsShown summed between (world.logs q) l) same ((true_in.1 k u at).looks i l there)),
  )

  pub entries : map Some objects ≡ xs → AtEachObject objects (λ o x. All (λ p. EntriesStand p.view o (history x)) passes)
  entries taken o x e k d lt i w there = let at = pass_at k (get_or passes k d) (or_at passes k d lt) in let is = entry k (get_or passes k d).view at o i w there in let high = is.within in (
    is.real,
    subst (λ (log : List E). w.place ≤ length log) (sym (its_log taken o x e)) high,
    ap (λ (l : List ℕ). get_or l o 0) is.carries ∙ (seen.0.carried o w.place is.real high).0,
  )

  pub carried : map Some objects ≡ xs → AtEachObject objects (λ b y. All (λ p. EntriesCarry p.view b (history y)) passes)
  carried taken b y e k d lt o i w there = let at = pass_at k (get_or passes k d) (or_at passes k d lt) in let is = entry k (get_or passes k d).view at o i w there in let high = is.within in
      subst (λ (log : List E). get_or w.carries b 0 ≤ length log) (sym (its_log taken b y e)) (subst (λ (l : List ℕ). get_or l b 0 ≤ length (world.logs b)) (sym is.carries) ((seen.0.carried o w.place is.real high).1 b))

  pub actions : All (λ p. ActionsStand p.view) passes
  actions k d lt i a there = let u : View E = (get_or passes k d).view in let at = pass_at k (get_or passes k d) (or_at passes k d lt) in (((true_in.1 k u at).actions i a there).here, ((g.back k u at).signed.actions i a there).1)

  pub followed : All (λ p. All (λ q. ActionsFollow p.view q.view) passes) passes
  followed k d lt k' d' lt' i a there b j w own low =
      let at = pass_at k (get_or passes k d) (or_at passes k d lt) in let at' = pass_at k' (get_or passes k' d') (or_at passes k' d' lt') in let is = entry k' (get_or passes k' d').view at' b j w own in
      subst (λ (l : List ℕ). IsPast a (get_or l a.object 0)) (sym is.carries) (((true_in.1 k (get_or passes k d).view at).actions i a there).there b w.place is.real low)

  total : (o p : ℕ) → own_total o p passes ≡ sum_by (own_count o p) vs
  total o p = sym (ap (sum_by (own_count o p)) g.parts ∙ sum_map (own_count o p) (λ (q : Standing E). q.view) passes)

  pub once : map Some objects ≡ xs → AtEachObject objects (λ o x. (place : ℕ) → 0 < place → place ≤ length (history x) → own_total o place passes ≡ 1)
  once taken o x e place low high = let h = the_object taken o x e in total o place ∙ (home o h.0).once place low (subst (λ (y : O). place ≤ length (history y)) (sym h.1) high)

  pub no_other : map Some objects ≡ xs → AtEachObject objects (λ o x. (place : ℕ) → (place ≡ 0) ⊎ (length (history x) < place) → own_total o place passes ≡ 0)
  no_other taken o x e place out = let h = the_object taken o x e in total o place ∙ (home o h.0).else place (subst (λ (y : O). (place ≡ 0) ⊎ (length (history y) < place)) (sym h.1) out)

  -- the row of a pass that was given back
  row_of : (k : ℕ) (v : View E) → get_elem? vs k ≡ some v → get_or rows (v.number - 1) [] ≡ fronts_of v
  row_of k v e = ap (λ (l : List (List ℕ)). get_or l (v.number - 1) []) g.shown ∙ placed_row seats slots before vs long_rows g.back (λ n. numbers_apart history number summed between seats slots id g.base g.others f.0 seen n) k v e

  shown_at : (k : ℕ) (v : View E) → get_elem? vs k ≡ some v → (o : ℕ) → front_of rows v.number o ≡ (spot v o).front
  shown_at k v e o = ap (λ (l : List ℕ). get_or l o 0) (row_of k v e) ∙ map_default (λ (x : Spot E). x.front) v.spots o blank

  pub fronts : All (λ p. (o : ℕ) → front_of rows p.view.number o ≡ (spot p.view o).front) passes
  fronts k d lt o = shown_at k (get_or passes k d).view (pass_at k (get_or passes k d) (or_at passes k d lt)) o

  pub row_count : length rows ≡ seats
  row_count = ap length g.shown ∙ (placed_length before vs ∙ long_rows)

  pub row_lengths : All (λ row. length row ≡ slots) rows
  row_lengths k d lt = let many = row_count in let h = given_back (k + 1) (omega arith) (omega arith) in let v : View E = h.1 in let at : v.number - 1 ≡ k = (let e = h.3 in omega arith) in
      ap length (default_at rows k d [] lt ∙ (ap (λ (n : ℕ). get_or rows n []) (sym at) ∙ row_of h.0 v h.2)) ∙ (length-map v.spots (λ (x : Spot E). x.front) ∙ (g.back h.0 v h.2).wide)

  pub within : map Some objects ≡ xs → AtEachObject objects (λ o x. All (λ p. front_of rows p.view.number o ≤ length (history x)) passes)
  within taken o x e k d lt = let h = the_object taken o x e in let at = pass_at k (get_or passes k d) (or_at passes k d lt) in
      let a = shown_at k (get_or passes k d).view at o in let b = subst (λ (y : O). (spot (get_or passes k d).view o).front ≤ length (history y)) h.1 ((home o h.0).front k (get_or passes k d).view at) in omega arith
