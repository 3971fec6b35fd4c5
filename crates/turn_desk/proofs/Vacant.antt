-- The desk rule holds of a vacant table, and what is known while the objects are put in.
use Rattle.std.proofs.Common.{◌≡◌, ◌≢◌, ℕ, ◌+◌, ◌^◌, ◌<◌, ◌≤◌, ◌==◌, Bool, true, zero, suc, List, [], ◌∷◌, ◌++◌, map, length, set, replicate, sym, refl, ap, ◌∙◌, subst, ⊎_elim, arith, Option, None, count_by, length-append}
use Rattle.std.proofs.lemmas.List.{length-map, length-replicate, get_or-replicate, set-get_or}
use Rattle.std.proofs.lemmas.List.Sums.{sum_by-cons}
use mathlib.Core.Option.{some, some-injective, some-ne-none}
use lib.ListN.{get_elem?}
use Rattle.atomic_table.specs.Table.{opening as table_opening}
use Rattle.turn_desk.specs.declared.view.Own.{Own}
use Rattle.turn_desk.specs.declared.view.Phase.TheVariants.{Free}
use Rattle.turn_desk.specs.declared.view.Spot.{Spot}
use Rattle.turn_desk.specs.declared.view.View.{View}
use Rattle.love_base.specs.Prefix.{IsPrefix}
use Rattle.turn_desk.specs.Opening.{AreFree}
use Rattle.turn_desk.specs.View.{blank, spot, own_count, number_count, received, brought, freed, opening}
use Rattle.turn_desk.specs.Rule.{World, Knows, Named, ObjectOk, Desked}
use Rattle.turn_desk.proofs.Keeping.{set_twice}
use Rattle.turn_desk.proofs.Notes.{signed_nothing}
use Rattle.turn_desk.proofs.Seats.{alone_here, alone_else}
use Rattle.turn_desk.proofs.Takes.{taken_spot}
use Rattle.turn_desk.proofs.Views.{at_spot, blank_spot}

-- an empty slot
abbrev empty : (O : Type 0) → Option O
empty O = None

-- a slot of a vacant table is at home, and empty
vacant_home : {O : Type 0} (n o : ℕ) → o < n → get_elem? (map some (replicate n (empty O))) o ≡ some (some None)
vacant_home {O} zero o lt = absurd (omega arith)
vacant_home {O} (suc n) zero lt = refl
vacant_home {O} (suc n) (suc o) lt = vacant_home n o (omega arith)

long_homes : (O : Type 0) (n : ℕ) → length (map some (replicate n (empty O))) ≡ n
long_homes O n = length-map (replicate n (empty O)) some ∙ length-replicate n (empty O)

-- what stands in a list of one is the one
only : {A : Type 0} (a b : A) (j : ℕ) → get_elem? (a ∷ []) j ≡ some b → (j ≡ 0) × (a ≡ b)
only a b zero e = (refl, some-injective a b e)
only a b (suc j) e = absurd (some-ne-none b (sym e))

-- so many zeros are so many
zeros : (n : ℕ) → length (replicate {A = ℕ} n 0) ≡ n
zeros n = length-replicate {A = ℕ} n 0

module _ {E : Type 0} where
  -- the first view
  abbrev first : ℕ → View E
  first objects = opening 1 2 0 objects (replicate objects 0)

  first_spot : (objects o : ℕ) → spot (first objects) o ≡ blank
  first_spot objects o = blank_spot (length (replicate objects 0)) o

  -- nothing is known yet
  abbrev first_world : ℕ → World E
  first_world objects = record { objects = objects; seats = 0; awaited = objects; logs = λ _. []; carries = λ _ _. []; fixes = λ _. 0 }

  first_named : (objects : ℕ) → Named 2 0 0 (first objects)
  first_named objects = record { own = λ _. let a = alone_here 1 1 refl in omega arith; makes = λ _. (refl, refl, refl); spent = λ z. absurd (omega arith) }

module _ {E : Type 0} (summed : List E → ℕ) (between : List E → Bool) where
  first_knows : (objects : ℕ) → Knows summed between (first_world objects) (first objects)
  first_knows objects = record {
    wide = length-replicate (length (replicate objects 0)) blank ∙ length-replicate objects 0;
    seats = refl;
    awaited = refl;
    kinds = length-replicate objects 0;
    fixed = λ o lt. get_or-replicate objects o 0 0 lt;
    handed = λ k l e. absurd (some-ne-none l (sym e));
    prefix = λ o. subst (λ (x : Spot E). IsPrefix x.known []) (sym (first_spot objects o)) ([], refl);
    front = λ o. subst (λ (x : Spot E). (length x.known ≤ x.front) × (x.front ≤ 0)) (sym (first_spot objects o)) (omega arith, omega arith);
    told = λ o k t e. absurd (some-ne-none t (sym (subst (λ (x : Spot E). get_elem? x.told k ≡ some t) (first_spot objects o) e)));
    own = λ o k w e. absurd (some-ne-none w (sym (subst (λ (x : Spot E). get_elem? x.own k ≡ some w) (first_spot objects o) e)));
    looks = λ k l e. absurd (some-ne-none l (sym e));
    actions = λ k a e. absurd (some-ne-none a (sym e));
    signed = signed_nothing (first objects) (first_spot objects) refl refl refl;
  }

module _ {O E : Type 0} (history : O → List E) (number : O → ℕ) (summed : List E → ℕ) (between : List E → Bool) where
  opens_object : (objects summary o : ℕ) (words : List ℕ) → AreFree objects summary words → o < objects → between [] ≡ true → summed [] ≡ summary → summary < 2 ^ 42
      → ObjectOk history number summed between words (map some (replicate objects None)) (first objects ∷ []) (first_world objects) o
  opens_object objects summary o words set_up lt rests is small = let free = set_up.turns o lt in record {
    tally = set_up.tallies o lt ∙ (let e : summed [] ≡ summary = is in omega arith);
    short = omega arith;
    small = (let e : summed [] ≡ summary = is in omega arith);
    rests = rests;
    fresh = λ _. refl;
    vacant = λ _ _. vacant_home objects o lt;
    home = λ _ le. absurd (omega arith);
    away = λ ne. absurd (ne free);
    busy = λ j v at p. absurd (p (ap (λ (z : View E). (spot z o).phase) (sym (only (first objects) v j at).1) ∙ ap (λ (x : Spot E). x.phase) (first_spot objects o)));
    once = λ p low high. absurd (omega arith);
    else = λ p _. let none : own_count {E = E} o p (first objects) ≡ 0 = ap (λ (x : Spot E). count_by (λ (w : Own). w.place == p) x.own) (first_spot objects o) in let a = sum_by-cons (own_count {E = E} o p) (first objects) [] in omega arith;
  }

  -- the rule holds of the table that was just made
  pub opens : (objects summary : ℕ) (words : List ℕ) → AreFree objects summary words → between [] ≡ true → summed [] ≡ summary → summary < 2 ^ 42
      → Desked history number summed between (table_opening words (replicate objects None) (first objects))
  opens objects summary words set_up rests is small = record {
    world = first_world objects;
    next = 2;
    maker = 0;
    wide = set_up.wide;
    deep = long_homes O objects;
    within = λ p. absurd (omega arith);
    most = omega arith;
    carried = λ o i low high. absurd (omega arith);
    once = λ n low high. let a = alone_here n 1 (omega arith) in let b = sum_by-cons (number_count {E = E} n) (first objects) [] in omega arith;
    else = λ n out. let ne : n ≢ 1 = (λ e. ⊎_elim (λ (z : n ≡ 0). let f : ⊥ = omega arith in f) (λ (g : 2 ≤ n). let f : ⊥ = omega arith in f) out) in let a = alone_else n 1 ne in let b = sum_by-cons (number_count {E = E} n) (first objects) [] in omega arith;
    objects = λ o lt. opens_object objects summary o words set_up lt rests is small;
    named = λ j v at. let h = only (first objects) v j at in subst (λ (z : ℕ × View E). Named 2 0 z.0 z.1) (λ i. (sym h.0 i, h.1 i)) (first_named objects);
    knows = λ j v at _. let h = only (first objects) v j at in subst (Knows summed between (first_world objects)) h.1 (first_knows summed between objects);
  }

at_length : (n x : ℕ) (done : List ℕ) → set (replicate (suc n) 0 ++ done) n x ≡ replicate n 0 ++ x ∷ done
at_length zero x done = refl
at_length (suc n) x done = ap (λ (l : List ℕ). 0 ∷ l) (at_length n x done)

-- the number that was awaited last is put in its place
placed : (n x : ℕ) (done : List ℕ) → set (replicate (n + 1) 0 ++ done) n x ≡ replicate n 0 ++ x ∷ done
placed n x done = let e : n + 1 ≡ suc n = omega arith in ap (λ (k : ℕ). set (replicate k 0 ++ done) n x) e ∙ at_length n x done

module _ {E : Type 0} where
  -- an object that was put in is known by nothing but its number
  pub put_one : (seats n x : ℕ) (done : List ℕ) → freed n (brought n x (received n [] (opening {E = E} 1 2 seats (n + 1) (replicate (n + 1) 0 ++ done)))) ≡ opening 1 2 seats n (replicate n 0 ++ x ∷ done)
  put_one seats n x done =
      let fixed : List ℕ = replicate (n + 1) 0 ++ done in let v : View E = opening 1 2 seats (n + 1) fixed in let w : View E = received n [] v in let many : ℕ = length fixed in
      let a = zeros (n + 1) in let b = length-append (replicate (n + 1) 0) done in let c = zeros n in let d = length-append (replicate n 0) (x ∷ done) in
      let same : many ≡ length (replicate n 0 ++ x ∷ done) = omega arith in let inside : n < length v.spots = (let l = length-replicate many (blank {E = E}) in omega arith) in
      let y : Spot E = record { phase = Free; known = (spot w n).known; front = (spot w n).front; own = (spot w n).own; told = (spot w n).told } in
      let first_step = ap (λ (z : Spot E). record { phase = Free; known = z.known; front = z.front; own = z.own; told = z.told }) (at_spot v n (taken_spot n [] v) inside) in
      let nothing : y ≡ blank = first_step ∙ ap (λ (z : Spot E). record { phase = Free; known = []; front = 0; own = z.own; told = z.told }) (blank_spot many n) in
      let spots : set (set v.spots n (taken_spot n [] v)) n y ≡ replicate (length (replicate n 0 ++ x ∷ done)) blank =
      set_twice v.spots n (taken_spot n [] v) y ∙ (ap (set v.spots n) (nothing ∙ sym (blank_spot many n)) ∙ (set-get_or v.spots n blank ∙ ap (λ (k : ℕ). replicate k blank) same)) in
      let numbers = placed n x done in
      λ i. record { number = 1; numbers = 1 ∷ []; seats = seats; next = 2; awaited = n; fixed = numbers i; handed = []; spots = spots i; refused = []; looks = []; actions = [] }
