-- A pass between two calls, after it took an object and after it gave one back.
use Rattle.std.proofs.Common.{◌≡◌, ◌≢◌, ℕ, ◌+◌, ◌<◌, ◌≤◌, cond, zero, suc, List, [], ◌∷◌, ◌++◌, map, length, get_or, set, take, drop, sym, refl, ap, ◌∙◌, subst, arith, Option, length-set, length-append, Contains, replicate, count_by, remove, ⊎_elim, ◌-◌, ◌==◌}
use Rattle.std.proofs.lemmas.List.{length-replicate, map-set, map-append, take-map, drop-map}
use Rattle.std.proofs.lemmas.List.Elements.{Contains-append_left, Contains-append_right, Contains-append_cases}
use Rattle.std.proofs.lemmas.List.Edits.{length-remove}
use Rattle.std.proofs.lemmas.List.Sums.{sum_by-set, get_or-le-sum_by}
use Rattle.std.proofs.lemmas.List.Folds.{sum_by-replicate}
use mathlib.Core.Logic.{dite}
use mathlib.Core.Option.{some}
use lib.ListN.{get_elem?}
use native.Mathlib.Decide.{ℕ_discrete}
use Rattle.atomic_table.specs.Seated.{TableId}
use Rattle.atomic_table.specs.Table.{Me}
use Rattle.turn_desk.specs.declared.view.Phase.{Phase}
use Rattle.turn_desk.specs.declared.view.Phase.TheVariants.{Free, Taken}
use Rattle.turn_desk.specs.declared.view.Spot.{Spot}
use Rattle.turn_desk.specs.declared.view.View.{View}
use Rattle.turn_desk.specs.declared.view.Action.{Action}
use Rattle.turn_desk.specs.Notes.{IsSigned}
use Rattle.turn_desk.specs.View.{blank, spot, with_spot, number_count, fronts_of, acted, meeting, changes, places, raised, taken, refused, published, freed, looked}
use Rattle.turn_desk.specs.Opening.{IsNew}
use Rattle.turn_desk.specs.Passes.{DeskId, Standing, Keeps, IsPassOf, object_count, is_free, free_count, empty_slot}
use Rattle.turn_desk.specs.Steps.{HasTaken, IsOther}
use Rattle.turn_desk.proofs.Gives.{published_spot, freed_spot}
use Rattle.turn_desk.proofs.Lists.{at_either}
use Rattle.turn_desk.proofs.Looks.{raised_spot}
use Rattle.turn_desk.proofs.Notes.{signed_spot, signed_acted, signed_look, signed_refused, signed_nothing, meeting_signed, changes_signed, place_in}
use Rattle.turn_desk.proofs.Seats.{alone_here, alone_else}
use Rattle.turn_desk.proofs.Takes.{taken_spot}
use Rattle.turn_desk.proofs.Views.{at_spot, off_spot, blank_spot}

module _ {E : Type 0} where
  -- as many objects are free as before, but for the one that was changed
  free_set : (v : View E) (o : ℕ) (x : Spot E) → o < length v.spots → free_count (with_spot v o x) + cond {A = ℕ} (is_free (spot v o).phase) 1 0 ≡ free_count v + cond {A = ℕ} (is_free x.phase) 1 0
  free_set v o x lt = sum_by-set (λ (y : Spot E). cond {A = ℕ} (is_free y.phase) 1 0) v.spots o x blank lt

  -- there is room for one more object while one is free
  pub some_room : (v : View E) (o : ℕ) → o < length v.spots → (spot v o).phase ≡ Free → 0 < free_count v
  some_room v o lt free = let h = get_or-le-sum_by (λ (y : Spot E). cond {A = ℕ} (is_free y.phase) 1 0) v.spots o blank lt in
      let one : cond {A = ℕ} (is_free (spot v o).phase) 1 0 ≡ 1 = ap (λ (p : Phase). cond {A = ℕ} (is_free p) 1 0) free in omega arith

-- two writes at one place are the second
pub set_twice : {A : Type 0} (l : List A) (i : ℕ) (a b : A) → set (set l i a) i b ≡ set l i b
set_twice [] i a b = refl
set_twice (x ∷ xs) zero a b = refl
set_twice (x ∷ xs) (suc i) a b = ap (λ l. x ∷ l) (set_twice xs i a b)

-- what stands in a list behind another element stands in the others
in_others : (y : ℕ) (ys : List ℕ) (x : ℕ) → Contains (y ∷ ys) x → y ≢ x → Contains ys x
in_others y ys x (zero, lt, e) ne = absurd (ne e)
in_others y ys x (suc k, lt, e) ne = (k, omega arith, e)

-- an element parts a list
take_front : (xs : List ℕ) (i : ℕ) → i < length xs → xs ≡ take i xs ++ get_or xs i 0 ∷ drop (suc i) xs
take_front [] i lt = absurd (omega arith)
take_front (x ∷ xs) zero lt = refl
take_front (x ∷ xs) (suc i) lt = ap (λ (l : List ℕ). x ∷ l) (take_front xs i (omega arith))

-- what stands in a list stands in it without another element
in_removed : (xs : List ℕ) (i x : ℕ) → i < length xs → get_or xs i 0 ≢ x → Contains xs x → Contains (remove xs i) x
in_removed xs i x lt ne there = let front = take_front xs i lt in ⊎_elim (λ (a : Contains (take i xs) x). Contains-append_left (take i xs) (drop (suc i) xs) x a)
    (λ (b : Contains (get_or xs i 0 ∷ drop (suc i) xs) x). Contains-append_right (take i xs) (drop (suc i) xs) x (in_others (get_or xs i 0) (drop (suc i) xs) x b ne))
    (Contains-append_cases (take i xs) (get_or xs i 0 ∷ drop (suc i) xs) x (subst (λ (l : List ℕ). Contains l x) front there))

blank_fronts : (E : Type 0) (n : ℕ) → map (λ (x : Spot E). x.front) (replicate n (blank {E = E})) ≡ replicate n 0
blank_fronts E zero = refl
blank_fronts E (suc n) = ap (λ (l : List ℕ). 0 ∷ l) (blank_fronts E n)

-- a pass that goes by one number has it among its numbers
own_number : (number n : ℕ) (numbers : List ℕ) → numbers ≡ number ∷ [] → number ≡ n → 0 < count_by (λ (k : ℕ). k == n) numbers
own_number number n numbers alone named = let a = alone_here n number (sym named) in let b = ap (λ (l : List ℕ). count_by (λ (k : ℕ). k == n) l) alone in omega arith

-- the desk of a pass whose table and number of passes stay is the same
pub desk_kept : (t t' : TableId) (s s' : ℕ) (d : DeskId) → t' ≡ t → s' ≡ s → record { table = t; seats = s } ≡ d → record { table = t'; seats = s' } ≡ d
desk_kept t t' s s' d a b e = (λ i. record { table = a i; seats = b i }) ∙ e

-- whoever signs for such a pass has that number
signs : (number n : ℕ) (numbers : List ℕ) → numbers ≡ number ∷ [] → 0 < count_by (λ (k : ℕ). k == n) numbers → n ≡ number
signs number n numbers alone some_there = dite (ℕ_discrete n number) (λ e. e) (λ ne. let a = alone_else n number ne in let b = ap (λ (l : List ℕ). count_by (λ (k : ℕ). k == n) l) alone in absurd (omega arith))

module _ {E : Type 0} where
  -- the notes of a pass after each step
  signed_taken : (v : View E) (o : ℕ) (log : List E) → o < length v.spots → 0 < number_count v.number v → (spot v o).front ≤ length log → IsSigned v → IsSigned (taken o log v)
  signed_taken v o log lt own grown s = let u : View E = acted (meeting o (length log) v ∷ []) v in let t = signed_acted v (meeting o (length log) v ∷ []) (meeting_signed v o (length log) own) s in
      signed_spot u o (taken_spot o log v) lt grown (t.own o) (t.told o) t

  signed_looked : (v : View E) (o place summary : ℕ) → o < length v.spots → 0 < number_count v.number v → (spot v o).front ≤ place → IsSigned v → IsSigned (looked o place summary v)
  signed_looked v o place summary lt own grown s = let u : View E = acted (meeting o place v ∷ []) v in let t = signed_acted v (meeting o place v ∷ []) (meeting_signed v o place own) s in let x : Spot E = raised_spot o place v in
      signed_look (raised o place u) (record { seat = v.number; object = o; place = place; summary = summary }) own
      (subst (λ (z : Spot E). place ≤ z.front) (sym (at_spot u o x lt)) (let r : place ≤ place = omega arith in r)) (signed_spot u o x lt grown (t.own o) (t.told o) t)

  signed_published : (v : View E) (o : ℕ) (log : List E) → o < length v.spots → 0 < number_count v.number v → (spot v o).front ≤ length log → IsSigned v → IsSigned (published o log v)
  signed_published v o log lt own grown s = let n : ℕ = length log - length (spot v o).known in let acts : List Action = changes v.number o (fronts_of v) (length (spot v o).known) n in
      let u : View E = acted acts v in let t = signed_acted v acts (changes_signed v o (length (spot v o).known) n own) s in
      signed_spot u o (published_spot o log v) lt grown
      (λ k w e. ⊎_elim (λ (q : get_elem? (spot v o).own k ≡ some w). t.own o k w q)
      (λ (q : (j : ℕ) × (get_elem? (places v.number o (fronts_of v) (length (spot v o).known) n) j ≡ some w)). subst (λ (m : ℕ). 0 < number_count m v) (sym (place_in v.number o (fronts_of v) (length (spot v o).known) n q.0 w q.1).0) own)
      (at_either (spot v o).own (places v.number o (fronts_of v) (length (spot v o).known) n) k w e))
      (t.told o) t

  signed_freed : (v : View E) (o : ℕ) → o < length v.spots → IsSigned v → IsSigned (freed o v)
  signed_freed v o lt s = signed_spot v o (freed_spot o v) lt (let r : (spot v o).front ≤ (spot v o).front = omega arith in r) (s.own o) (s.told o) s

module _ {O E : Type 0} where
  -- the object o was taken
  pub keeps_taken : (number : ℕ) (fronts kept : List ℕ) (room : ℕ) (table : TableId) (me : Me (Option O) (View E)) (o : ℕ) (log : List E) → o < table.slots → (spot me.0 o).phase ≡ Free → (spot me.0 o).front ≤ length log → Keeps number fronts kept room table me
      → Keeps number (set fronts o (length log)) (kept ++ o ∷ []) room table (taken o log me.0, me.1 ++ empty_slot o ∷ [])
  keeps_taken number fronts kept room table me o log lt free grown k =
      let wide : length me.0.spots ≡ table.slots = k.wide in let x : Spot E = record { phase = Taken; known = log; front = length log; own = (spot me.0 o).own; told = (spot me.0 o).told } in record {
        named = k.named;
        real = k.real;
        within = k.within;
        few = k.few;
        alone = k.alone;
        ready = k.ready;
        wide = length-set me.0.spots o x ∙ k.wide;
        kinds = k.kinds;
        signed = signed_taken me.0 o log (omega arith) (own_number number me.0.number me.0.numbers k.alone k.named) grown k.signed;
        seen = ap (λ (l : List ℕ). set l o (length log)) k.seen ∙ sym (map-set (λ (y : Spot E). y.front) me.0.spots o x);
        slots = ap (λ (l : List (ℕ × Option O)). l ++ empty_slot o ∷ []) k.slots ∙ sym (map-append (empty_slot {O = O}) kept (o ∷ []));
        covers = λ p busy. dite (ℕ_discrete p o)
            (λ e. subst (Contains (kept ++ o ∷ [])) (sym e) (Contains-append_right kept (o ∷ []) o (0, omega arith, refl)))
            (λ ne. Contains-append_left kept (o ∷ []) p (k.covers p (subst (λ (y : Spot E). y.phase ≢ Free) (off_spot me.0 o p x ne) busy)));
        counted = let a = free_set me.0 o x (omega arith) in let one : cond {A = ℕ} (is_free (spot me.0 o).phase) 1 0 ≡ 1 = ap (λ (p : Phase). cond {A = ℕ} (is_free p) 1 0) free in let c : length kept + free_count me.0 ≡ table.slots = k.counted in
            omega (arith, length-append kept (o ∷ []));
        roomy = k.roomy;
      }

  -- the same for equal parts
  pub keeps_same : (number : ℕ) (fronts fronts' kept kept' : List ℕ) (room room' : ℕ) (table table' : TableId) (me me' : Me (Option O) (View E)) → fronts ≡ fronts' → kept ≡ kept' → room ≡ room' → table ≡ table' → me ≡ me'
      → Keeps number fronts kept room table me → Keeps number fronts' kept' room' table' me'
  keeps_same number fronts fronts' kept kept' room room' table table' me me' a b c d e =
      subst (λ (z : List ℕ × List ℕ × ℕ × TableId × Me (Option O) (View E)). Keeps number z.0 z.1 z.2 z.3 z.4) (λ i. (a i, b i, c i, d i, e i))

  -- the object o was published and given back
  pub keeps_released : (number : ℕ) (fronts kept : List ℕ) (room : ℕ) (table : TableId) (me : Me (Option O) (View E)) (o place : ℕ) (log : List E) → o < table.slots → (spot me.0 o).phase ≡ Taken → (spot me.0 o).front ≤ length log → place < length kept → get_or kept place 0 ≡ o → Keeps number fronts kept room table me
      → Keeps number (set fronts o (length log)) (remove kept place) room table (freed o (published o log me.0), take place me.1 ++ drop (suc place) me.1)
  keeps_released number fronts kept room table me o place log lt phase grown in_row there k =
      let wide : length me.0.spots ≡ table.slots = k.wide in let v : View E = me.0 in let x : Spot E = published_spot o log v in let w : View E = published o log v in let mid : spot w o ≡ x = at_spot v o x (omega arith) in
      let y : Spot E = record { phase = Free; known = (spot w o).known; front = (spot w o).front; own = (spot w o).own; told = (spot w o).told } in
      let wide' : length w.spots ≡ table.slots = length-set v.spots o x ∙ wide in record {
        named = k.named;
        real = k.real;
        within = k.within;
        few = k.few;
        alone = k.alone;
        ready = k.ready;
        wide = length-set w.spots o y ∙ wide';
        kinds = k.kinds;
        signed = signed_freed w o (omega arith) (signed_published v o log (omega arith) (own_number number v.number v.numbers k.alone k.named) grown k.signed);
        seen = sym (map-set (λ (z : Spot E). z.front) w.spots o y
            ∙ (ap (λ (l : List ℕ). set l o y.front) (map-set (λ (z : Spot E). z.front) v.spots o x ∙ ap (λ (l : List ℕ). set l o (length log)) (sym k.seen))
            ∙ (set_twice fronts o (length log) y.front ∙ ap (λ (z : Spot E). set fronts o z.front) mid)));
        slots = ap (λ (l : List (ℕ × Option O)). take place l ++ drop (suc place) l) k.slots
            ∙ (ap (λ (l : List (ℕ × Option O)). l ++ drop (suc place) (map (empty_slot {O = O}) kept)) (take-map (empty_slot {O = O}) place kept)
            ∙ (ap (λ (l : List (ℕ × Option O)). map (empty_slot {O = O}) (take place kept) ++ l) (drop-map (empty_slot {O = O}) (suc place) kept)
            ∙ sym (map-append (empty_slot {O = O}) (take place kept) (drop (suc place) kept))));
        covers = λ p busy. dite (ℕ_discrete p o)
            (λ e. absurd (busy (ap (λ (q : ℕ). (spot (freed o w) q).phase) e ∙ ap (λ (z : Spot E). z.phase) (at_spot w o y (omega arith)))))
            (λ ne. in_removed kept place p in_row (λ e. ne (sym e ∙ there)) (k.covers p (subst (λ (z : Spot E). z.phase ≢ Free) (off_spot w o p y ne ∙ off_spot v o p x ne) busy)));
        counted = let a = free_set v o x (omega arith) in let b = free_set w o y (omega arith) in
            let none : cond {A = ℕ} (is_free (spot v o).phase) 1 0 ≡ 0 = ap (λ (q : Phase). cond {A = ℕ} (is_free q) 1 0) phase in
            let none' : cond {A = ℕ} (is_free (spot w o).phase) 1 0 ≡ 0 = ap (λ (z : Spot E). cond {A = ℕ} (is_free z.phase) 1 0) mid in
            let c : length kept + free_count v ≡ table.slots = k.counted in let d = length-remove kept place in_row in omega arith;
        roomy = k.roomy;
      }

  -- a pass that was just made
  pub keeps_new : (number : ℕ) (fronts kept : List ℕ) (room : ℕ) (table : TableId) (me : Me (Option O) (View E)) → IsNew number table me → fronts ≡ replicate table.slots 0 → kept ≡ [] → table.slots ≤ room → Keeps number fronts kept room table me
  keeps_new number fronts kept room table me k zeros none roomy' = record {
    named = sym k.named;
    real = k.real;
    within = k.within;
    few = k.few;
    alone = k.alone;
    ready = k.ready;
    wide = ap length k.spots ∙ length-replicate table.slots blank;
    kinds = k.kinds;
    signed = signed_nothing me.0 (λ o. ap (λ (l : List (Spot E)). get_or l o blank) k.spots ∙ blank_spot table.slots o) k.refused k.looks k.actions;
    seen = zeros ∙ (sym (blank_fronts E table.slots) ∙ ap (map (λ (x : Spot E). x.front)) (sym k.spots));
    slots = k.slots ∙ sym (ap (map (empty_slot {O = O})) none);
    covers = λ o busy. absurd (busy (ap (λ (l : List (Spot E)). (get_or l o blank).phase) k.spots ∙ ap (λ (x : Spot E). x.phase) (blank_spot table.slots o)));
    counted = let a = ap length none in let b = ap (λ (l : List (Spot E)). count_by (λ (x : Spot E). is_free x.phase) l) k.spots in let c = sum_by-replicate (λ (x : Spot E). cond {A = ℕ} (is_free x.phase) 1 0) table.slots blank in omega arith;
    roomy = roomy';
  }

  -- an object that was taken is the pass's
  pub keeps_here : (number : ℕ) (fronts kept : List ℕ) (room : ℕ) (table : TableId) (me : Me (Option O) (View E)) (o : ℕ) (log : List E) (v : View E) → Keeps number fronts kept room table me → o < table.slots → v ≡ taken o log me.0 → HasTaken v o log
  keeps_here number fronts kept room table me o log v k lt e = let wide : length me.0.spots ≡ table.slots = k.wide in let here = ap (λ (w : View E). spot w o) e ∙ at_spot me.0 o (taken_spot o log me.0) (omega arith) in
      record { phase = ap (λ (x : Spot E). x.phase) here; known = ap (λ (x : Spot E). x.known) here; front = ap (λ (x : Spot E). x.front) here }

  -- a take was refused
  pub keeps_refused : (number : ℕ) (fronts kept : List ℕ) (room : ℕ) (table : TableId) (me : Me (Option O) (View E)) (o found : ℕ) → IsOther me.0 found → Keeps number fronts kept room table me → Keeps number fronts kept room table (refused o found me.0, me.1)
  keeps_refused number fronts kept room table me o found other k = record {
    named = k.named;
    real = k.real;
    within = k.within;
    few = k.few;
    alone = k.alone;
    ready = k.ready;
    wide = k.wide;
    kinds = k.kinds;
    signed = signed_refused me.0 o found (own_number number me.0.number me.0.numbers k.alone k.named) other.real other.within other.apart k.signed;
    seen = k.seen;
    slots = k.slots;
    covers = k.covers;
    counted = k.counted;
    roomy = k.roomy;
  }

  -- an object was looked at
  pub keeps_looked : (number : ℕ) (fronts kept : List ℕ) (room : ℕ) (table : TableId) (me : Me (Option O) (View E)) (o place summary : ℕ) → o < table.slots → (spot me.0 o).front ≤ place → Keeps number fronts kept room table me
      → Keeps number (set fronts o place) kept room table (looked o place summary me.0, me.1)
  keeps_looked number fronts kept room table me o place summary lt grown k =
      let wide : length me.0.spots ≡ table.slots = k.wide in let x : Spot E = raised_spot o place me.0 in let w : View E = looked o place summary me.0 in
      let same : (p : ℕ) → (spot w p).phase ≡ (spot me.0 p).phase = λ p. dite (ℕ_discrete p o)
      (λ e. subst (λ (q : ℕ). (spot w q).phase ≡ (spot me.0 q).phase) (sym e) (ap (λ (z : Spot E). z.phase) (at_spot me.0 o x (omega arith)))) (λ ne. ap (λ (z : Spot E). z.phase) (off_spot me.0 o p x ne)) in record {
        named = k.named;
        real = k.real;
        within = k.within;
        few = k.few;
        alone = k.alone;
        ready = k.ready;
        wide = length-set me.0.spots o x ∙ k.wide;
        kinds = k.kinds;
        signed = signed_looked me.0 o place summary (omega arith) (own_number number me.0.number me.0.numbers k.alone k.named) grown k.signed;
        seen = ap (λ (l : List ℕ). set l o place) k.seen ∙ sym (map-set (λ (y : Spot E). y.front) me.0.spots o x);
        slots = k.slots;
        covers = λ p busy. k.covers p (λ f. busy (same p ∙ f));
        counted = let a = free_set me.0 o x (omega arith) in let c : length kept + free_count me.0 ≡ table.slots = k.counted in omega arith;
        roomy = k.roomy;
      }

  -- a pass is one of its desk
  pub keeps_member : (number : ℕ) (fronts kept : List ℕ) (room : ℕ) (table : TableId) (me : Me (Option O) (View E)) (desk : DeskId) (p : Standing E) → Keeps number fronts kept room table me → record { desk = record { table = table; seats = me.0.seats }; view = me.0 } ≡ p → p.desk ≡ desk → IsPassOf desk p
  keeps_member number fronts kept room table me desk p k is own = subst (IsPassOf desk) is
      (let seats : me.0.seats ≡ desk.seats = ap (λ (q : Standing E). q.desk.seats) is ∙ ap (λ (d : DeskId). d.seats) own in let slots : table.slots ≡ object_count desk = ap (λ (q : Standing E). q.desk.table.slots) is ∙ ap (λ (d : DeskId). d.table.slots) own in
      let named : number ≡ me.0.number = k.named in let low : 0 < number = k.real in let high : number ≤ me.0.seats = k.within in let few : me.0.seats ≤ 17 = k.few in record {
        own = ap (λ (q : Standing E). q.desk) is ∙ own;
        real = omega arith;
        within = omega arith;
        few = omega arith;
        seats = seats;
        wide = k.wide ∙ slots;
        kinds = k.kinds ∙ slots;
        refused = λ i r e. let a = k.signed.refused i r e in let mine = signs number r.seat me.0.numbers k.alone a.0 in let most = a.2 in (mine ∙ named, a.1, omega arith, λ q. a.3 (q ∙ sym (mine ∙ named)));
      })
