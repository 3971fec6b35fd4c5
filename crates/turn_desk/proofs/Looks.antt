-- A look keeps the desk rule.
use Rattle.std.proofs.Common.{◌≡◌, ◌≢◌, ℕ, ◌+◌, ◌*◌, ◌/◌, ◌%◌, ◌<◌, ◌≤◌, Bool, true, List, [], ◌∷◌, length, take, get_or, set, sym, refl, ap, ◌∙◌, subst, arith, Option}
use Rattle.std.proofs.lemmas.List.{set-get_or}
use Rattle.std.proofs.Math.Seq.{take-length}
use mathlib.Core.Option.{none}
use Rattle.atomic_table.specs.Table.{State, Me, step, keeps, Allows}
use Rattle.turn_desk.specs.declared.view.Spot.{Spot}
use Rattle.turn_desk.specs.declared.view.View.{View}
use Rattle.turn_desk.specs.View.{spot, number_count, acted, meeting, raised, looked}
use Rattle.turn_desk.specs.Rule.{World, Knows, Desked, AreCarried}
use Rattle.turn_desk.specs.Steps.{at_tally, saw}
use Rattle.turn_desk.proofs.Rule.{restated, elsewhere, knows_spot, knows_meeting, knows_look, own_stays, told_stays}
use Rattle.turn_desk.proofs.Takes.{known_goes_on}
use Rattle.turn_desk.proofs.Views.{at_spot, off_spot}

-- the length and the summary of a tally word
pub parted : (t place summary : ℕ) → t ≡ place * 4398046511104 + summary → summary < 4398046511104 → (t / 4398046511104 ≡ place) × (t % 4398046511104 ≡ summary)
parted t place summary e lt = (omega arith, omega arith)

module _ {E : Type 0} where
  -- what is known of the object o once so much of its history was seen to stand
  abbrev pub raised_spot : ℕ → ℕ → View E → Spot E
  raised_spot o place v = let x = spot v o in record { phase = x.phase; known = x.known; front = place; own = x.own; told = x.told }

module _ {E : Type 0} (summed : List E → ℕ) (between : List E → Bool) where
  -- what the pass knows that looked
  knows_looked : (W : World E) (v : View E) (o : ℕ) → o < W.objects → AreCarried W → Knows summed between W v → 0 < number_count v.number v → between (W.logs o) ≡ true → Knows summed between W (looked o (length (W.logs o)) (summed (W.logs o)) v)
  knows_looked W v o lt carried k own rests =
      let place : ℕ = length (W.logs o) in let u : View E = acted (meeting o place v ∷ []) v in let noted = knows_meeting summed between W v o place carried k own refl in let f = k.front o in let x : Spot E = raised_spot o place v in
      let wide : length v.spots ≡ W.objects = k.wide in let low = f.0 in let high = f.1 in
      let raised' : Knows summed between W (raised o place u) = knows_spot summed between W u o x lt noted (k.prefix o) (omega arith) (omega arith) (omega arith) (told_stays summed between W u o noted) (own_stays summed between W u o noted) in
      let here : spot (raised o place u) o ≡ x = at_spot u o x (omega arith) in
      let all : take place (W.logs o) ≡ W.logs o = take-length (W.logs o) in
      knows_look summed between W (raised o place u) (record { seat = v.number; object = o; place = place; summary = summed (W.logs o) }) raised' own
      (subst (λ (z : Spot E). place ≤ z.front) (sym here) (let r : place ≤ place = omega arith in r))
      (record { within = (let r : place ≤ place = omega arith in r); summary = ap summed all; rests = ap between all ∙ rests })

module _ {O E : Type 0} (history : O → List E) (number : O → ℕ) (summed : List E → ℕ) (between : List E → Bool) where
  abbrev Rule : State (Option O) (View E) → Type 0
  Rule = Desked history number summed between

  pub can_look : (slots o id : ℕ) (m : Me (Option O) (View E)) → o < slots → 0 < m.0.number
      → Allows Rule slots id m (8 * o + 1) (λ n. n) (at_tally (saw summed between) (step slots (8 * o + 1) 0 0 none) m)
  can_look slots o id m lt real s r deep at _ =
      let count : length s.homes ≡ r.world.objects = r.deep in let inside : o < r.world.objects = omega arith in let ob = r.objects o inside in let mine = r.knows id m.0 at real in let log : List E = r.world.logs o in
      let w : View E = looked o (length log) (summed log) m.0 in let wide : length m.0.spots ≡ r.world.objects = mine.wide in let x : Spot E = raised_spot o (length log) m.0 in
      let here : spot w o ≡ x = at_spot m.0 o x (omega arith) in let same = λ (p : ℕ) (ne : p ≢ o). off_spot m.0 o p x ne in (
        w,
        keeps,
        tt,
        subst (λ (ws : List ℕ). Rule record { words = ws; homes = s.homes; views = set s.views id w }) (sym (set-get_or s.words (8 * o + 1) 0))
            (restated history number summed between s r r.world o id m.0 w s.words s.homes at real (record { number = refl; numbers = refl; next = refl; spots = same })
            (record { objects = refl; within = r.within; most = r.most; carried = r.carried }) refl refl (λ p _ l. record { turn = refl; tally = refl; slot = refl; log = refl; fix = refl; awaits = λ z. z; has = λ z. z })
            (knows_looked summed between r.world m.0 o inside r.carried mine ((r.named id m.0 at).own real) ob.rests) (λ j u _ there b. r.knows j u there b)
            (λ _. elsewhere history number summed between s.words s.words s.homes s.homes s.views r.world r.world o id m.0 w at refl
            (record { phase = ap (λ (z : Spot E). z.phase) here; known = ap (λ (z : Spot E). z.known) here; own = ap (λ (z : Spot E). z.own) here })
            (record { turn = refl; tally = refl; slot = refl; log = refl; fix = refl; awaits = λ z. z; has = λ z. z }) ob)),
        λ o' q. subst (λ (k : ℕ). saw summed between k m (get_or s.words (8 * o + 1) 0) (w, m.1)) (let e : o ≡ o' = omega arith in e)
            (length log, summed log, ob.tally, ob.short, ob.small, record { log = log; continues = known_goes_on summed between r.world m.0 o log refl mine; rests = ob.rests; long = refl; sum = refl }, refl),
      )
