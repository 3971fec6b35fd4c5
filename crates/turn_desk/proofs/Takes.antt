-- Taking an object keeps the desk rule.
use Rattle.std.proofs.Common.{◌≡◌, ◌≢◌, ℕ, ◌+◌, ◌*◌, ◌<◌, ◌≤◌, Bool, eqb, List, [], ◌∷◌, length, append-nil, get_or, set, sym, refl, ap, ◌∙◌, subst, ⊎_elim, arith, Option, Some, None, length-set, get_or-set_other, get_or-set_same}
use Rattle.std.proofs.lemmas.List.{set-get_or}
use mathlib.Core.Logic.{dite}
use mathlib.Core.Option.{some, none, some-injective, some-ne-none}
use native.Mathlib.Decide.{ℕ_discrete}
use lib.ListN.{get_elem?}
use prog.Atomic.{either}
use Rattle.atomic_table.specs.Table.{State, Me, step, Act, keeps, takes, stepped, Allows, Valid, carried_after}
use Rattle.atomic_table.proofs.Lists.{at_set, set_here, set_else, exchanged}
use Rattle.turn_desk.specs.declared.view.Phase.TheVariants.{Free, Taken}
use Rattle.turn_desk.specs.declared.view.Action.{Action}
use Rattle.turn_desk.specs.declared.view.Spot.{Spot}
use Rattle.turn_desk.specs.declared.view.View.{View}
use Rattle.love_base.specs.Prefix.{IsPrefix}
use Rattle.love_base.proofs.Prefixes.{whole}
use Rattle.turn_desk.specs.Notes.{IsShown}
use Rattle.turn_desk.specs.View.{spot, own_count, number_count, acted, meeting, received, taken, refused}
use Rattle.turn_desk.specs.Rule.{World, Knows, ObjectOk, Desked}
use Rattle.turn_desk.specs.Steps.{Continues, at_turn, took, took_vacant}
use Rattle.turn_desk.proofs.Lists.{set_there}
use Rattle.turn_desk.proofs.Notes.{signed_refused}
use Rattle.turn_desk.proofs.Rule.{given, one_seat, ChangesAt, restated, knows_spot, knows_acted, knows_meeting, own_stays, told_stays, same_sum, same_owned}
use Rattle.turn_desk.proofs.Views.{at_spot, off_spot, taken_is_busy}

module _ {E : Type 0} where
  -- what is known of the object o once it was taken
  abbrev pub taken_spot : ℕ → List E → View E → Spot E
  taken_spot o log v = record { phase = Taken; known = log; front = length log; own = (spot v o).own; told = (spot v o).told }

  -- a take that is noted or not
  abbrev pub kept_as : List Action → ℕ → List E → View E → View E
  kept_as actions o log v = received o log (acted actions v)

  -- taking the object o changes what is known of it alone
  taking : (actions : List Action) (o : ℕ) (log : List E) (v : View E) → ChangesAt o v (kept_as actions o log v)
  taking actions o log v = record { number = refl; numbers = refl; next = refl; spots = λ p ne. off_spot v o p (taken_spot o log v) ne }

module _ {E : Type 0} (summed : List E → ℕ) (between : List E → Bool) where
  -- the pass that takes knows the history whole
  knows_received : (W : World E) (v : View E) (o : ℕ) (log : List E) → o < W.objects → log ≡ W.logs o → Knows summed between W v → Knows summed between W (received o log v)
  knows_received W v o log lt is k = let e : length log ≡ length (W.logs o) = ap length is in let f = (k.front o).1 in
      knows_spot summed between W v o (taken_spot o log v) lt k (subst (IsPrefix log) is (whole log)) (omega arith) (omega arith) (omega arith) (told_stays summed between W v o k) (own_stays summed between W v o k)

  -- the pass that was refused knows of it
  knows_refused : (W : World E) (v : View E) (o found : ℕ) → 0 < number_count v.number v → 0 < found → found ≤ W.seats → found ≢ v.number → Knows summed between W v → Knows summed between W (refused o found v)
  knows_refused W v o found own real within apart k = let seats : v.seats ≡ W.seats = k.seats in record {
    wide = k.wide;
    seats = k.seats;
    awaited = k.awaited;
    kinds = k.kinds;
    fixed = k.fixed;
    handed = k.handed;
    prefix = k.prefix;
    front = k.front;
    told = k.told;
    own = k.own;
    looks = k.looks;
    actions = k.actions;
    signed = signed_refused v o found own real (omega arith) apart k.signed;
  }

  -- the published history goes on from all that a pass knows
  pub known_goes_on : (W : World E) (v : View E) (o : ℕ) (log : List E) → log ≡ W.logs o → Knows summed between W v → Continues summed between v o log
  known_goes_on W v o log is k = record {
    known = subst (IsPrefix (spot v o).known) (sym is) (k.prefix o);
    front = subst (λ (l : List E). (spot v o).front ≤ length l) (sym is) (k.front o).1;
    told = λ i t there. subst (IsPrefix t.known) (sym is) (k.told o i t there);
    looks = λ i l there e. subst (λ (z : List E). IsShown summed between z l) (sym is) (subst (λ (p : ℕ). IsShown summed between (W.logs p) l) e (k.looks i l there));
  }

module _ {O E : Type 0} (history : O → List E) (number : O → ℕ) (summed : List E → ℕ) (between : List E → Bool) where
  abbrev Rule : State (Option O) (View E) → Type 0
  Rule = Desked history number summed between

  -- while one pass alone was made, no other is there
  pub alone : (s : State (Option O) (View E)) (r : Rule s) (id : ℕ) (v : View E) → get_elem? s.views id ≡ some v → 0 < v.number → v.next ≡ 2
      → (j : ℕ) (u : View E) → j ≢ id → get_elem? s.views j ≡ some u → ¬ (0 < u.number)
  alone s r id v at real two j u ne there b =
      let d = r.named id v at in let next : v.next ≡ r.next = (d.makes (omega arith)).0 in let mine = given history number summed between s r id v.number v at (d.own real) in
      let his = given history number summed between s r j u.number u there ((r.named j u there).own b) in
      ne (one_seat history number summed between s r j id u v there at b (omega arith))

  -- the object o after it was taken out of its slot by the pass in the seat id
  object_taken : (s : State (Option O) (View E)) (r : Rule s) (o id : ℕ) (v : View E) (actions : List Action) (log : List E) → (lt : o < r.world.objects) → get_elem? s.views id ≡ some v → 0 < v.number → get_or s.words (8 * o) 0 ≡ 0 → log ≡ r.world.logs o
      → ObjectOk history number summed between (set s.words (8 * o) v.number) (set s.homes o none) (set s.views id (kept_as actions o log v)) r.world o
  object_taken s r o id v actions log lt at real e is =
      let ob = r.objects o lt in let long : length s.words ≡ 8 * r.world.objects = r.wide in let deep : length s.homes ≡ r.world.objects = r.deep in let wide : length v.spots ≡ r.world.objects = (r.knows id v at real).wide in
      let now : get_or (set s.words (8 * o) v.number) (8 * o) 0 ≡ v.number = get_or-set_same s.words (8 * o) v.number 0 (omega arith) in
      let x : Spot E = taken_spot o log v in let w : View E = kept_as actions o log v in
      let here : spot w o ≡ x = at_spot v o x (omega arith) in record {
        tally = get_or-set_other s.words (8 * o) (8 * o + 1) v.number 0 (λ q. omega arith) ∙ ob.tally;
        short = ob.short;
        small = ob.small;
        rests = ob.rests;
        fresh = ob.fresh;
        vacant = λ z lt'. absurd (omega arith);
        home = λ z le. absurd (omega arith);
        away = λ _. (set_here s.homes o none (omega arith), id, w, set_there s.views id v w at, sym now, subst (λ (z : Spot E). z.phase ≢ Free) (sym here) taken_is_busy);
        busy = λ j u b p. ⊎_elim
            (λ (t : (j ≡ id) × (w ≡ u)). (now ∙ ap (λ (z : View E). z.number) t.1, subst (λ (z : View E). 0 < z.number) t.1 real, ap (λ (z : View E). (spot z o).known) (sym t.1) ∙ (ap (λ (z : Spot E). z.known) here ∙ is)))
            (λ (t : (j ≢ id) × (get_elem? s.views j ≡ some u)). let d = ob.busy j u t.1 p in let a : get_or s.words (8 * o) 0 ≡ u.number = d.0 in let b : 0 < u.number = d.1 in absurd (omega arith))
            (at_set s.views id j w u b);
        once = λ q low high. same_sum (own_count o q) s.views id v w at (same_owned o q (spot w o) (spot v o) (ap (λ (z : Spot E). z.own) here)) ∙ ob.once q low high;
        else = λ q out. same_sum (own_count o q) s.views id v w at (same_owned o q (spot w o) (spot v o) (ap (λ (z : Spot E). z.own) here)) ∙ ob.else q out;
      }

  -- the table after the object o was taken
  rule_taken : (s : State (Option O) (View E)) (r : Rule s) (o id : ℕ) (v : View E) (actions : List Action) (log : List E) → o < r.world.objects → get_elem? s.views id ≡ some v → 0 < v.number → get_or s.words (8 * o) 0 ≡ 0 → log ≡ r.world.logs o
      → Knows summed between r.world (acted actions v) → Rule record { words = set s.words (8 * o) v.number; homes = set s.homes o none; views = set s.views id (kept_as actions o log v) }
  rule_taken s r o id v actions log lt at real e is noted =
      restated history number summed between s r r.world o id v (kept_as actions o log v) (set s.words (8 * o) v.number) (set s.homes o none) at real (taking actions o log v)
      (record { objects = refl; within = r.within; most = r.most; carried = r.carried }) (length-set s.words (8 * o) v.number) (length-set s.homes o none)
      (λ p ne l. record { turn = get_or-set_other s.words (8 * o) (8 * p) v.number 0 (λ q. ne (omega arith)); tally = get_or-set_other s.words (8 * o) (8 * p + 1) v.number 0 (λ q. omega arith); slot = set_else s.homes o p none ne; log = refl; fix = refl; awaits = λ z. z; has = λ z. z })
      (knows_received summed between r.world (acted actions v) o log lt is noted) (λ j u _ there b. r.knows j u there b) (λ _. object_taken s r o id v actions log lt at real e is)

  -- a step of the pass in the seat id at the turn word of the object o, and what it tells
  abbrev Turns : ℕ → (s : State (Option O) (View E)) → ℕ → ℕ → Me (Option O) (View E) → (ℕ → Me (Option O) (View E) → ℕ → Me (Option O) (View E) → Type 0) → ℕ → Type 0
  Turns slots s o id m told k = (w : View E) × (a : Act (Option O)) × Valid s.homes m.1 a × Rule (stepped s (8 * o) k id m.1 w a) × at_turn told (step slots (8 * o) 0 m.0.number none) m (get_or s.words (8 * o) 0) (w, carried_after m.1 a)

  took_hit : (slots : ℕ) (s : State (Option O) (View E)) (r : Rule s) (o id : ℕ) (m : Me (Option O) (View E)) → o < r.world.objects → 0 < m.0.number → m.0.awaited ≡ 0 → get_elem? s.views id ≡ some m.0 → get_or s.words (8 * o) 0 ≡ 0
      → Turns slots s o id m (took history number summed between) m.0.number
  took_hit slots s r o id m lt positive full at e =
      let ob = r.objects o lt in let mine = r.knows id m.0 at positive in let awaited : m.0.awaited ≡ r.world.awaited = mine.awaited in let h = ob.home e (omega arith) in let log : List E = history h.0 in
      let place : length log ≡ length (r.world.logs o) = ap length h.2 in (
        taken o log m.0,
        takes o (Some h.0),
        h.1,
        rule_taken s r o id m.0 (meeting o (length log) m.0 ∷ []) log lt at positive e h.2 (knows_meeting summed between r.world m.0 o (length log) r.carried mine ((r.named id m.0 at).own positive) place),
        λ o' same. subst (λ (k : ℕ). took history number summed between k m (get_or s.words (8 * o) 0) (taken o log m.0, (o, Some h.0) ∷ m.1)) (let q : o ≡ o' = omega arith in q)
            (λ _. (h.0, refl, record { continues = known_goes_on summed between r.world m.0 o log h.2 mine; rests = ap between h.2 ∙ ob.rests; kind = h.3 ∙ sym (mine.fixed o lt) }), λ ne. absurd (ne e)),
      )

  took_miss : (slots : ℕ) (s : State (Option O) (View E)) (r : Rule s) (o id : ℕ) (m : Me (Option O) (View E)) → o < r.world.objects → 0 < m.0.number → 0 < m.0.seats → (spot m.0 o).phase ≡ Free → get_elem? s.views id ≡ some m.0 → get_or s.words (8 * o) 0 ≢ 0
      → Turns slots s o id m (took history number summed between) (get_or s.words (8 * o) 0)
  took_miss slots s r o id m lt positive some_seat idle at ne =
      let ob = r.objects o lt in let turn : ℕ = get_or s.words (8 * o) 0 in let away = ob.away ne in let j : ℕ = away.1 in let v : View E = away.2 in let there : get_elem? s.views j ≡ some v = away.3 in
      let named : v.number ≡ turn = away.4 in let real : 0 < v.number = (ob.busy j v there away.5).1 in let his = given history number summed between s r j v.number v there ((r.named j v there).own real) in
      let mine = r.knows id m.0 at positive in let seats : m.0.seats ≡ r.world.seats = mine.seats in let most : r.world.seats ≤ 17 = r.most in
      let within : r.next ≤ r.world.seats + 1 = r.within (omega arith) in let low : 0 < turn = omega arith in let high : turn ≤ r.world.seats = (let c : v.number < r.next = his.1 in omega arith) in
      let apart : turn ≢ m.0.number = λ q. let same : j ≡ id = one_seat history number summed between s r j id v m.0 there at real (named ∙ q) in
      away.5 (ap (λ (z : View E). (spot z o).phase) (some-injective v m.0 (sym there ∙ (ap (get_elem? s.views) same ∙ at))) ∙ idle) in
      let w : View E = refused o turn m.0 in (
        w,
        keeps,
        tt,
        subst (λ (ws : List ℕ). Rule record { words = ws; homes = s.homes; views = set s.views id w }) (sym (set-get_or s.words (8 * o) 0))
            (restated history number summed between s r r.world r.world.objects id m.0 w s.words s.homes at positive (record { number = refl; numbers = refl; next = refl; spots = λ p _. refl })
            (record { objects = refl; within = r.within; most = r.most; carried = r.carried }) refl refl (λ p _ l. record { turn = refl; tally = refl; slot = refl; log = refl; fix = refl; awaits = λ z. z; has = λ z. z })
            (knows_refused summed between r.world m.0 o turn ((r.named id m.0 at).own positive) low high apart mine) (λ i u _ b c. r.knows i u b c) (λ l. absurd (omega arith))),
        λ o' same. subst (λ (k : ℕ). took history number summed between k m turn (w, m.1)) (let q : o ≡ o' = omega arith in q) (λ z. absurd (ne z), λ _. (refl, record { real = low; within = omega arith; few = omega arith; apart = apart })),
      )

  pub can_take : (slots number' o id : ℕ) (m : Me (Option O) (View E)) → o < slots → number' ≡ m.0.number → 0 < number' → 0 < m.0.seats → m.0.awaited ≡ 0 → (spot m.0 o).phase ≡ Free
      → Allows Rule slots id m (8 * o) (λ n. either (eqb n 0) number' n) (at_turn (took history number summed between) (step slots (8 * o) 0 number' none) m)
  can_take slots number' o id m lt mine real some_seat full free = let positive : 0 < m.0.number = omega arith in
      subst (λ (k : ℕ). Allows Rule slots id m (8 * o) (λ n. either (eqb n 0) k n) (at_turn (took history number summed between) (step slots (8 * o) 0 k none) m)) (sym mine)
      (λ s r deep at _. let n : ℕ = get_or s.words (8 * o) 0 in let count : length s.homes ≡ r.world.objects = r.deep in let inside : o < r.world.objects = omega arith in
      exchanged n 0 m.0.number (Turns slots s o id m (took history number summed between))
      (took_hit slots s r o id m inside positive full at) (took_miss slots s r o id m inside positive some_seat free at))

  -- no pass has an object that the one pass there is doesn't have
  turn_is_free : (s : State (Option O) (View E)) (r : Rule s) (o id : ℕ) (v : View E) → o < r.world.objects → get_elem? s.views id ≡ some v → 0 < v.number → v.next ≡ 2 → (spot v o).phase ≡ Free → get_or s.words (8 * o) 0 ≡ 0
  turn_is_free s r o id v lt at real two idle = let ob = r.objects o lt in dite (ℕ_discrete (get_or s.words (8 * o) 0) 0) (λ z. z)
      (λ ne. let a = ob.away ne in let j : ℕ = a.1 in let u : View E = a.2 in dite (ℕ_discrete j id)
      (λ q. absurd (a.5 (ap (λ (z : View E). (spot z o).phase) (some-injective u v (sym a.3 ∙ (ap (get_elem? s.views) q ∙ at))) ∙ idle)))
      (λ q. absurd (alone s r id v at real two j u q a.3 (ob.busy j u a.3 a.5).1)))

  took_empty : (slots : ℕ) (s : State (Option O) (View E)) (r : Rule s) (o id : ℕ) (m : Me (Option O) (View E)) → o < r.world.objects → 0 < m.0.number → o < m.0.awaited → get_elem? s.views id ≡ some m.0 → get_or s.words (8 * o) 0 ≡ 0
      → Turns slots s o id m took_vacant m.0.number
  took_empty slots s r o id m lt positive awaits at e =
      let ob = r.objects o lt in let mine = r.knows id m.0 at positive in let awaited : m.0.awaited ≡ r.world.awaited = mine.awaited in let awaits' : o < r.world.awaited = omega arith in (
        received o [] m.0,
        takes o None,
        ob.vacant e awaits',
        subst (λ (l : List Action). Rule (stepped s (8 * o) m.0.number id m.1 (received o [] (record m.0 { actions = l })) (takes o None))) (append-nil m.0.actions)
            (rule_taken s r o id m.0 [] [] lt at positive e (sym (ob.fresh awaits')) (knows_acted summed between r.world m.0 [] mine (λ i a f. absurd (some-ne-none a (sym f))) (λ i a f. absurd (some-ne-none a (sym f))))),
        λ o' same. subst (λ (k : ℕ). took_vacant k m (get_or s.words (8 * o) 0) (received o [] m.0, (o, None) ∷ m.1)) (let q : o ≡ o' = omega arith in q) (e, refl),
      )

  pub can_take_vacant : (slots number' o id : ℕ) (m : Me (Option O) (View E)) → o < slots → number' ≡ m.0.number → 0 < number' → m.0.next ≡ 2 → o < m.0.awaited → (spot m.0 o).phase ≡ Free
      → Allows Rule slots id m (8 * o) (λ n. either (eqb n 0) number' n) (at_turn took_vacant (step slots (8 * o) 0 number' none) m)
  can_take_vacant slots number' o id m lt mine real two awaits free = let positive : 0 < m.0.number = omega arith in
      subst (λ (k : ℕ). Allows Rule slots id m (8 * o) (λ n. either (eqb n 0) k n) (at_turn took_vacant (step slots (8 * o) 0 k none) m)) (sym mine)
      (λ s r deep at _. let n : ℕ = get_or s.words (8 * o) 0 in let count : length s.homes ≡ r.world.objects = r.deep in let inside : o < r.world.objects = omega arith in
      let idle : n ≡ 0 = turn_is_free s r o id m.0 inside at positive two free in
      exchanged n 0 m.0.number (Turns slots s o id m took_vacant)
      (took_empty slots s r o id m inside positive awaits at) (λ ne. absurd (ne idle)))
