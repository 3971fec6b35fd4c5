-- Setting up: bringing the number of passes and the fixed numbers, while one pass alone was made, keeps the desk rule.
use Rattle.std.proofs.Common.{◌≡◌, ◌≢◌, ℕ, ◌+◌, ◌*◌, ◌<◌, ◌≤◌, Bool, eqb, cond, List, [], length, get_or, set, sym, refl, ap, ◌∙◌, subst, ⊎_elim, arith, Option, length-set, get_or-set_other, get_or-set_same, eq-eqb, ne_eqb}
use Rattle.std.proofs.lemmas.List.{set-get_or}
use mathlib.Core.Logic.{dite}
use mathlib.Core.Option.{some, none, some-ne-none}
use native.Mathlib.Decide.{ℕ_discrete}
use lib.ListN.{get_elem?}
use Rattle.atomic_table.specs.Table.{State, Me, step, keeps, Allows}
use Rattle.atomic_table.proofs.Lists.{at_set}
use Rattle.turn_desk.specs.declared.view.Phase.TheVariants.{Free}
use Rattle.turn_desk.specs.declared.view.View.{View}
use Rattle.turn_desk.specs.View.{spot, own_count, seated, brought}
use Rattle.turn_desk.specs.Rule.{World, Knows, ObjectOk, Desked}
use Rattle.turn_desk.specs.Steps.{seats_brought, number_brought}
use Rattle.turn_desk.proofs.Lists.{set_there}
use Rattle.turn_desk.proofs.Rule.{restated, same_sum}
use Rattle.turn_desk.proofs.Takes.{alone}
use Rattle.turn_desk.proofs.Gives.{sole}

module _ {E : Type 0} where
  -- the world once the number of passes was brought
  abbrev pub with_seats : World E → ℕ → World E
  with_seats W seats = record W { seats = seats }

  -- the world once the object o was put in, with this fixed number
  abbrev pub with_object : World E → ℕ → ℕ → World E
  with_object W o number = record W { awaited = o; fixes = λ p. cond (eqb p o) number (W.fixes p) }

module _ {E : Type 0} (summed : List E → ℕ) (between : List E → Bool) where
  knows_seats : (W : World E) (v : View E) (seats : ℕ) → v.seats ≡ 0 → Knows summed between W v → Knows summed between (with_seats W seats) (seated seats v)
  knows_seats W v seats none_yet k = record {
    wide = k.wide;
    seats = refl;
    awaited = k.awaited;
    kinds = k.kinds;
    fixed = k.fixed;
    handed = k.handed;
    prefix = k.prefix;
    front = k.front;
    told = k.told;
    own = λ o i w e. let a = k.own o i w e in record { real = a.real; within = a.within; carries = a.carries };
    looks = k.looks;
    actions = λ i a e. let f = k.actions i a e in record { here = f.here; there = f.there };
    signed = record {
      own = k.signed.own;
      told = k.signed.told;
      refused = λ i r e. let a = k.signed.refused i r e in let low = a.1 in let high = a.2 in absurd (omega arith);
      looks = k.signed.looks;
      actions = k.signed.actions;
    };
  }

  knows_object : (W : World E) (v : View E) (o number : ℕ) → o < W.objects → v.handed ≡ [] → Knows summed between W v → Knows summed between (with_object W o number) (brought o number v)
  knows_object W v o number lt unhanded k = let kinds : length v.fixed ≡ W.objects = k.kinds in record {
    wide = k.wide;
    seats = k.seats;
    awaited = refl;
    kinds = length-set v.fixed o number ∙ k.kinds;
    handed = λ i l e p lt'. absurd (some-ne-none l (sym (subst (λ (z : List (List ℕ)). get_elem? z i ≡ some l) unhanded e)));
    fixed = λ p l. dite (ℕ_discrete p o)
        (λ e. subst (λ (q : ℕ). get_or (set v.fixed o number) q 0 ≡ cond (eqb q o) number (W.fixes q)) (sym e) (get_or-set_same v.fixed o number 0 (omega arith) ∙ sym (ap (λ (b : Bool). cond b number (W.fixes o)) (eq-eqb o o refl))))
        (λ ne. get_or-set_other v.fixed o p number 0 ne ∙ (k.fixed p l ∙ sym (ap (λ (b : Bool). cond b number (W.fixes p)) (ne_eqb p o ne))));
    prefix = k.prefix;
    front = k.front;
    told = k.told;
    own = λ p i w e. let a = k.own p i w e in record { real = a.real; within = a.within; carries = a.carries };
    looks = k.looks;
    actions = λ i a e. let f = k.actions i a e in record { here = f.here; there = f.there };
    signed = record { own = k.signed.own; told = k.signed.told; refused = k.signed.refused; looks = k.signed.looks; actions = k.signed.actions };
  }

module _ {O E : Type 0} (history : O → List E) (number : O → ℕ) (summed : List E → ℕ) (between : List E → Bool) where
  abbrev Rule : State (Option O) (View E) → Type 0
  Rule = Desked history number summed between

  pub can_bring_seats : (slots seats id : ℕ) (m : Me (Option O) (View E)) → 0 < seats → seats ≤ 17 → 0 < m.0.number → m.0.next ≡ 2 → m.0.seats ≡ 0
      → Allows Rule slots id m 0 (λ n. n) (seats_brought seats (step slots 0 0 0 none) m)
  can_bring_seats slots seats id m some_seat few real two none_yet s r deep at _ =
      let next : m.0.next ≡ r.next = ((r.named id m.0 at).makes (omega arith)).0 in let w : View E = seated seats m.0 in let W' : World E = with_seats r.world seats in (
        w,
        keeps,
        tt,
        subst (λ (ws : List ℕ). Rule record { words = ws; homes = s.homes; views = set s.views id w }) (sym (set-get_or s.words 0 0))
            (restated history number summed between s r W' r.world.objects id m.0 w s.words s.homes at real (record { number = refl; numbers = refl; next = refl; spots = λ p _. refl })
            (record { objects = refl; within = λ _. omega arith; most = few; carried = λ o i low high. let c = r.carried o i low high in c }) refl refl (λ p _ l. record { turn = refl; tally = refl; slot = refl; log = refl; fix = refl; awaits = λ z. z; has = λ z. z })
            (knows_seats summed between r.world m.0 seats none_yet (r.knows id m.0 at real)) (λ j u ne there b. absurd (alone history number summed between s r id m.0 at real two j u ne there b)) (λ l. absurd (omega arith))),
        refl,
      )

  -- the object o once its fixed number was brought
  object_brought : (s : State (Option O) (View E)) (r : Rule s) (o id number' : ℕ) (v : View E) → (lt : o < r.world.objects) → get_elem? s.views id ≡ some v → (spot v o).phase ≢ Free
      → ObjectOk history number summed between s.words s.homes (set s.views id (brought o number' v)) (with_object r.world o number') o
  object_brought s r o id number' v lt at busy =
      let ob = r.objects o lt in let mine = ob.busy id v at busy in let positive : 0 < v.number = mine.1 in let turned : get_or s.words (8 * o) 0 ≡ v.number = mine.0 in let w : View E = brought o number' v in record {
        tally = ob.tally;
        short = ob.short;
        small = ob.small;
        rests = ob.rests;
        fresh = λ l. absurd (omega arith);
        vacant = λ z l. absurd (omega arith);
        home = λ z _. absurd (omega arith);
        away = λ _. ((ob.away (λ z. omega arith)).0, id, w, set_there s.views id v w at, sym turned, busy);
        busy = λ j u b p. ⊎_elim
            (λ (t : (j ≡ id) × (w ≡ u)). (turned ∙ ap (λ (z : View E). z.number) t.1, subst (λ (z : View E). 0 < z.number) t.1 positive, ap (λ (z : View E). (spot z o).known) (sym t.1) ∙ mine.2))
            (λ (t : (j ≢ id) × (get_elem? s.views j ≡ some u)). absurd (sole history number summed between s r o id v lt at busy j u t.0 t.1 p))
            (at_set s.views id j w u b);
        once = λ q low high. same_sum (own_count o q) s.views id v w at refl ∙ ob.once q low high;
        else = λ q out. same_sum (own_count o q) s.views id v w at refl ∙ ob.else q out;
      }

  pub can_bring_number : (slots o number' id : ℕ) (m : Me (Option O) (View E)) → o < slots → (spot m.0 o).phase ≢ Free → m.0.next ≡ 2 → m.0.awaited ≡ o + 1 → m.0.handed ≡ []
      → Allows Rule slots id m 0 (λ n. n) (number_brought o number' (step slots 0 0 0 none) m)
  can_bring_number slots o number' id m lt busy two last unhanded s r deep at _ =
      let count : length s.homes ≡ r.world.objects = r.deep in let inside : o < r.world.objects = omega arith in let real = ((r.objects o inside).busy id m.0 at busy).1 in let knows = r.knows id m.0 at real in
      let awaited : m.0.awaited ≡ r.world.awaited = knows.awaited in let w : View E = brought o number' m.0 in let W' : World E = with_object r.world o number' in (
        w,
        keeps,
        tt,
        subst (λ (ws : List ℕ). Rule record { words = ws; homes = s.homes; views = set s.views id w }) (sym (set-get_or s.words 0 0))
            (restated history number summed between s r W' o id m.0 w s.words s.homes at real (record { number = refl; numbers = refl; next = refl; spots = λ p _. refl })
            (record { objects = refl; within = r.within; most = r.most; carried = λ p i low high. let c = r.carried p i low high in c }) refl refl
            (λ p ne l. record { turn = refl; tally = refl; slot = refl; log = refl; fix = ap (λ (b : Bool). cond b number' (r.world.fixes p)) (ne_eqb p o ne); awaits = λ z. omega arith; has = λ z. omega arith })
            (knows_object summed between r.world m.0 o number' inside unhanded knows) (λ j u ne there b. absurd (alone history number summed between s r id m.0 at real two j u ne there b))
            (λ _. object_brought s r o id number' m.0 inside at busy)),
        refl,
      )
