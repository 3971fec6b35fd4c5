-- Publishing an object's history and giving the object back keep the desk rule.
use Rattle.std.proofs.Common.{◌≡◌, ◌≢◌, ◌⊎◌, ℕ, ◌+◌, ◌-◌, ◌*◌, ◌^◌, ◌<◌, ◌≤◌, ◌==◌, Bool, true, eqb, cond, zero, suc, List, ◌∷◌, ◌++◌, length, get_or, set, sym, refl, ap, ◌∙◌, subst, ⊎_elim, inl, inr, arith, Option, Some, length-set, get_or-set_other, get_or-set_same, eq-eqb, ne_eqb, count_by, lt_of_not-le}
use Rattle.std.proofs.lemmas.List.{length-map}
use Rattle.std.proofs.lemmas.List.Sums.{sum_by-cons, sum_by-append}
use mathlib.Core.Logic.{dite}
use mathlib.Core.Option.{some, none}
use native.Mathlib.Decide.{dec_le, ℕ_discrete}
use lib.ListN.{get_elem?}
use Rattle.atomic_table.specs.Table.{State, Me, step, keeps, gives, Allows}
use Rattle.atomic_table.proofs.Lists.{at_set, set_here, set_else}
use Rattle.turn_desk.specs.declared.view.Action.{Action}
use Rattle.turn_desk.specs.declared.view.Own.{Own}
use Rattle.turn_desk.specs.declared.view.Phase.TheVariants.{Free, Taken, Published}
use Rattle.turn_desk.specs.declared.view.Spot.{Spot}
use Rattle.turn_desk.specs.declared.view.View.{View}
use Rattle.love_base.specs.Prefix.{IsPrefix}
use Rattle.love_base.proofs.Prefixes.{whole, longer}
use Rattle.turn_desk.specs.View.{places, changes, spot, own_count, number_count, fronts_of, acted, published, freed}
use Rattle.turn_desk.specs.Rule.{World, Later, Knows, ObjectOk, Desked, AreCarried, IsFresh, tally_of}
use Rattle.turn_desk.specs.Steps.{at_turn, at_tally, put_out, gave}
use Rattle.turn_desk.proofs.Lists.{set_there, sum_set, at_either}
use Rattle.turn_desk.proofs.Notes.{place_in, change_in, changes_signed}
use Rattle.turn_desk.proofs.Rule.{one_seat, restated, knows_spot, knows_acted, own_stays, told_stays, stays_known, same_sum, same_owned}
use Rattle.turn_desk.proofs.Views.{at_spot, off_spot, front_at, taken_is_busy, published_is_busy}

-- the new places stand once each among the places that were filled
places_outside : (seat o : ℕ) (fronts : List ℕ) (after n q : ℕ) → (q ≤ after) ⊎ (after + n < q) → count_by (λ (w : Own). w.place == q) (places seat o fronts after n) ≡ 0
places_outside seat o fronts after zero q out = refl
places_outside seat o fronts after (suc n) q out =
    let tail = places_outside seat o fronts (after + 1) n q (⊎_elim (λ (l : q ≤ after). inl (omega arith)) (λ (g : after + suc n < q). inr (omega arith)) out) in
    let apart : after + 1 ≢ q = λ e. (let no : ⊥ = ⊎_elim (λ (l : q ≤ after). let f : ⊥ = omega arith in f) (λ (g : after + suc n < q). let f : ⊥ = omega arith in f) out in no) in
    let head : cond {A = ℕ} (eqb (after + 1) q) 1 0 ≡ 0 = ap (λ (b : Bool). cond {A = ℕ} b 1 0) (ne_eqb (after + 1) q apart) in
    omega (arith, sum_by-cons (λ (w : Own). cond (w.place == q) 1 0) (record { seat = seat; place = after + 1; carries = set fronts o (after + 1) }) (places seat o fronts (after + 1) n))

places_inside : (seat o : ℕ) (fronts : List ℕ) (after n q : ℕ) → after < q → q ≤ after + n → count_by (λ (w : Own). w.place == q) (places seat o fronts after n) ≡ 1
places_inside seat o fronts after zero q low high = absurd (omega arith)
places_inside seat o fronts after (suc n) q low high =
    let cons = sum_by-cons (λ (w : Own). cond (w.place == q) 1 0) (record { seat = seat; place = after + 1; carries = set fronts o (after + 1) }) (places seat o fronts (after + 1) n) in dite (ℕ_discrete (after + 1) q)
    (λ e. let tail = places_outside seat o fronts (after + 1) n q (inl (omega arith)) in let head : cond {A = ℕ} (eqb (after + 1) q) 1 0 ≡ 1 = ap (λ (b : Bool). cond {A = ℕ} b 1 0) (eq-eqb (after + 1) q e) in omega (arith, cons))
    (λ ne. let tail = places_inside seat o fronts (after + 1) n q (omega arith) (omega arith) in let head : cond {A = ℕ} (eqb (after + 1) q) 1 0 ≡ 0 = ap (λ (b : Bool). cond {A = ℕ} b 1 0) (ne_eqb (after + 1) q ne) in omega (arith, cons))

module _ {E : Type 0} where
  -- the histories, with one of them put in place of another
  abbrev pub with_log : (ℕ → List E) → ℕ → List E → ℕ → List E
  with_log logs o log p = cond (eqb p o) log (logs p)

  pub log_here : (logs : ℕ → List E) (o : ℕ) (log : List E) → with_log logs o log o ≡ log
  log_here logs o log = ap (λ (b : Bool). cond b log (logs o)) (eq-eqb o o refl)

  pub log_off : (logs : ℕ → List E) (o p : ℕ) (log : List E) → p ≢ o → with_log logs o log p ≡ logs p
  log_off logs o p log ne = ap (λ (b : Bool). cond b log (logs p)) (ne_eqb p o ne)

  -- what the entries carry, once new ones at the object o carry their own places there and these fronts elsewhere
  abbrev pub with_carried : World E → ℕ → List ℕ → ℕ → ℕ → List ℕ
  with_carried W o fronts p i = cond (eqb p o) (cond (eqb (i - length (W.logs p)) 0) (W.carries p i) (set fronts o i)) (W.carries p i)

  carried_old : (W : World E) (o : ℕ) (fronts : List ℕ) (p i : ℕ) → i ≤ length (W.logs p) → with_carried W o fronts p i ≡ W.carries p i
  carried_old W o fronts p i le = let e = eq-eqb (i - length (W.logs p)) 0 (omega arith) in let inner = ap (λ (b : Bool). cond b (W.carries p i) (set fronts o i)) e in dite (ℕ_discrete p o)
      (λ q. ap (λ (b : Bool). cond b (cond (eqb (i - length (W.logs p)) 0) (W.carries p i) (set fronts o i)) (W.carries p i)) (eq-eqb p o q) ∙ inner)
      (λ ne. ap (λ (b : Bool). cond b (cond (eqb (i - length (W.logs p)) 0) (W.carries p i) (set fronts o i)) (W.carries p i)) (ne_eqb p o ne))

  carried_new : (W : World E) (o : ℕ) (fronts : List ℕ) (i : ℕ) → length (W.logs o) < i → with_carried W o fronts o i ≡ set fronts o i
  carried_new W o fronts i lt = ap (λ (b : Bool). cond b (cond (eqb (i - length (W.logs o)) 0) (W.carries o i) (set fronts o i)) (W.carries o i)) (eq-eqb o o refl)
      ∙ ap (λ (b : Bool). cond b (W.carries o i) (set fronts o i)) (ne_eqb (i - length (W.logs o)) 0 (λ e. omega arith))

  -- the world after this history of the object o was published by a pass that had these fronts
  abbrev pub with_history : World E → ℕ → List E → List ℕ → World E
  with_history W o log fronts = record W { logs = with_log W.logs o log; carries = with_carried W o fronts }

  grows : (W : World E) (o : ℕ) (log : List E) (fronts : List ℕ) → IsPrefix (W.logs o) log → Later W (with_history W o log fronts)
  grows W o log fronts longer = record {
    objects = refl;
    seats = refl;
    awaited = refl;
    fixes = λ p. refl;
    logs = λ p. dite (ℕ_discrete p o) (λ e. subst (λ (k : ℕ). IsPrefix (W.logs k) (with_log W.logs o log k)) (sym e) (subst (IsPrefix (W.logs o)) (sym (log_here W.logs o log)) longer))
        (λ ne. subst (IsPrefix (W.logs p)) (sym (log_off W.logs o p log ne)) (whole (W.logs p)));
    carries = λ p i le. carried_old W o fronts p i le;
  }

  -- the new entries carry what they should, and the old ones still do
  still_carried : (W : World E) (o : ℕ) (log : List E) (fronts : List ℕ) → o < length fronts → ((b : ℕ) → get_or fronts b 0 ≤ length (W.logs b)) → IsPrefix (W.logs o) log → AreCarried W → AreCarried (with_history W o log fronts)
  still_carried W o log fronts inside low more carried p i real within =
      let W' : World E = with_history W o log fronts in let later = grows W o log fronts more in
      let further : (b : ℕ) → length (W.logs b) ≤ length (W'.logs b) = λ b. longer (W.logs b) (W'.logs b) (later.logs b) in dite (dec_le i (length (W.logs p)))
      (λ le. let same = carried_old W o fronts p i le in let a = carried p i real le in
      (ap (λ (l : List ℕ). get_or l p 0) same ∙ a.0, λ b. subst (λ (l : List ℕ). get_or l b 0 ≤ length (W'.logs b)) (sym same) (let c = a.1 b in let d = further b in omega arith)))
      (λ nle. let new : p ≡ o = dite (ℕ_discrete p o) (λ e. e) (λ ne. let e = ap length (log_off W.logs o p log ne) in absurd (nle (omega arith))) in
      subst (λ (q : ℕ). (get_or (W'.carries q i) q 0 ≡ i) × ((b : ℕ) → get_or (W'.carries q i) b 0 ≤ length (W'.logs b))) (sym new)
      (let gt : length (W.logs o) < i = subst (λ (q : ℕ). length (W.logs q) < i) new (lt_of_not-le nle) in let high : i ≤ length log = subst (λ (l : List E). i ≤ length l) (log_here W.logs o log) (subst (λ (q : ℕ). i ≤ length (W'.logs q)) new within) in
      let is = carried_new W o fronts i gt in let end = ap length (log_here W.logs o log) in (
        ap (λ (l : List ℕ). get_or l o 0) is ∙ get_or-set_same fronts o i 0 inside,
        λ b. subst (λ (l : List ℕ). get_or l b 0 ≤ length (W'.logs b)) (sym is) (dite (ℕ_discrete b o)
            (λ e. subst (λ (q : ℕ). get_or (set fronts o i) q 0 ≤ length (W'.logs q)) (sym e) (let z = get_or-set_same fronts o i 0 inside in omega arith))
            (λ ne. let z = get_or-set_other fronts o b i 0 ne in let c = low b in let d = further b in omega arith)),
      )))

  -- what is known of the object o once its history was published
  abbrev pub published_spot : ℕ → List E → View E → Spot E
  published_spot o log v = let x = spot v o in record { phase = Published; known = log; front = length log; own = x.own ++ places v.number o (fronts_of v) (length x.known) (length log - length x.known); told = x.told }

  abbrev pub freed_spot : ℕ → View E → Spot E
  freed_spot o v = let x = spot v o in record { phase = Free; known = x.known; front = x.front; own = x.own; told = x.told }

  -- how often a place is the pass's own once the history was published: once more, where it is new
  own_published : (o q : ℕ) (log : List E) (v : View E) → o < length v.spots
      → own_count o q (published o log v) ≡ own_count o q v + count_by (λ (w : Own). w.place == q) (places v.number o (fronts_of v) (length (spot v o).known) (length log - length (spot v o).known))
  own_published o q log v lt = ap (λ (z : Spot E). count_by (λ (w : Own). w.place == q) z.own) (at_spot v o (published_spot o log v) lt)
      ∙ sum_by-append (λ (w : Own). cond (w.place == q) 1 0) (spot v o).own (places v.number o (fronts_of v) (length (spot v o).known) (length log - length (spot v o).known))

module _ {E : Type 0} (summed : List E → ℕ) (between : List E → Bool) where
  -- what the pass that publishes knows then
  knows_published : (W : World E) (v : View E) (o : ℕ) (log : List E) → o < W.objects → AreCarried W → Knows summed between W v → 0 < number_count v.number v → (spot v o).known ≡ W.logs o → IsPrefix (W.logs o) log
      → Knows summed between (with_history W o log (fronts_of v)) (published o log v)
  knows_published W v o log lt carried k own same more =
      let fronts : List ℕ = fronts_of v in let W' : World E = with_history W o log fronts in let later = grows W o log fronts more in let known = stays_known summed between W W' v later k in let now = log_here W.logs o log in
      let before : length (spot v o).known ≡ length (W.logs o) = ap length same in let end = ap length now in let long = longer (W.logs o) log more in let f = (k.front o).1 in let wide : length v.spots ≡ W.objects = k.wide in
      let n : ℕ = length log - length (spot v o).known in let actions : List Action = changes v.number o fronts (length (spot v o).known) n in
      let fresh : (i : ℕ) (a : Action) → get_elem? actions i ≡ some a → IsFresh W' a = λ i a e. (let c = change_in v.number o fronts (length (spot v o).known) n i a e in let low = c.1 in
      subst (IsFresh W') c.3 (record {
        here = let g = front_at v o in omega arith;
        there = λ b j real reach. let g = front_at v b in let h = (k.front b).1 in let le : j ≤ length (W.logs b) = omega arith in let d = (carried b j real le).1 o in let s = carried_old W o fronts b j le in let t = ap (λ (l : List ℕ). get_or l o 0) s in omega arith;
      })) in
      let noted = knows_acted summed between W' v actions known (changes_signed v o (length (spot v o).known) n own) fresh in
      knows_spot summed between W' (acted actions v) o (published_spot o log v) lt noted (subst (IsPrefix log) (sym now) (whole log)) (omega arith) (omega arith) (omega arith) (told_stays summed between W' (acted actions v) o noted)
      (λ i w e. ⊎_elim (λ (q : get_elem? (spot v o).own i ≡ some w). own_stays summed between W' (acted actions v) o noted i w q)
      (λ (q : (j : ℕ) × (get_elem? (places v.number o fronts (length (spot v o).known) n) j ≡ some w)). let c = place_in v.number o fronts (length (spot v o).known) n q.0 w q.1 in let low = c.1 in let high = c.2 in
      (subst (λ (m : ℕ). 0 < number_count m v) (sym c.0) own, record { real = omega arith; within = omega arith; carries = c.3 ∙ sym (carried_new W o fronts w.place (omega arith)) }))
      (at_either (spot v o).own (places v.number o fronts (length (spot v o).known) n) i w e))

module _ {O E : Type 0} (history : O → List E) (number : O → ℕ) (summed : List E → ℕ) (between : List E → Bool) where
  abbrev Rule : State (Option O) (View E) → Type 0
  Rule = Desked history number summed between

  -- two passes never have one object
  pub sole : (s : State (Option O) (View E)) (r : Rule s) (o id : ℕ) (v : View E) → o < r.world.objects → get_elem? s.views id ≡ some v → (spot v o).phase ≢ Free
      → (j : ℕ) (u : View E) → j ≢ id → get_elem? s.views j ≡ some u → ¬ ((spot u o).phase ≢ Free)
  sole s r o id v lt at busy j u ne there b = let ob = r.objects o lt in let d = ob.busy j u there b in let m = ob.busy id v at busy in
      ne (one_seat history number summed between s r j id u v there at d.1 (sym d.0 ∙ m.0))

  -- the object o once its history was published
  object_published : (s : State (Option O) (View E)) (r : Rule s) (o id new : ℕ) (v : View E) (log : List E) → (lt : o < r.world.objects) → get_elem? s.views id ≡ some v → (spot v o).phase ≢ Free → v.awaited ≡ 0 → IsPrefix (spot v o).known log
      → between log ≡ true → length log < 2 ^ 22 → summed log < 2 ^ 42 → new ≡ tally_of summed log
      → ObjectOk history number summed between (set s.words (8 * o + 1) new) s.homes (set s.views id (published o log v)) (with_history r.world o log (fronts_of v)) o
  object_published s r o id new v log lt at busy full longer' rests short small tally =
      let ob = r.objects o lt in let long : length s.words ≡ 8 * r.world.objects = r.wide in let mine = ob.busy id v at busy in let knows = r.knows id v at mine.1 in let wide : length v.spots ≡ r.world.objects = knows.wide in
      let awaited : v.awaited ≡ r.world.awaited = knows.awaited in let positive : 0 < v.number = mine.1 in let turned : get_or s.words (8 * o) 0 ≡ v.number = mine.0 in
      let stays : get_or (set s.words (8 * o + 1) new) (8 * o) 0 ≡ get_or s.words (8 * o) 0 = get_or-set_other s.words (8 * o + 1) (8 * o) new 0 (λ q. omega arith) in
      let w : View E = published o log v in let here : spot w o ≡ published_spot o log v = at_spot v o (published_spot o log v) (omega arith) in let now = log_here r.world.logs o log in
      let before : length (spot v o).known ≡ length (r.world.logs o) = ap length mine.2 in let more = longer (spot v o).known log longer' in
      let own = λ (q : ℕ). own_published o q log v (omega arith) in let sums = λ (q : ℕ). sum_set (own_count o q) s.views id v w at in record {
        tally = get_or-set_same s.words (8 * o + 1) new 0 (omega arith) ∙ (tally ∙ ap (tally_of summed) (sym now));
        short = subst (λ (l : List E). length l < 2 ^ 22) (sym now) short;
        small = subst (λ (l : List E). summed l < 2 ^ 42) (sym now) small;
        rests = ap between now ∙ rests;
        fresh = λ l. absurd (omega arith);
        vacant = λ z l. absurd (omega arith);
        home = λ z le. absurd (omega arith);
        away = λ _. ((ob.away (λ z. omega arith)).0, id, w, set_there s.views id v w at, sym turned ∙ sym stays, subst (λ (z : Spot E). z.phase ≢ Free) (sym here) published_is_busy);
        busy = λ j u b p. ⊎_elim
            (λ (t : (j ≡ id) × (w ≡ u)). (stays ∙ (turned ∙ ap (λ (z : View E). z.number) t.1), subst (λ (z : View E). 0 < z.number) t.1 positive, ap (λ (z : View E). (spot z o).known) (sym t.1) ∙ (ap (λ (z : Spot E). z.known) here ∙ sym now)))
            (λ (t : (j ≢ id) × (get_elem? s.views j ≡ some u)). absurd (sole s r o id v lt at busy j u t.0 t.1 p))
            (at_set s.views id j w u b);
        once = λ q low high. let high' : q ≤ length log = subst (λ (l : List E). q ≤ length l) now high in dite (dec_le q (length (r.world.logs o)))
            (λ le. let old = ob.once q low le in let none_new = places_outside v.number o (fronts_of v) (length (spot v o).known) (length log - length (spot v o).known) q (inl (omega arith)) in let a = own q in let b = sums q in omega arith)
            (λ nle. let gt : length (r.world.logs o) < q = lt_of_not-le nle in let old = ob.else q (inr gt) in let one_new = places_inside v.number o (fronts_of v) (length (spot v o).known) (length log - length (spot v o).known) q (omega arith) (omega arith) in let a = own q in let b = sums q in omega arith);
        else = λ q out. let out' : (q ≡ 0) ⊎ (length log < q) = subst (λ (l : List E). (q ≡ 0) ⊎ (length l < q)) now out in
            let old = ob.else q (⊎_elim (λ (z : q ≡ 0). inl z) (λ (g : length log < q). inr (omega arith)) out') in
            let none_new = places_outside v.number o (fronts_of v) (length (spot v o).known) (length log - length (spot v o).known) q (⊎_elim (λ (z : q ≡ 0). inl (omega arith)) (λ (g : length log < q). inr (omega arith)) out') in let a = own q in let b = sums q in omega arith;
      }

  pub can_publish : (slots o id new : ℕ) (log : List E) (m : Me (Option O) (View E)) → o < slots → (spot m.0 o).phase ≡ Taken → m.0.awaited ≡ 0 → IsPrefix (spot m.0 o).known log → between log ≡ true → length log < 2 ^ 22 → summed log < 2 ^ 42 → new ≡ tally_of summed log
      → Allows Rule slots id m (8 * o + 1) (λ _. new) (at_tally (put_out log) (step slots (8 * o + 1) new 0 none) m)
  can_publish slots o id new log m lt phase full longer' rests short small tally s r deep at _ =
      let count : length s.homes ≡ r.world.objects = r.deep in let inside : o < r.world.objects = omega arith in
      let busy : (spot m.0 o).phase ≢ Free = λ e. taken_is_busy (sym phase ∙ e) in let ob = r.objects o inside in let mine = ob.busy id m.0 at busy in let knows = r.knows id m.0 at mine.1 in let wide : length m.0.spots ≡ r.world.objects = knows.wide in
      let w : View E = published o log m.0 in let fronts : List ℕ = fronts_of m.0 in let W' : World E = with_history r.world o log fronts in let now = log_here r.world.logs o log in
      let more : IsPrefix (r.world.logs o) log = subst (λ (l : List E). IsPrefix l log) mine.2 longer' in let later : Later r.world W' = grows r.world o log fronts more in
      let many : length fronts ≡ length m.0.spots = length-map m.0.spots (λ (x : Spot E). x.front) in let seen : (b : ℕ) → get_or fronts b 0 ≤ length (r.world.logs b) = λ b. (let f = front_at m.0 b in let g = (knows.front b).1 in omega arith) in
      let ahead : (spot m.0 o).front ≤ length log = (let f = (knows.front o).1 in let g = longer (r.world.logs o) log more in omega arith) in
      let long : length s.words ≡ 8 * r.world.objects = r.wide in (
        w,
        keeps,
        tt,
        restated history number summed between s r W' o id m.0 w (set s.words (8 * o + 1) new) s.homes at mine.1
            (record { number = refl; numbers = refl; next = refl; spots = λ p ne. off_spot m.0 o p (published_spot o log m.0) ne })
            (record { objects = refl; within = r.within; most = r.most; carried = still_carried r.world o log fronts (omega arith) seen more r.carried })
            (length-set s.words (8 * o + 1) new) refl
            (λ p ne l. record { turn = get_or-set_other s.words (8 * o + 1) (8 * p) new 0 (λ q. omega arith); tally = get_or-set_other s.words (8 * o + 1) (8 * p + 1) new 0 (λ q. ne (omega arith)); slot = refl; log = log_off r.world.logs o p log ne; fix = refl; awaits = λ z. z; has = λ z. z })
            (knows_published summed between r.world m.0 o log inside r.carried knows ((r.named id m.0 at).own mine.1) mine.2 more)
            (λ j u _ there b. stays_known summed between r.world W' u later (r.knows j u there b))
            (λ _. object_published s r o id new m.0 log inside at busy full longer' rests short small tally),
        λ o' same. subst (λ (k : ℕ). put_out log k m (get_or s.words (8 * o + 1) 0) (w, m.1)) (let q : o ≡ o' = omega arith in q) (refl, ahead),
      )

  -- the object o once it was given back
  object_given : (s : State (Option O) (View E)) (r : Rule s) (o id : ℕ) (v : View E) (x : O) → (lt : o < r.world.objects) → get_elem? s.views id ≡ some v → (spot v o).phase ≢ Free → v.awaited ≤ o → history x ≡ (spot v o).known → number x ≡ get_or v.fixed o 0
      → ObjectOk history number summed between (set s.words (8 * o) 0) (set s.homes o (some (Some x))) (set s.views id (freed o v)) r.world o
  object_given s r o id v x lt at busy has same kind =
      let ob = r.objects o lt in let long : length s.words ≡ 8 * r.world.objects = r.wide in let deep : length s.homes ≡ r.world.objects = r.deep in let mine = ob.busy id v at busy in let knows = r.knows id v at mine.1 in
      let wide : length v.spots ≡ r.world.objects = knows.wide in let awaited : v.awaited ≡ r.world.awaited = knows.awaited in let now : get_or (set s.words (8 * o) 0) (8 * o) 0 ≡ 0 = get_or-set_same s.words (8 * o) 0 0 (omega arith) in
      let w : View E = freed o v in let here : spot w o ≡ freed_spot o v = at_spot v o (freed_spot o v) (omega arith) in record {
        tally = get_or-set_other s.words (8 * o) (8 * o + 1) 0 0 (λ q. omega arith) ∙ ob.tally;
        short = ob.short;
        small = ob.small;
        rests = ob.rests;
        fresh = ob.fresh;
        vacant = λ z l. absurd (omega arith);
        home = λ _ _. (x, set_here s.homes o (some (Some x)) (omega arith), same ∙ mine.2, kind ∙ knows.fixed o lt);
        away = λ ne. absurd (ne now);
        busy = λ j u b p. ⊎_elim
            (λ (t : (j ≡ id) × (w ≡ u)). absurd (p (ap (λ (z : View E). (spot z o).phase) (sym t.1) ∙ ap (λ (z : Spot E). z.phase) here)))
            (λ (t : (j ≢ id) × (get_elem? s.views j ≡ some u)). absurd (sole s r o id v lt at busy j u t.0 t.1 p))
            (at_set s.views id j w u b);
        once = λ q low high. same_sum (own_count o q) s.views id v w at (same_owned o q (spot w o) (spot v o) (ap (λ (z : Spot E). z.own) here)) ∙ ob.once q low high;
        else = λ q out. same_sum (own_count o q) s.views id v w at (same_owned o q (spot w o) (spot v o) (ap (λ (z : Spot E). z.own) here)) ∙ ob.else q out;
      }

  pub can_give : (slots o id : ℕ) (x : O) (others : List (ℕ × Option O)) (m : Me (Option O) (View E)) → o < slots → (spot m.0 o).phase ≢ Free → m.0.awaited ≤ o → m.1 ≡ (o, Some x) ∷ others → history x ≡ (spot m.0 o).known → number x ≡ get_or m.0.fixed o 0
      → Allows Rule slots id m (8 * o) (λ _. 0) (at_turn gave (step slots (8 * o) 0 0 none) m)
  can_give slots o id x others m lt busy has carries same kind = subst (λ (c : List (ℕ × Option O)). Allows Rule slots id (m.0, c) (8 * o) (λ _. 0) (at_turn gave (step slots (8 * o) 0 0 none) (m.0, c))) (sym carries)
      (λ s r deep at _. let count : length s.homes ≡ r.world.objects = r.deep in let inside : o < r.world.objects = omega arith in let long : length s.words ≡ 8 * r.world.objects = r.wide in
      let mine = (r.objects o inside).busy id m.0 at busy in let knows = r.knows id m.0 at mine.1 in let front = knows.front o in (
        freed o m.0,
        gives,
        tt,
        restated history number summed between s r r.world o id m.0 (freed o m.0) (set s.words (8 * o) 0) (set s.homes o (some (Some x))) at mine.1
            (record { number = refl; numbers = refl; next = refl; spots = λ p ne. off_spot m.0 o p (freed_spot o m.0) ne }) (record { objects = refl; within = r.within; most = r.most; carried = r.carried })
            (length-set s.words (8 * o) 0) (length-set s.homes o (some (Some x)))
            (λ p ne l. record { turn = get_or-set_other s.words (8 * o) (8 * p) 0 0 (λ q. ne (omega arith)); tally = get_or-set_other s.words (8 * o) (8 * p + 1) 0 0 (λ q. omega arith); slot = set_else s.homes o p (some (Some x)) ne; log = refl; fix = refl; awaits = λ z. z; has = λ z. z })
            (knows_spot summed between r.world m.0 o (freed_spot o m.0) inside knows (knows.prefix o) front.0 front.1 (omega arith) (told_stays summed between r.world m.0 o knows) (own_stays summed between r.world m.0 o knows)) (λ j u _ there b. r.knows j u there b)
            (λ _. object_given s r o id m.0 x inside at busy has same kind),
        λ o' e. subst (λ (k : ℕ). gave k (m.0, (o, Some x) ∷ others) (get_or s.words (8 * o) 0) (freed o m.0, others)) (let q : o ≡ o' = omega arith in q) refl,
      ))
