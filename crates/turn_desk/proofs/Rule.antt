-- The desk rule after a step of one pass at one object.
use Rattle.std.proofs.Common.{◌≡◌, ◌≢◌, ◌⊎◌, ℕ, ◌+◌, ◌*◌, ◌^◌, ◌<◌, ◌≤◌, ◌==◌, Bool, List, [], ◌∷◌, length, get_or, set, sym, ap, ◌∙◌, subst, ⊎_elim, inl, inr, arith, Option, length-set, sum_by, count_by, lt_of_not-le}
use mathlib.Core.Logic.{dite}
use mathlib.Core.Option.{some, some-injective}
use mathlib.Core.Option as maybe
use native.Mathlib.Decide.{dec_le, ℕ_discrete}
use lib.ListN.{get_elem?}
use Rattle.atomic_table.specs.Table.{State}
use Rattle.atomic_table.proofs.Lists.{at_set, set_else}
use Rattle.turn_desk.specs.declared.view.Action.{Action}
use Rattle.turn_desk.specs.declared.view.Look.{Look}
use Rattle.turn_desk.specs.declared.view.Own.{Own}
use Rattle.turn_desk.specs.declared.view.Spot.{Spot}
use Rattle.turn_desk.specs.declared.view.Told.{Told}
use Rattle.turn_desk.specs.declared.view.View.{View}
use Rattle.love_base.specs.Prefix.{IsPrefix}
use Rattle.love_base.proofs.Prefixes.{further, longer, first_same}
use Rattle.turn_desk.specs.Notes.{IsPast, IsShown}
use Rattle.turn_desk.specs.View.{spot, with_spot, with_look, acted, meeting, own_count, number_count}
use Rattle.turn_desk.specs.Rule.{World, Later, Knows, Named, ObjectOk, Desked, AreCarried, IsFresh, IsEntry}
use Rattle.turn_desk.proofs.Lists.{set_there, sum_set, sum_at, sum_two, at_either, at_end, at_only}
use Rattle.turn_desk.proofs.Notes.{signed_spot, signed_acted, signed_look, meeting_signed}
use Rattle.turn_desk.proofs.Views.{at_spot, off_spot, front_at}

module _ {E : Type 0} (summed : List E → ℕ) (between : List E → Bool) where
  -- what a look found stays so
  shown_later : (log log' : List E) (l : Look) → IsPrefix log log' → IsShown summed between log l → IsShown summed between log' l
  shown_later log log' l more a = let within' = a.within in let same = first_same l.place log log' within' more in let longer' = longer log log' more in record {
    within = omega arith;
    summary = ap summed same ∙ a.summary;
    rests = ap between same ∙ a.rests;
  }

  -- what is known stays true in a later world
  pub stays_known : (W W' : World E) (v : View E) → Later W W' → Knows summed between W v → Knows summed between W' v
  stays_known W W' v later k = record {
    wide = k.wide ∙ sym later.objects;
    seats = k.seats ∙ sym later.seats;
    awaited = k.awaited ∙ sym later.awaited;
    kinds = k.kinds ∙ sym later.objects;
    fixed = λ o lt. k.fixed o (let c : W'.objects ≡ W.objects = later.objects in omega arith) ∙ sym (later.fixes o);
    handed = λ i l e o lt. k.handed i l e o (let c : W'.objects ≡ W.objects = later.objects in omega arith) ∙ sym (later.fixes o);
    prefix = λ o. further (spot v o).known (W.logs o) (W'.logs o) (k.prefix o) (later.logs o);
    front = λ o. let a = k.front o in let b = longer (W.logs o) (W'.logs o) (later.logs o) in (a.0, omega arith);
    told = λ o i t e. further t.known (W.logs o) (W'.logs o) (k.told o i t e) (later.logs o);
    own = λ o i w e. let a = k.own o i w e in let b = longer (W.logs o) (W'.logs o) (later.logs o) in let high = a.within in record {
      real = a.real;
      within = omega arith;
      carries = a.carries ∙ sym (later.carries o w.place high);
    };
    looks = λ i l e. shown_later (W.logs l.object) (W'.logs l.object) l (later.logs l.object) (k.looks i l e);
    actions = λ i a e. let f = k.actions i a e in record {
      here = f.here;
      there = λ b j low high. let reach = (k.signed.actions i a e).1 b in let end = (k.front b).1 in
          subst (λ (l : List ℕ). IsPast a (get_or l a.object 0)) (sym (later.carries b j (omega arith))) (f.there b j low high);
    };
    signed = k.signed;
  }

  -- what is known once more is known of the object o
  pub knows_spot : (W : World E) (v : View E) (o : ℕ) (x : Spot E) → o < W.objects → Knows summed between W v → IsPrefix x.known (W.logs o) → length x.known ≤ x.front → x.front ≤ length (W.logs o) → (spot v o).front ≤ x.front
      → ((i : ℕ) (t : Told E) → get_elem? x.told i ≡ some t → (0 < number_count t.seat v) × IsPrefix t.known (W.logs o))
      → ((i : ℕ) (w : Own) → get_elem? x.own i ≡ some w → (0 < number_count w.seat v) × IsEntry W o w) → Knows summed between W (with_spot v o x)
  knows_spot W v o x lt k prefix' low high grown told' own' =
      let w : View E = with_spot v o x in let wide : length v.spots ≡ W.objects = k.wide in let here : spot w o ≡ x = at_spot v o x (omega arith) in record {
        wide = length-set v.spots o x ∙ k.wide;
        seats = k.seats;
        awaited = k.awaited;
        kinds = k.kinds;
        fixed = k.fixed;
        handed = k.handed;
        prefix = λ p. dite (ℕ_discrete p o) (λ e. rw (e, here) prefix') (λ ne. rw (off_spot v o p x ne) (k.prefix p));
        front = λ p. dite (ℕ_discrete p o) (λ e. rw (e, here) (low, high)) (λ ne. rw (off_spot v o p x ne) (k.front p));
        told = λ p. dite (ℕ_discrete p o) (λ e. rw (e, here) (λ i t q. (told' i t q).1)) (λ ne. rw (off_spot v o p x ne) (k.told p));
        own = λ p. dite (ℕ_discrete p o) (λ e. rw (e, here) (λ i z q. (own' i z q).1)) (λ ne. rw (off_spot v o p x ne) (k.own p));
        looks = k.looks;
        actions = k.actions;
        signed = signed_spot v o x (omega arith) grown (λ i z q. (own' i z q).0) (λ i t q. (told' i t q).0) k.signed;
      }

  -- the places that are the pass's own, and what it was told
  pub own_stays : (W : World E) (v : View E) (o : ℕ) → Knows summed between W v → (i : ℕ) (w : Own) → get_elem? (spot v o).own i ≡ some w → (0 < number_count w.seat v) × IsEntry W o w
  own_stays W v o k i w e = (k.signed.own o i w e, k.own o i w e)

  pub told_stays : (W : World E) (v : View E) (o : ℕ) → Knows summed between W v → (i : ℕ) (t : Told E) → get_elem? (spot v o).told i ≡ some t → (0 < number_count t.seat v) × IsPrefix t.known (W.logs o)
  told_stays W v o k i t e = (k.signed.told o i t e, k.told o i t e)

  -- what is known once actions were noted
  pub knows_acted : (W : World E) (v : View E) (actions : List Action) → Knows summed between W v
      → ((i : ℕ) (a : Action) → get_elem? actions i ≡ some a → (0 < number_count a.seat v) × ((b : ℕ) → get_or a.fronts b 0 ≤ (spot v b).front)) → ((i : ℕ) (a : Action) → get_elem? actions i ≡ some a → IsFresh W a) → Knows summed between W (acted actions v)
  knows_acted W v actions k signed' fresh = record {
    wide = k.wide;
    seats = k.seats;
    awaited = k.awaited;
    kinds = k.kinds;
    fixed = k.fixed;
    handed = k.handed;
    prefix = k.prefix;
    front = k.front;
    told = k.told;
    own = k.own;
    looks = k.looks;
    actions = λ i a e. ⊎_elim (λ (q : get_elem? v.actions i ≡ some a). k.actions i a q) (λ (q : (j : ℕ) × (get_elem? actions j ≡ some a)). fresh q.0 a q.1) (at_either v.actions actions i a e);
    signed = signed_acted v actions signed' k.signed;
  }

  -- what is known once a meeting at the end of the history was noted
  pub knows_meeting : (W : World E) (v : View E) (o place : ℕ) → AreCarried W → Knows summed between W v → 0 < number_count v.number v → place ≡ length (W.logs o) → Knows summed between W (acted (meeting o place v ∷ []) v)
  knows_meeting W v o place carried k own here = knows_acted W v (meeting o place v ∷ []) k (meeting_signed v o place own)
      (λ i a e. subst (IsFresh W) (at_only (meeting o place v) a i e) (record {
        here = let f = front_at v o in let g = (k.front o).1 in omega arith;
        there = λ b j low high. let f = front_at v b in let g = (k.front b).1 in let c = (carried b j low (omega arith)).1 o in omega arith;
      }))

  -- what is known once a look was noted
  pub knows_look : (W : World E) (v : View E) (l : Look) → Knows summed between W v → 0 < number_count l.seat v → l.place ≤ (spot v l.object).front → IsShown summed between (W.logs l.object) l → Knows summed between W (with_look l v)
  knows_look W v l k own low is = record {
    wide = k.wide;
    seats = k.seats;
    awaited = k.awaited;
    kinds = k.kinds;
    fixed = k.fixed;
    handed = k.handed;
    prefix = k.prefix;
    front = k.front;
    told = k.told;
    own = k.own;
    looks = λ i m e. ⊎_elim (λ (q : get_elem? v.looks i ≡ some m). k.looks i m q) (λ (q : (i ≡ length v.looks) × (l ≡ m)). subst (λ (z : Look). IsShown summed between (W.logs z.object) z) q.1 is) (at_end v.looks l m i e);
    actions = k.actions;
    signed = signed_look v l own low k.signed;
  }

module _ {E : Type 0} where
  -- the step changes what the pass knows of the object o alone, and not who it is
  pub record ChangesAt (o : ℕ) (v w : View E) : Type 0 where
    pub number : w.number ≡ v.number
    pub numbers : w.numbers ≡ v.numbers
    pub next : w.next ≡ v.next
    pub spots : (p : ℕ) → p ≢ o → spot w p ≡ spot v p

  -- the pass knows of an object what it knew, but for the front
  pub record IsAlike (x y : Spot E) : Type 0 where
    pub phase : y.phase ≡ x.phase
    pub known : y.known ≡ x.known
    pub own : y.own ≡ x.own

  pub alike : (x y : Spot E) → y ≡ x → IsAlike x y
  alike x y e = record { phase = ap (λ (z : Spot E). z.phase) e; known = ap (λ (z : Spot E). z.known) e; own = ap (λ (z : Spot E). z.own) e }

  -- a sum to which the changed view gives as much
  pub same_sum : (f : View E → ℕ) (views : List (View E)) (id : ℕ) (v w : View E) → get_elem? views id ≡ some v → f w ≡ f v → sum_by f (set views id w) ≡ sum_by f views
  same_sum f views id v w at e = let h = sum_set f views id v w at in omega arith

  pub same_owned : (o p : ℕ) (x y : Spot E) → x.own ≡ y.own → count_by (λ (z : Own). z.place == p) x.own ≡ count_by (λ (z : Own). z.place == p) y.own
  same_owned o p x y e = ap (λ (l : List Own). count_by (λ (z : Own). z.place == p) l) e

module _ {O E : Type 0} (history : O → List E) (number : O → ℕ) (summed : List E → ℕ) (between : List E → Bool) where
  abbrev R : State (Option O) (View E) → Type 0
  R = Desked history number summed between

  abbrev Homes : Type 0
  Homes = List (maybe.Option (Option O))

  abbrev Ok : List ℕ → Homes → List (View E) → World E → ℕ → Type 0
  Ok = ObjectOk history number summed between

  -- no number stands in two views
  pub at_most_one : (s : State (Option O) (View E)) (r : R s) (n : ℕ) → sum_by (number_count n) s.views ≤ 1
  at_most_one s r n = dite (dec_le r.next n) (λ le. let z = r.else n (inr le) in omega arith)
      (λ nle. dite (ℕ_discrete n 0) (λ e. let z = r.else n (inl e) in omega arith) (λ ne. let z = r.once n (omega arith) (lt_of_not-le nle) in omega arith))

  -- a number that stands in a view was given
  pub given : (s : State (Option O) (View E)) (r : R s) (j n : ℕ) (u : View E) → get_elem? s.views j ≡ some u → 0 < number_count n u → (0 < n) × (n < r.next)
  given s r j n u at some_there = let a = sum_at (number_count n) s.views j u at in (
    dite (ℕ_discrete n 0) (λ e. let z = r.else n (inl e) in absurd (omega arith)) (λ ne. omega arith),
    dite (dec_le r.next n) (λ le. let z = r.else n (inr le) in absurd (omega arith)) (λ nle. lt_of_not-le nle),
  )

  -- who has the same number has the same seat
  pub same_seat : (s : State (Option O) (View E)) (r : R s) (n i j : ℕ) (u v : View E) → get_elem? s.views i ≡ some u → get_elem? s.views j ≡ some v → 0 < number_count n u → 0 < number_count n v → i ≡ j
  same_seat s r n i j u v at there a b = dite (ℕ_discrete i j) (λ e. e)
      (λ ne. let two = sum_two (number_count n) s.views i j u v ne at there in let one = at_most_one s r n in absurd (omega arith))

  -- two passes that go by one number are one
  pub one_seat : (s : State (Option O) (View E)) (r : R s) (i j : ℕ) (u v : View E) → get_elem? s.views i ≡ some u → get_elem? s.views j ≡ some v → 0 < u.number → u.number ≡ v.number → i ≡ j
  one_seat s r i j u v at there real same = same_seat s r u.number i j u v at there ((r.named i u at).own real)
      (subst (λ (n : ℕ). 0 < number_count n v) (sym same) ((r.named j v there).own (subst (λ (n : ℕ). 0 < n) same real)))

  -- what stands at an object is what stood there
  pub record Unmoved (words words' : List ℕ) (homes homes' : Homes) (W W' : World E) (p : ℕ) : Type 0 where
    pub turn : get_or words' (8 * p) 0 ≡ get_or words (8 * p) 0
    pub tally : get_or words' (8 * p + 1) 0 ≡ get_or words (8 * p + 1) 0
    pub slot : get_elem? homes' p ≡ get_elem? homes p
    pub log : W'.logs p ≡ W.logs p
    pub fix : W'.fixes p ≡ W.fixes p
    pub awaits : p < W'.awaited → p < W.awaited
    pub has : W'.awaited ≤ p → W.awaited ≤ p

  -- the two worlds have as many objects and enough numbers, and the entries of the second carry what they should
  pub record Agrees (next : ℕ) (W W' : World E) : Type 0 where
    pub objects : W'.objects ≡ W.objects
    pub within : 0 < W'.seats → next ≤ W'.seats + 1
    pub most : W'.seats ≤ 17
    pub carried : AreCarried W'

  -- an object at which nothing was done stands as it stood, where the pass knows of it what it knew, or its front alone rose
  pub elsewhere : (words words' : List ℕ) (homes homes' : Homes) (views : List (View E)) (W W' : World E) (p id : ℕ) (v w : View E) → get_elem? views id ≡ some v → w.number ≡ v.number → IsAlike (spot v p) (spot w p)
      → Unmoved words words' homes homes' W W' p → Ok words homes views W p → Ok words' homes' (set views id w) W' p
  elsewhere words words' homes homes' views W W' p id v w at number' place u k = record {
    tally = u.tally ∙ (k.tally ∙ ap (λ (l : List E). length l * 2 ^ 42 + summed l) (sym u.log));
    short = subst (λ (l : List E). length l < 2 ^ 22) (sym u.log) k.short;
    small = subst (λ (l : List E). summed l < 2 ^ 42) (sym u.log) k.small;
    rests = ap between u.log ∙ k.rests;
    fresh = λ lt. u.log ∙ k.fresh (u.awaits lt);
    vacant = λ z lt. u.slot ∙ k.vacant (sym u.turn ∙ z) (u.awaits lt);
    home = λ z le. let h = k.home (sym u.turn ∙ z) (u.has le) in (h.0, u.slot ∙ h.1, h.2 ∙ sym u.log, h.3 ∙ sym u.fix);
    away = λ nz. let a = k.away (λ z. nz (u.turn ∙ z)) in let j : ℕ = a.1 in let y : View E = a.2 in dite (ℕ_discrete j id)
        (λ q. let same : y ≡ v = some-injective y v (sym a.3 ∙ (ap (get_elem? views) q ∙ at)) in
        (u.slot ∙ a.0, id, w, set_there views id v w at, number' ∙ (ap (λ (z : View E). z.number) (sym same) ∙ (a.4 ∙ sym u.turn)), λ f. a.5 (ap (λ (z : View E). (spot z p).phase) same ∙ (sym place.phase ∙ f))))
        (λ q. (u.slot ∙ a.0, j, y, set_else views id j w q ∙ a.3, a.4 ∙ sym u.turn, a.5));
    busy = λ j y e b. ⊎_elim
        (λ (t : (j ≡ id) × (w ≡ y)). let d = k.busy id v at (λ f. b (ap (λ (z : View E). (spot z p).phase) (sym t.1) ∙ (place.phase ∙ f))) in
        let named : v.number ≡ y.number = sym number' ∙ ap (λ (z : View E). z.number) t.1 in (u.turn ∙ (d.0 ∙ named), subst (λ (z : ℕ). 0 < z) named d.1, ap (λ (z : View E). (spot z p).known) (sym t.1) ∙ (place.known ∙ (d.2 ∙ sym u.log))))
        (λ (t : (j ≢ id) × (get_elem? views j ≡ some y)). let d = k.busy j y t.1 b in (u.turn ∙ d.0, d.1, d.2 ∙ sym u.log))
        (at_set views id j w y e);
    once = λ q lt le. same_sum (own_count p q) views id v w at (same_owned p q (spot w p) (spot v p) place.own) ∙ k.once q lt (subst (λ (l : List E). q ≤ length l) u.log le);
    else = λ q out. same_sum (own_count p q) views id v w at (same_owned p q (spot w p) (spot v p) place.own) ∙ k.else q (subst (λ (l : List E). (q ≡ 0) ⊎ (length l < q)) u.log out);
  }

  -- the rule after a step at the object o of the pass in the seat id, from the view v to the view w
  pub restated : (s : State (Option O) (View E)) (r : R s) (W' : World E) (o id : ℕ) (v w : View E) (words' : List ℕ) (homes' : Homes) → get_elem? s.views id ≡ some v → 0 < v.number
      → ChangesAt o v w → Agrees r.next r.world W' → length words' ≡ length s.words → length homes' ≡ length s.homes
      → ((p : ℕ) → p ≢ o → p < r.world.objects → Unmoved s.words words' s.homes homes' r.world W' p)
      → Knows summed between W' w → ((j : ℕ) (u : View E) → j ≢ id → get_elem? s.views j ≡ some u → 0 < u.number → Knows summed between W' u)
      → (o < r.world.objects → Ok words' homes' (set s.views id w) W' o)
      → R record { words = words'; homes = homes'; views = set s.views id w }
  restated s r W' o id v w words' homes' at real c a long deep' unmoved mine others here = record {
    world = W';
    next = r.next;
    maker = r.maker;
    wide = long ∙ (r.wide ∙ ap (λ (n : ℕ). 8 * n) (sym a.objects));
    deep = deep' ∙ (r.deep ∙ sym a.objects);
    within = a.within;
    most = a.most;
    carried = a.carried;
    once = λ n lt gt. same_sum (number_count n) s.views id v w at (ap (λ (l : List ℕ). count_by (λ (k : ℕ). k == n) l) c.numbers) ∙ r.once n lt gt;
    else = λ n out. same_sum (number_count n) s.views id v w at (ap (λ (l : List ℕ). count_by (λ (k : ℕ). k == n) l) c.numbers) ∙ r.else n out;
    objects = λ p lt. let lt' : p < r.world.objects = subst (λ (n : ℕ). p < n) a.objects lt in dite (ℕ_discrete p o)
        (λ e. subst (λ (q : ℕ). Ok words' homes' (set s.views id w) W' q) (sym e) (here (subst (λ (q : ℕ). q < r.world.objects) e lt')))
        (λ ne. elsewhere s.words words' s.homes homes' s.views r.world W' p id v w at c.number (alike (spot v p) (spot w p) (c.spots p ne)) (unmoved p ne lt') (r.objects p lt'));
    named = λ j u e. ⊎_elim
        (λ (t : (j ≡ id) × (w ≡ u)). let d = r.named id v at in subst (λ (z : ℕ × View E). Named r.next r.maker z.0 z.1) (λ i. (sym t.0 i, t.1 i)) (record {
          own = λ b. subst (λ (z : ℕ × List ℕ). 0 < count_by (λ (k : ℕ). k == z.0) z.1) (λ i. (sym c.number i, sym c.numbers i)) (d.own real);
          makes = λ b. let m = d.makes (subst (λ (z : ℕ). 0 < z) c.next b) in (c.next ∙ m.0, m.1, c.number ∙ m.2);
          spent = λ z. let q : w.number ≡ v.number = c.number in absurd (omega arith);
        }))
        (λ (t : (j ≢ id) × (get_elem? s.views j ≡ some u)). r.named j u t.1)
        (at_set s.views id j w u e);
    knows = λ j u e b. ⊎_elim (λ (t : (j ≡ id) × (w ≡ u)). subst (Knows summed between W') t.1 mine) (λ (t : (j ≢ id) × (get_elem? s.views j ≡ some u)). others j u t.0 t.1 b) (at_set s.views id j w u e);
  }
