-- Making a pass and joining one into another keep the desk rule.
use Rattle.std.proofs.Common.{◌≡◌, ◌≢◌, ℕ, ◌+◌, ◌*◌, ◌<◌, ◌≤◌, ◌==◌, Bool, cond, zero, suc, List, [], ◌∷◌, ◌++◌, length, get_or, set, max, sym, refl, ap, ◌∙◌, subst, ⊎_elim, inl, inr, arith, Option, eq-eqb, ne_eqb, sum_by, count_by}
use Rattle.std.proofs.lemmas.List.{get_or_past, length-replicate}
use Rattle.std.proofs.lemmas.List.Sums.{sum_by_push, sum_by-append}
use Rattle.std.proofs.Math.Nat.{le-max_left, max-le}
use mathlib.Core.Logic.{dite}
use mathlib.Core.Option.{some, some-injective, some-ne-none}
use native.Mathlib.Decide.{dec_le, ℕ_discrete}
use lib.ListN.{get_elem?}
use Rattle.atomic_table.specs.Table.{State, Splits, Joins}
use Rattle.atomic_table.proofs.Lists.{at_set, set_else, at_longer}
use Rattle.turn_desk.specs.declared.view.Own.{Own}
use Rattle.turn_desk.specs.declared.view.Phase.TheVariants.{Free}
use Rattle.turn_desk.specs.declared.view.Spot.{Spot}
use Rattle.turn_desk.specs.declared.view.Told.{Told}
use Rattle.turn_desk.specs.declared.view.View.{View}
use Rattle.love_base.specs.Prefix.{IsPrefix}
use Rattle.turn_desk.specs.View.{blank, spot, own_count, number_count, makes_one, newcomer, joined, all_joined, both, spent}
use Rattle.turn_desk.specs.Rule.{World, Knows, Named, ObjectOk, Desked}
use Rattle.turn_desk.proofs.Lists.{set_there, at_either, at_end, sum_set}
use Rattle.turn_desk.proofs.Notes.{both_numbers, signed_both, signed_nothing}
use Rattle.turn_desk.proofs.Views.{blank_spot, joined_spot, length_joined}

-- a number stands once in the list of itself, and no other does
pub alone_here : (n k : ℕ) → n ≡ k → count_by (λ (i : ℕ). i == n) (k ∷ []) ≡ 1
alone_here n k e = ap (λ (b : Bool). 0 + cond {A = ℕ} b 1 0) (eq-eqb k n (sym e))

pub alone_else : (n k : ℕ) → n ≢ k → count_by (λ (i : ℕ). i == n) (k ∷ []) ≡ 0
alone_else n k ne = ap (λ (b : Bool). 0 + cond {A = ℕ} b 1 0) (ne_eqb k n (λ e. ne (sym e)))

-- what holds of the first of a list and of all behind it holds of all
handed_numbers : (x : List ℕ) (xs : List (List ℕ)) (P : List ℕ → Type 0) → P x → ((k : ℕ) (y : List ℕ) → get_elem? xs k ≡ some y → P y) → (k : ℕ) (y : List ℕ) → get_elem? (x ∷ xs) k ≡ some y → P y
handed_numbers x xs P first others zero y e = subst P (some-injective x y e) first
handed_numbers x xs P first others (suc k) y e = others k y e

module _ {E : Type 0} where
  -- a pass that was just made knows nothing of an object
  new_spot : (v : View E) (o : ℕ) → spot (newcomer v) o ≡ blank
  new_spot v o = blank_spot (length v.spots) o

  new_owns : (v : View E) (o q : ℕ) → own_count o q (newcomer v) ≡ 0
  new_owns v o q = ap (λ (x : Spot E). count_by (λ (w : Own). w.place == q) x.own) (new_spot v o)

  -- what two passes together know of an object of the desk
  both_spot : (W : World E) (v w : View E) (o : ℕ) → o < W.objects → length v.spots ≡ W.objects → length w.spots ≡ W.objects → spot (both v w) o ≡ joined w.number (spot v o) (spot w o)
  both_spot W v w o lt a b = joined_spot w.number v.spots w.spots o (omega arith) (omega arith)

  both_past : (W : World E) (v w : View E) (o : ℕ) → ¬ (o < W.objects) → length v.spots ≡ W.objects → spot (both v w) o ≡ blank
  both_past W v w o nlt a = let e = length_joined w.number v.spots w.spots in get_or_past (all_joined w.number v.spots w.spots) o blank (omega arith)

  -- what is handed over is what the pass knew, and what it had been told
  handed : (y : Spot E) (seat : ℕ) (log : List E) → IsPrefix y.known log → ((k : ℕ) (t : Told E) → get_elem? y.told k ≡ some t → IsPrefix t.known log)
      → (k : ℕ) (t : Told E) → get_elem? (record { seat = seat; known = y.known } ∷ y.told) k ≡ some t → IsPrefix t.known log
  handed y seat log known his zero t e = subst (λ (z : Told E). IsPrefix z.known log) (some-injective (record { seat = seat; known = y.known }) t e) known
  handed y seat log known his (suc k) t e = his k t e

  pub both_own_at : (v w : View E) (o q : ℕ) → o < length v.spots → o < length w.spots → own_count o q (both v w) ≡ own_count o q v + own_count o q w
  both_own_at v w o q a b = ap (λ (x : Spot E). count_by (λ (z : Own). z.place == q) x.own) (joined_spot w.number v.spots w.spots o a b) ∙ sum_by-append (λ (z : Own). cond (z.place == q) 1 0) (spot v o).own (spot w o).own

  -- a sum over the views once one of them was cut in two
  split_sum : (f : View E → ℕ) (views : List (View E)) (id : ℕ) (v left right : View E) → get_elem? views id ≡ some v → f left ≡ f v → sum_by f (set views id left ++ right ∷ []) ≡ sum_by f views + f right
  split_sum f views id v left right at e = let a = sum_set f views id v left at in let b = sum_by_push f (set views id left) right in omega arith

  -- a sum over the views once two of them were put together
  join_sum : (f : View E → ℕ) (views : List (View E)) (id other : ℕ) (v w b c : View E) → get_elem? views id ≡ some v → get_elem? (set views id b) other ≡ some w → f b ≡ f v + f w → f c ≡ 0 → sum_by f (set (set views id b) other c) ≡ sum_by f views
  join_sum f views id other v w b c at there e z = let x = sum_set f views id v b at in let y = sum_set f (set views id b) other w c there in omega arith

module _ {E : Type 0} (summed : List E → ℕ) (between : List E → Bool) where
  knows_nothing : (W : World E) (v : View E) → Knows summed between W v → Knows summed between W (newcomer v)
  knows_nothing W v k = record {
    wide = length-replicate (length v.spots) blank ∙ k.wide;
    seats = k.seats;
    awaited = k.awaited;
    kinds = k.kinds;
    fixed = k.fixed;
    handed = λ i l e. absurd (some-ne-none l (sym e));
    prefix = λ o. subst (λ (x : Spot E). IsPrefix x.known (W.logs o)) (sym (new_spot v o)) (W.logs o, refl);
    front = λ o. subst (λ (x : Spot E). (length x.known ≤ x.front) × (x.front ≤ length (W.logs o))) (sym (new_spot v o)) (omega arith, omega arith);
    told = λ o k t e. absurd (some-ne-none t (sym (subst (λ (x : Spot E). get_elem? x.told k ≡ some t) (new_spot v o) e)));
    own = λ o k w e. absurd (some-ne-none w (sym (subst (λ (x : Spot E). get_elem? x.own k ≡ some w) (new_spot v o) e)));
    looks = λ k l e. absurd (some-ne-none l (sym e));
    actions = λ k a e. absurd (some-ne-none a (sym e));
    signed = signed_nothing (newcomer v) (new_spot v) refl refl refl;
  }

  knows_both : (W : World E) (v w : View E) → 0 < number_count w.number w → Knows summed between W v → Knows summed between W w → Knows summed between W (both v w)
  knows_both W v w has a b =
      let here = λ (o : ℕ) (lt : o < W.objects). both_spot W v w o lt a.wide b.wide in let past = λ (o : ℕ) (nlt : ¬ (o < W.objects)). both_past W v w o nlt a.wide in record {
        wide = length_joined w.number v.spots w.spots ∙ a.wide;
        seats = a.seats;
        awaited = a.awaited;
        kinds = a.kinds;
        fixed = a.fixed;
        handed = λ i l e. ⊎_elim (λ (q : get_elem? v.handed i ≡ some l). a.handed i l q) (λ (q : (j : ℕ) × (get_elem? (w.fixed ∷ w.handed) j ≡ some l)). handed_numbers w.fixed w.handed (λ z. (o : ℕ) → o < W.objects → get_or z o 0 ≡ W.fixes o) b.fixed b.handed q.0 l q.1) (at_either v.handed (w.fixed ∷ w.handed) i l e);
        prefix = λ o. dite (dec_le (o + 1) W.objects) (λ lt. subst (λ (x : Spot E). IsPrefix x.known (W.logs o)) (sym (here o (omega arith))) (a.prefix o))
            (λ nlt. subst (λ (x : Spot E). IsPrefix x.known (W.logs o)) (sym (past o (λ l. nlt (omega arith)))) (W.logs o, refl));
        front = λ o. let x = a.front o in let y = b.front o in dite (dec_le (o + 1) W.objects)
            (λ lt. let m = le-max_left (spot v o).front (spot w o).front in let n : max (spot v o).front (spot w o).front ≤ length (W.logs o) = max-le x.1 y.1 in
            subst (λ (z : Spot E). (length z.known ≤ z.front) × (z.front ≤ length (W.logs o))) (sym (here o (omega arith))) (omega arith, n))
            (λ nlt. subst (λ (z : Spot E). (length z.known ≤ z.front) × (z.front ≤ length (W.logs o))) (sym (past o (λ l. nlt (omega arith)))) (omega arith, omega arith));
        told = λ o k t e. dite (dec_le (o + 1) W.objects)
            (λ lt. let e' = subst (λ (z : Spot E). get_elem? z.told k ≡ some t) (here o (omega arith)) e in
            ⊎_elim (λ (q : get_elem? (spot v o).told k ≡ some t). a.told o k t q)
            (λ (q : (i : ℕ) × (get_elem? (record { seat = w.number; known = (spot w o).known } ∷ (spot w o).told) i ≡ some t)). handed (spot w o) w.number (W.logs o) (b.prefix o) (b.told o) q.0 t q.1)
            (at_either (spot v o).told (record { seat = w.number; known = (spot w o).known } ∷ (spot w o).told) k t e'))
            (λ nlt. absurd (some-ne-none t (sym (subst (λ (z : Spot E). get_elem? z.told k ≡ some t) (past o (λ l. nlt (omega arith))) e))));
        own = λ o k z e. dite (dec_le (o + 1) W.objects)
            (λ lt. let e' = subst (λ (x : Spot E). get_elem? x.own k ≡ some z) (here o (omega arith)) e in
            ⊎_elim (λ (q : get_elem? (spot v o).own k ≡ some z). a.own o k z q) (λ (q : (i : ℕ) × (get_elem? (spot w o).own i ≡ some z)). b.own o q.0 z q.1) (at_either (spot v o).own (spot w o).own k z e'))
            (λ nlt. absurd (some-ne-none z (sym (subst (λ (x : Spot E). get_elem? x.own k ≡ some z) (past o (λ l. nlt (omega arith))) e))));
        looks = λ k l e. ⊎_elim (λ (q : get_elem? v.looks k ≡ some l). a.looks k l q) (λ (q : (i : ℕ) × (get_elem? w.looks i ≡ some l)). b.looks q.0 l q.1) (at_either v.looks w.looks k l e);
        actions = λ k x e. ⊎_elim (λ (q : get_elem? v.actions k ≡ some x). a.actions k x q) (λ (q : (i : ℕ) × (get_elem? w.actions i ≡ some x)). b.actions q.0 x q.1) (at_either v.actions w.actions k x e);
        signed = signed_both v w (a.wide ∙ sym b.wide) (a.seats ∙ sym b.seats) has a.signed b.signed;
      }

module _ {O E : Type 0} (history : O → List E) (number : O → ℕ) (summed : List E → ℕ) (between : List E → Bool) where
  abbrev Rule : State (Option O) (View E) → Type 0
  Rule = Desked history number summed between

  -- an object once a pass was made
  object_split : (s : State (Option O) (View E)) (r : Rule s) (o id : ℕ) (v : View E) → o < r.world.objects → get_elem? s.views id ≡ some v
      → ObjectOk history number summed between s.words s.homes (set s.views id (makes_one v) ++ newcomer v ∷ []) r.world o
  object_split s r o id v lt at = let ob = r.objects o lt in let left : View E = makes_one v in let views : List (View E) = set s.views id left in record {
    tally = ob.tally;
    short = ob.short;
    small = ob.small;
    rests = ob.rests;
    fresh = ob.fresh;
    vacant = ob.vacant;
    home = ob.home;
    away = λ ne. let a = ob.away ne in let j : ℕ = a.1 in let u : View E = a.2 in dite (ℕ_discrete j id)
        (λ q. let same : u ≡ v = some-injective u v (sym a.3 ∙ (ap (get_elem? s.views) q ∙ at)) in
        (a.0, id, left, at_longer views (newcomer v ∷ []) id left (set_there s.views id v left at), ap (λ (z : View E). z.number) (sym same) ∙ a.4, subst (λ (z : View E). (spot z o).phase ≢ Free) same a.5))
        (λ q. (a.0, j, u, at_longer views (newcomer v ∷ []) j u (set_else s.views id j left q ∙ a.3), a.4, a.5));
    busy = λ j u e p. ⊎_elim
        (λ (b : get_elem? views j ≡ some u). ⊎_elim
        (λ (t : (j ≡ id) × (left ≡ u)). subst (λ (z : View E). (get_or s.words (8 * o) 0 ≡ z.number) × (0 < z.number) × ((spot z o).known ≡ r.world.logs o)) t.1 (ob.busy id v at (subst (λ (z : View E). (spot z o).phase ≢ Free) (sym t.1) p)))
        (λ (t : (j ≢ id) × (get_elem? s.views j ≡ some u)). ob.busy j u t.1 p)
        (at_set s.views id j left u b))
        (λ (b : (j ≡ length views) × (newcomer v ≡ u)). absurd (p (ap (λ (z : View E). (spot z o).phase) (sym b.1) ∙ ap (λ (x : Spot E). x.phase) (new_spot v o))))
        (at_end views (newcomer v) u j e);
    once = λ q low high. let a = split_sum (own_count o q) s.views id v left (newcomer v) at refl in let b = new_owns v o q in let c = ob.once q low high in omega arith;
    else = λ q out. let a = split_sum (own_count o q) s.views id v left (newcomer v) at refl in let b = new_owns v o q in let c = ob.else q out in omega arith;
  }

  pub can_split : (id : ℕ) (v : View E) → 0 < v.next → 0 < v.number → v.next ≤ v.seats → Splits Rule id v (makes_one v) (newcomer v)
  can_split id v some_next real room s r at =
      let mine = r.named id v at in let makes = mine.makes some_next in let next : v.next ≡ r.next = makes.0 in let knows = r.knows id v at real in let seats : v.seats ≡ r.world.seats = knows.seats in
      let left : View E = makes_one v in let right : View E = newcomer v in let views : List (View E) = set s.views id left in let sum = λ (n : ℕ). split_sum (number_count n) s.views id v left right at refl in record {
        world = r.world;
        next = r.next + 1;
        maker = r.maker;
        wide = r.wide;
        deep = r.deep;
        within = λ _. omega arith;
        most = r.most;
        carried = r.carried;
        once = λ n low high. let a = sum n in dite (ℕ_discrete n v.next)
            (λ e. let old = r.else n (inr (omega arith)) in let new = alone_here n v.next e in omega arith)
            (λ ne. let old = r.once n low (omega arith) in let new = alone_else n v.next ne in omega arith);
        else = λ n out. let a = sum n in let ne : n ≢ v.next = (λ e. ⊎_elim (λ (z : n ≡ 0). let f : ⊥ = omega arith in f) (λ (g : r.next + 1 ≤ n). let f : ⊥ = omega arith in f) out) in
            let old = r.else n (⊎_elim (λ (z : n ≡ 0). inl z) (λ (g : r.next + 1 ≤ n). inr (omega arith)) out) in let new = alone_else n v.next ne in omega arith;
        objects = λ o lt. object_split s r o id v lt at;
        named = λ j u e. ⊎_elim
            (λ (b : get_elem? views j ≡ some u). ⊎_elim
            (λ (t : (j ≡ id) × (left ≡ u)). subst (λ (z : ℕ × View E). Named (r.next + 1) r.maker z.0 z.1) (λ i. (sym t.0 i, t.1 i)) (record { own = mine.own; makes = λ _. (omega arith, makes.1, makes.2); spent = mine.spent }))
            (λ (t : (j ≢ id) × (get_elem? s.views j ≡ some u)). let d = r.named j u t.1 in record { own = d.own; makes = λ p. absurd (t.0 ((d.makes p).1 ∙ sym makes.1)); spent = d.spent })
            (at_set s.views id j left u b))
            (λ (b : (j ≡ length views) × (right ≡ u)). subst (Named (r.next + 1) r.maker j) b.1 (record { own = λ _. let new = alone_here v.next v.next refl in omega arith; makes = λ p. absurd (omega arith); spent = λ z. absurd (omega arith) }))
            (at_end views right u j e);
        knows = λ j u e p. ⊎_elim
            (λ (b : get_elem? views j ≡ some u). ⊎_elim
            (λ (t : (j ≡ id) × (left ≡ u)). subst (Knows summed between r.world) t.1 (record { wide = knows.wide; seats = knows.seats; awaited = knows.awaited; kinds = knows.kinds; fixed = knows.fixed; handed = knows.handed; prefix = knows.prefix; front = knows.front; told = knows.told; own = knows.own; looks = knows.looks; actions = knows.actions; signed = record { own = knows.signed.own; told = knows.signed.told; refused = knows.signed.refused; looks = knows.signed.looks; actions = knows.signed.actions } }))
            (λ (t : (j ≢ id) × (get_elem? s.views j ≡ some u)). r.knows j u t.1 p)
            (at_set s.views id j left u b))
            (λ (b : (j ≡ length views) × (right ≡ u)). subst (Knows summed between r.world) b.1 (knows_nothing summed between r.world v knows))
            (at_end views right u j e);
      }

  -- an object once a pass that doesn't have it was joined into another
  object_joined : (s : State (Option O) (View E)) (r : Rule s) (o id other : ℕ) (v w : View E) → o < r.world.objects → get_elem? s.views id ≡ some v → other ≢ id → get_elem? s.views other ≡ some w → 0 < v.number → 0 < w.number → (spot w o).phase ≡ Free
      → ObjectOk history number summed between s.words s.homes (set (set s.views id (both v w)) other spent) r.world o
  object_joined s r o id other v w lt at ne was real his_real idle =
      let ob = r.objects o lt in let b : View E = both v w in let views : List (View E) = set s.views id b in let a = r.knows id v at real in let c = r.knows other w was his_real in
      let here = both_spot r.world v w o lt a.wide c.wide in let there : get_elem? views other ≡ some w = set_else s.views id other b ne ∙ was in record {
        tally = ob.tally;
        short = ob.short;
        small = ob.small;
        rests = ob.rests;
        fresh = ob.fresh;
        vacant = ob.vacant;
        home = ob.home;
        away = λ nz. let h = ob.away nz in let j : ℕ = h.1 in let u : View E = h.2 in
            let not_him : j ≢ other = λ q. h.5 (ap (λ (z : View E). (spot z o).phase) (some-injective u w (sym h.3 ∙ (ap (get_elem? s.views) q ∙ was))) ∙ idle) in dite (ℕ_discrete j id)
            (λ q. let same : u ≡ v = some-injective u v (sym h.3 ∙ (ap (get_elem? s.views) q ∙ at)) in (
              h.0,
              id,
              b,
              set_else views other id spent (λ z. ne (sym z)) ∙ set_there s.views id v b at,
              ap (λ (z : View E). z.number) (sym same) ∙ h.4,
              subst (λ (x : Spot E). x.phase ≢ Free) (sym here) (subst (λ (z : View E). (spot z o).phase ≢ Free) same h.5),
            ))
            (λ q. (h.0, j, u, set_else views other j spent not_him ∙ (set_else s.views id j b q ∙ h.3), h.4, h.5));
        busy = λ j u e p. ⊎_elim
            (λ (t : (j ≡ other) × (spent ≡ u)). absurd (p (ap (λ (z : View E). (spot z o).phase) (sym t.1))))
            (λ (t : (j ≢ other) × (get_elem? views j ≡ some u)). ⊎_elim
            (λ (q : (j ≡ id) × (b ≡ u)). let d = ob.busy id v at (subst (λ (x : Spot E). x.phase ≢ Free) here (subst (λ (z : View E). (spot z o).phase ≢ Free) (sym q.1) p)) in
            subst (λ (z : View E). (get_or s.words (8 * o) 0 ≡ z.number) × (0 < z.number) × ((spot z o).known ≡ r.world.logs o)) q.1 (d.0, d.1, ap (λ (x : Spot E). x.known) here ∙ d.2))
            (λ (q : (j ≢ id) × (get_elem? s.views j ≡ some u)). ob.busy j u q.1 p)
            (at_set s.views id j b u t.1))
            (at_set views other j spent u e);
        once = λ q low high. join_sum (own_count o q) s.views id other v w b spent at there (both_own_at v w o q (let x : length v.spots ≡ r.world.objects = a.wide in omega arith) (let x : length w.spots ≡ r.world.objects = c.wide in omega arith)) refl ∙ ob.once q low high;
        else = λ q out. join_sum (own_count o q) s.views id other v w b spent at there (both_own_at v w o q (let x : length v.spots ≡ r.world.objects = a.wide in omega arith) (let x : length w.spots ≡ r.world.objects = c.wide in omega arith)) refl ∙ ob.else q out;
      }

  pub can_join : (id other : ℕ) (v w : View E) → 0 < v.number → 0 < w.number → ((o : ℕ) → (spot w o).phase ≡ Free) → Joins Rule id v other w (both v w) spent
  can_join id other v w real his_real idle s r at ne there =
      let b : View E = both v w in let views : List (View E) = set s.views id b in let was : get_elem? s.views other ≡ some w = sym (set_else s.views id other b ne) ∙ there in
      let mine = r.named id v at in let knows = r.knows id v at real in let his = r.knows other w was his_real in record {
        world = r.world;
        next = r.next;
        maker = r.maker;
        wide = r.wide;
        deep = r.deep;
        within = r.within;
        most = r.most;
        carried = r.carried;
        once = λ n low high. join_sum (number_count n) s.views id other v w b spent at there (both_numbers v w n) refl ∙ r.once n low high;
        else = λ n out. join_sum (number_count n) s.views id other v w b spent at there (both_numbers v w n) refl ∙ r.else n out;
        objects = λ o lt. object_joined s r o id other v w lt at ne was real his_real (idle o);
        named = λ j u e. ⊎_elim
            (λ (t : (j ≡ other) × (spent ≡ u)). subst (Named r.next r.maker j) t.1 (record { own = λ p. absurd (omega arith); makes = λ p. absurd (omega arith); spent = λ _. refl }))
            (λ (t : (j ≢ other) × (get_elem? views j ≡ some u)). ⊎_elim
            (λ (q : (j ≡ id) × (b ≡ u)). subst (λ (z : ℕ × View E). Named r.next r.maker z.0 z.1) (λ i. (sym q.0 i, q.1 i)) (record {
              own = λ p. let d = mine.own real in let c = both_numbers v w v.number in omega arith;
              makes = mine.makes;
              spent = λ z. absurd (omega arith);
            }))
            (λ (q : (j ≢ id) × (get_elem? s.views j ≡ some u)). r.named j u q.1)
            (at_set s.views id j b u t.1))
            (at_set views other j spent u e);
        knows = λ j u e p. ⊎_elim
            (λ (t : (j ≡ other) × (spent ≡ u)). let z : u.number ≡ 0 = ap (λ (y : View E). y.number) (sym t.1) in absurd (omega arith))
            (λ (t : (j ≢ other) × (get_elem? views j ≡ some u)). ⊎_elim
            (λ (q : (j ≡ id) × (b ≡ u)). subst (Knows summed between r.world) q.1 (knows_both summed between r.world v w ((r.named other w was).own his_real) knows his))
            (λ (q : (j ≢ id) × (get_elem? s.views j ≡ some u)). r.knows j u q.1 p)
            (at_set s.views id j b u t.1))
            (at_set views other j spent u e);
      }
