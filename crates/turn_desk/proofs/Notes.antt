-- Notes of a pass stay signed and within its fronts at each change of what it knows.
use Rattle.std.proofs.Common.{◌≡◌, ◌≢◌, ℕ, ◌+◌, ◌<◌, ◌≤◌, ◌==◌, cond, true, zero, suc, List, [], ◌∷◌, length, get_or, set, sym, refl, ap, subst, ⊎_elim, arith}
use Rattle.std.proofs.lemmas.List.{get_or_past}
use Rattle.std.proofs.lemmas.List.Sums.{sum_by-append}
use Rattle.std.proofs.Math.Nat.{le-max_left, le-max_right}
use mathlib.Core.Logic.{dite}
use mathlib.Core.Option.{some, some-injective, some-ne-none}
use native.Mathlib.Decide.{dec_le, ℕ_discrete}
use lib.ListN.{get_elem?}
use Rattle.turn_desk.specs.declared.view.Action.{Action}
use Rattle.turn_desk.specs.declared.view.Look.{Look}
use Rattle.turn_desk.specs.declared.view.Own.{Own}
use Rattle.turn_desk.specs.declared.view.Refusal.{Refusal}
use Rattle.turn_desk.specs.declared.view.Spot.{Spot}
use Rattle.turn_desk.specs.declared.view.Told.{Told}
use Rattle.turn_desk.specs.declared.view.View.{View}
use Rattle.turn_desk.specs.Notes.{IsSigned}
use Rattle.turn_desk.specs.View.{blank, spot, with_spot, number_count, fronts_of, acted, meeting, places, changes, refused, with_look, joined, both}
use Rattle.turn_desk.proofs.Lists.{at_either, at_end, at_only}
use Rattle.turn_desk.proofs.Views.{at_spot, off_spot, front_at, joined_spot, length_joined}

-- the places that one pass filled at once
pub place_in : (seat o : ℕ) (fronts : List ℕ) (after n k : ℕ) (w : Own) → get_elem? (places seat o fronts after n) k ≡ some w → (w.seat ≡ seat) × (after < w.place) × (w.place ≤ after + n) × (w.carries ≡ set fronts o w.place)
place_in seat o fronts after zero k w e = absurd (some-ne-none w (sym e))
place_in seat o fronts after (suc n) zero w e =
    subst (λ (x : Own). (x.seat ≡ seat) × (after < x.place) × (x.place ≤ after + suc n) × (x.carries ≡ set fronts o x.place)) (some-injective (record { seat = seat; place = after + 1; carries = set fronts o (after + 1) }) w e) (refl, omega arith, omega arith, refl)
place_in seat o fronts after (suc n) (suc k) w e = let h = place_in seat o fronts (after + 1) n k w e in let low = h.1 in let high = h.2 in (h.0, omega arith, omega arith, h.3)

-- and the actions that filled them
pub change_in : (seat o : ℕ) (fronts : List ℕ) (after n k : ℕ) (a : Action) → get_elem? (changes seat o fronts after n) k ≡ some a → (p : ℕ) × (after < p) × (p ≤ after + n) × (record { seat = seat; object = o; place = p; changed = true; fronts = fronts } ≡ a)
change_in seat o fronts after zero k a e = absurd (some-ne-none a (sym e))
change_in seat o fronts after (suc n) zero a e = (after + 1, omega arith, omega arith, some-injective (record { seat = seat; object = o; place = after + 1; changed = true; fronts = fronts }) a e)
change_in seat o fronts after (suc n) (suc k) a e = let h = change_in seat o fronts (after + 1) n k a e in let low = h.1 in let high = h.2 in (h.0, omega arith, omega arith, h.3)

module _ {E : Type 0} where
  -- the fronts of a pass, as it notes them
  pub own_fronts : (v : View E) (b : ℕ) → get_or (fronts_of v) b 0 ≤ (spot v b).front
  own_fronts v b = let f = front_at v b in omega arith

  pub signed_spot : (v : View E) (o : ℕ) (x : Spot E) → o < length v.spots → (spot v o).front ≤ x.front → ((k : ℕ) (w : Own) → get_elem? x.own k ≡ some w → 0 < number_count w.seat v)
      → ((k : ℕ) (t : Told E) → get_elem? x.told k ≡ some t → 0 < number_count t.seat v) → IsSigned v → IsSigned (with_spot v o x)
  signed_spot v o x lt grown own' told' s =
      let w : View E = with_spot v o x in let here : spot w o ≡ x = at_spot v o x lt in
      let further : (b : ℕ) → (spot v b).front ≤ (spot w b).front = λ b. dite (ℕ_discrete b o)
      (λ e. subst (λ (q : ℕ). (spot v q).front ≤ (spot w q).front) (sym e) (subst (λ (z : Spot E). (spot v o).front ≤ z.front) (sym here) grown))
      (λ ne. subst (λ (z : Spot E). (spot v b).front ≤ z.front) (sym (off_spot v o b x ne)) (let r : (spot v b).front ≤ (spot v b).front = omega arith in r)) in record {
        own = λ p. dite (ℕ_discrete p o) (λ e. rw (e, here) own') (λ ne. rw (off_spot v o p x ne) (s.own p));
        told = λ p. dite (ℕ_discrete p o) (λ e. rw (e, here) told') (λ ne. rw (off_spot v o p x ne) (s.told p));
        refused = s.refused;
        looks = λ k l e. let a = s.looks k l e in let low = a.1 in let more = further l.object in (a.0, omega arith);
        actions = λ k a e. let b = s.actions k a e in (b.0, λ p. let low = b.1 p in let more = further p in omega arith);
      }

  pub signed_acted : (v : View E) (actions : List Action) → ((k : ℕ) (a : Action) → get_elem? actions k ≡ some a → (0 < number_count a.seat v) × ((b : ℕ) → get_or a.fronts b 0 ≤ (spot v b).front)) → IsSigned v → IsSigned (acted actions v)
  signed_acted v actions new s = record {
    own = s.own;
    told = s.told;
    refused = s.refused;
    looks = s.looks;
    actions = λ k a e. ⊎_elim (λ (q : get_elem? v.actions k ≡ some a). s.actions k a q) (λ (q : (i : ℕ) × (get_elem? actions i ≡ some a)). new q.0 a q.1) (at_either v.actions actions k a e);
  }

  -- a meeting as it is noted
  pub meeting_signed : (v : View E) (o place : ℕ) → 0 < number_count v.number v → (k : ℕ) (a : Action) → get_elem? (meeting o place v ∷ []) k ≡ some a → (0 < number_count a.seat v) × ((b : ℕ) → get_or a.fronts b 0 ≤ (spot v b).front)
  meeting_signed v o place own k a e = subst (λ (x : Action). (0 < number_count x.seat v) × ((b : ℕ) → get_or x.fronts b 0 ≤ (spot v b).front)) (at_only (meeting o place v) a k e) (own, own_fronts v)

  pub changes_signed : (v : View E) (o after n : ℕ) → 0 < number_count v.number v → (k : ℕ) (a : Action) → get_elem? (changes v.number o (fronts_of v) after n) k ≡ some a → (0 < number_count a.seat v) × ((b : ℕ) → get_or a.fronts b 0 ≤ (spot v b).front)
  changes_signed v o after n own k a e = subst (λ (x : Action). (0 < number_count x.seat v) × ((b : ℕ) → get_or x.fronts b 0 ≤ (spot v b).front)) (change_in v.number o (fronts_of v) after n k a e).3 (own, own_fronts v)

  pub signed_look : (v : View E) (l : Look) → 0 < number_count l.seat v → l.place ≤ (spot v l.object).front → IsSigned v → IsSigned (with_look l v)
  signed_look v l own low s = record {
    own = s.own;
    told = s.told;
    refused = s.refused;
    looks = λ k m e. ⊎_elim (λ (q : get_elem? v.looks k ≡ some m). s.looks k m q) (λ (q : (k ≡ length v.looks) × (l ≡ m)). subst (λ (x : Look). (0 < number_count x.seat v) × (x.place ≤ (spot v x.object).front)) q.1 (own, low)) (at_end v.looks l m k e);
    actions = s.actions;
  }

  pub signed_refused : (v : View E) (o found : ℕ) → 0 < number_count v.number v → 0 < found → found ≤ v.seats → found ≢ v.number → IsSigned v → IsSigned (refused o found v)
  signed_refused v o found own real within apart s = record {
    own = s.own;
    told = s.told;
    refused = λ k r e. ⊎_elim (λ (q : get_elem? v.refused k ≡ some r). s.refused k r q)
        (λ (q : (k ≡ length v.refused) × (record { seat = v.number; object = o; found = found } ≡ r)). subst (λ (z : Refusal). (0 < number_count z.seat v) × (0 < z.found) × (z.found ≤ v.seats) × (z.found ≢ z.seat)) q.1 (own, real, within, apart))
        (at_end v.refused (record { seat = v.number; object = o; found = found }) r k e);
    looks = s.looks;
    actions = s.actions;
  }

  -- a pass that has noted nothing and filled no place
  pub signed_nothing : (v : View E) → ((o : ℕ) → spot v o ≡ blank) → v.refused ≡ [] → v.looks ≡ [] → v.actions ≡ [] → IsSigned v
  signed_nothing v blanks refused' looks' actions' = record {
    own = λ o k w e. absurd (some-ne-none w (sym (subst (λ (x : Spot E). get_elem? x.own k ≡ some w) (blanks o) e)));
    told = λ o k t e. absurd (some-ne-none t (sym (subst (λ (x : Spot E). get_elem? x.told k ≡ some t) (blanks o) e)));
    refused = λ k r e. absurd (some-ne-none r (sym (subst (λ (l : List Refusal). get_elem? l k ≡ some r) refused' e)));
    looks = λ k l e. absurd (some-ne-none l (sym (subst (λ (z : List Look). get_elem? z k ≡ some l) looks' e)));
    actions = λ k a e. absurd (some-ne-none a (sym (subst (λ (z : List Action). get_elem? z k ≡ some a) actions' e)));
  }

  -- two passes together
  pub both_numbers : (v w : View E) (n : ℕ) → number_count n (both v w) ≡ number_count n v + number_count n w
  both_numbers v w n = sum_by-append (λ (k : ℕ). cond (k == n) 1 0) v.numbers w.numbers

  module _ (v w : View E) (as_wide : length v.spots ≡ length w.spots) where
    -- what two passes together know of an object
    pub spot_of_both : (o : ℕ) → o < length v.spots → spot (both v w) o ≡ joined w.number (spot v o) (spot w o)
    spot_of_both o lt = joined_spot w.number v.spots w.spots o lt (omega arith)

    pub nothing_of_both : (o : ℕ) → ¬ (o < length v.spots) → spot (both v w) o ≡ blank
    nothing_of_both o nlt = let e = length_joined w.number v.spots w.spots in get_or_past (both v w).spots o blank (omega arith)

    -- what holds of what either knows of an object holds of what both know
    at_both : (P : Spot E → Type 0) (o : ℕ) → P (joined w.number (spot v o) (spot w o)) → P blank → P (spot (both v w) o)
    at_both P o inside outside = dite (dec_le (o + 1) (length v.spots)) (λ lt. subst P (sym (spot_of_both o (omega arith))) inside) (λ nlt. subst P (sym (nothing_of_both o (λ l. nlt (omega arith)))) outside)

    left_front : (o : ℕ) → (spot v o).front ≤ (spot (both v w) o).front
    left_front o = dite (dec_le (o + 1) (length v.spots))
        (λ lt. subst (λ (x : Spot E). (spot v o).front ≤ x.front) (sym (spot_of_both o (omega arith))) (le-max_left (spot v o).front (spot w o).front))
        (λ nlt. let z : (spot v o).front ≡ 0 = ap (λ (x : Spot E). x.front) (get_or_past v.spots o blank (omega arith)) in omega arith)

    right_front : (o : ℕ) → (spot w o).front ≤ (spot (both v w) o).front
    right_front o = dite (dec_le (o + 1) (length v.spots))
        (λ lt. subst (λ (x : Spot E). (spot w o).front ≤ x.front) (sym (spot_of_both o (omega arith))) (le-max_right (spot v o).front (spot w o).front))
        (λ nlt. let z : (spot w o).front ≡ 0 = ap (λ (x : Spot E). x.front) (get_or_past w.spots o blank (omega arith)) in omega arith)

    told_first : 0 < number_count w.number w → IsSigned w → (o k : ℕ) (z : Told E) → get_elem? (record { seat = w.number; known = (spot w o).known } ∷ (spot w o).told) k ≡ some z → 0 < number_count z.seat (both v w)
    told_first own b o zero z e = subst (λ (x : Told E). 0 < number_count x.seat (both v w)) (some-injective (record { seat = w.number; known = (spot w o).known }) z e) (let d = both_numbers v w w.number in omega arith)
    told_first own b o (suc k) z e = let c = b.told o k z e in let d = both_numbers v w z.seat in omega arith

    pub signed_both : v.seats ≡ w.seats → 0 < number_count w.number w → IsSigned v → IsSigned w → IsSigned (both v w)
    signed_both seats own a b =
        let left : (n : ℕ) → 0 < number_count n v → 0 < number_count n (both v w) = λ n c. (let d = both_numbers v w n in omega arith) in
        let right : (n : ℕ) → 0 < number_count n w → 0 < number_count n (both v w) = λ n c. (let d = both_numbers v w n in omega arith) in record {
          own = λ o. at_both (λ x. (k : ℕ) (z : Own) → get_elem? x.own k ≡ some z → 0 < number_count z.seat (both v w)) o
              (λ k z e. ⊎_elim (λ (q : get_elem? (spot v o).own k ≡ some z). left z.seat (a.own o k z q)) (λ (q : (i : ℕ) × (get_elem? (spot w o).own i ≡ some z)). right z.seat (b.own o q.0 z q.1)) (at_either (spot v o).own (spot w o).own k z e))
              (λ k z e. absurd (some-ne-none z (sym e)));
          told = λ o. at_both (λ x. (k : ℕ) (z : Told E) → get_elem? x.told k ≡ some z → 0 < number_count z.seat (both v w)) o
              (λ k z e. ⊎_elim (λ (q : get_elem? (spot v o).told k ≡ some z). left z.seat (a.told o k z q))
              (λ (q : (i : ℕ) × (get_elem? (record { seat = w.number; known = (spot w o).known } ∷ (spot w o).told) i ≡ some z)). told_first own b o q.0 z q.1)
              (at_either (spot v o).told (record { seat = w.number; known = (spot w o).known } ∷ (spot w o).told) k z e))
              (λ k z e. absurd (some-ne-none z (sym e)));
          refused = λ k r e. ⊎_elim (λ (q : get_elem? v.refused k ≡ some r). let c = a.refused k r q in (left r.seat c.0, c.1, c.2, c.3))
              (λ (q : (i : ℕ) × (get_elem? w.refused i ≡ some r)). let c = b.refused q.0 r q.1 in let most = c.2 in (right r.seat c.0, c.1, omega arith, c.3)) (at_either v.refused w.refused k r e);
          looks = λ k l e. ⊎_elim (λ (q : get_elem? v.looks k ≡ some l). let c = a.looks k l q in let low = c.1 in let more = left_front l.object in (left l.seat c.0, omega arith))
              (λ (q : (i : ℕ) × (get_elem? w.looks i ≡ some l)). let c = b.looks q.0 l q.1 in let low = c.1 in let more = right_front l.object in (right l.seat c.0, omega arith)) (at_either v.looks w.looks k l e);
          actions = λ k x e. ⊎_elim (λ (q : get_elem? v.actions k ≡ some x). let c = a.actions k x q in (left x.seat c.0, λ p. let low = c.1 p in let more = left_front p in omega arith))
              (λ (q : (i : ℕ) × (get_elem? w.actions i ≡ some x)). let c = b.actions q.0 x q.1 in (right x.seat c.0, λ p. let low = c.1 p in let more = right_front p in omega arith)) (at_either v.actions w.actions k x e);
        }
