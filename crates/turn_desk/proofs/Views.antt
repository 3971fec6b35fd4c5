-- What is known of one object after a change of what is known.
use Rattle.std.proofs.Common.{Bool, ◌≡◌, ◌≢◌, ℕ, ◌<◌, ◌≤◌, zero, suc, List, [], ◌∷◌, ◌++◌, length, get_or, append-nil, sym, refl, ap, ◌∙◌, arith, get_or-set_other, get_or-set_same, replicate, subst, append_assoc}
use Rattle.std.proofs.lemmas.List.Elements.{All-append, All-push}
use lib.ListN.{get_elem?}
use Rattle.atomic_table.proofs.Lists.{at_longer}
use Rattle.turn_desk.specs.declared.view.Refusal.{Refusal}
use Rattle.turn_desk.specs.declared.view.Phase.TheVariants.{Free, Taken, Published}
use Rattle.turn_desk.specs.declared.view.Spot.{Spot}
use Rattle.turn_desk.specs.declared.view.View.{View}
use Rattle.turn_desk.specs.View.{blank, spot, with_spot, fronts_of, taken, refused, joined, all_joined}
use Rattle.turn_desk.specs.Steps.{Continues, IsOther, Noted, TakesAfterRefusals, AreRefusals}
use Rattle.turn_desk.specs.Passes.{DeskId, Standing, IsPassOf}
use Rattle.turn_desk.proofs.Lists.{map_default}

pub taken_is_busy : Taken ≢ Free
taken_is_busy e = cc

pub published_is_busy : Published ≢ Free
published_is_busy e = cc

module _ {E : Type 0} where
  pub at_spot : (v : View E) (o : ℕ) (x : Spot E) → o < length v.spots → spot (with_spot v o x) o ≡ x
  at_spot v o x lt = get_or-set_same v.spots o x blank lt

  pub off_spot : (v : View E) (o p : ℕ) (x : Spot E) → p ≢ o → spot (with_spot v o x) p ≡ spot v p
  off_spot v o p x ne = get_or-set_other v.spots o p x blank ne

  -- the fronts are those of the objects
  pub front_at : (v : View E) (o : ℕ) → get_or (fronts_of v) o 0 ≡ (spot v o).front
  front_at v o = map_default (λ (x : Spot E). x.front) v.spots o blank

  -- an object of a desk that was just made is known by nothing
  pub blank_spot : (n o : ℕ) → get_or (replicate n (blank {E = E})) o blank ≡ blank
  blank_spot zero o = refl
  blank_spot (suc n) zero = refl
  blank_spot (suc n) (suc o) = blank_spot n o

  pub joined_spot : (seat : ℕ) (xs ys : List (Spot E)) (o : ℕ) → o < length xs → o < length ys → get_or (all_joined seat xs ys) o blank ≡ joined seat (get_or xs o blank) (get_or ys o blank)
  joined_spot seat [] ys o lt gt = absurd (omega arith)
  joined_spot seat (x ∷ xs) [] o lt gt = absurd (omega arith)
  joined_spot seat (x ∷ xs) (y ∷ ys) zero lt gt = refl
  joined_spot seat (x ∷ xs) (y ∷ ys) (suc o) lt gt = joined_spot seat xs ys o (omega arith) (omega arith)

  pub length_joined : (seat : ℕ) (xs ys : List (Spot E)) → length (all_joined seat xs ys) ≡ length xs
  length_joined seat [] ys = refl
  length_joined seat (x ∷ xs) [] = refl
  length_joined seat (x ∷ xs) (y ∷ ys) = ap suc (length_joined seat xs ys)

  -- one refusal more
  pub noted_more : (v w u : View E) (o n : ℕ) → Noted v o w → u ≡ refused o n w → IsOther w n → Noted v o u
  noted_more v w u o n k e other = let note : Refusal = record { seat = v.number; object = o; found = n } in let is = subst (λ (z : View E). IsOther z n) k.2 other in (
    k.0 ++ note ∷ [],
    All-push (λ (r : Refusal). (r.seat ≡ v.number) × (r.object ≡ o) × IsOther v r.found) k.0 note k.1 (refl, refl, record { real = is.real; within = is.within; few = is.few; apart = is.apart }),
    e ∙ (ap (refused o n) k.2 ∙ ap (λ (l : List Refusal). record v { refused = l }) (append_assoc v.refused k.0 (note ∷ []))),
  )

  -- refusals, and then a take with its refusals
  pub takes_more : (v w u : View E) (o : ℕ) (log : List E) → Noted v o w → TakesAfterRefusals w o log u → TakesAfterRefusals v o log u
  takes_more v w u o log k t = (
    k.0 ++ t.0,
    All-append (λ (r : Refusal). (r.seat ≡ v.number) × (r.object ≡ o) × IsOther v r.found) k.0 t.0 k.1
        (λ i d lt. let x = subst (λ (z : View E). AreRefusals z o t.0) k.2 t.1 i d lt in (x.0, x.1, record { real = x.2.real; within = x.2.within; few = x.2.few; apart = x.2.apart })),
    t.2 ∙ (ap (λ (z : View E). taken o log (record z { refused = z.refused ++ t.0 })) k.2 ∙ ap (λ (l : List Refusal). taken o log (record v { refused = l })) (append_assoc v.refused k.0 t.0)),
  )

  -- what goes on from what was known after refusals goes on from what was known before them
  pub continues_noted : (summed : List E → ℕ) (between : List E → Bool) (v w : View E) (o : ℕ) (log : List E) → Noted v o w → Continues summed between w o log → Continues summed between v o log
  continues_noted summed between v w o log k c = let d = subst (λ (z : View E). Continues summed between z o log) k.2 c in record { known = d.known; front = d.front; told = d.told; looks = d.looks }

  -- a pass was one of the desk before it was refused
  pub member_noted : (desk : DeskId) (p q : Standing E) (o : ℕ) → q.desk ≡ p.desk → Noted p.view o q.view → IsPassOf desk q → IsPassOf desk p
  member_noted desk p q o same k m = record {
    own = sym same ∙ m.own;
    real = subst (λ (z : View E). 0 < z.number) k.2 m.real;
    within = subst (λ (z : View E). z.number ≤ desk.seats) k.2 m.within;
    few = m.few;
    seats = ap (λ (z : View E). z.seats) (sym k.2) ∙ m.seats;
    wide = ap (λ (z : View E). length z.spots) (sym k.2) ∙ m.wide;
    kinds = ap (λ (z : View E). length z.fixed) (sym k.2) ∙ m.kinds;
    refused = λ i r e. let a = m.refused i r (ap (λ (z : View E). get_elem? z.refused i) k.2 ∙ at_longer p.view.refused k.0 i r e) in let number = ap (λ (z : View E). z.number) k.2 in (a.0 ∙ number, a.1, a.2, λ q. a.3 (q ∙ sym number));
  }

  -- no refusal
  pub noted_none : (v : View E) (o : ℕ) → Noted v o v
  noted_none v o = ([], λ k d lt. absurd (omega arith), ap (λ (l : List Refusal). record v { refused = l }) (sym (append-nil v.refused)))

  -- a take with no refusal before
  pub takes_at_once : (v w : View E) (o : ℕ) (log : List E) → w ≡ taken o log v → TakesAfterRefusals v o log w
  takes_at_once v w o log e = ([], λ k d lt. absurd (omega arith), e ∙ ap (λ (l : List Refusal). taken o log (record v { refused = l })) (sym (append-nil v.refused)))
