-- For callers, who cite no other module of proofs of this crate: what calls leave of what a pass knew, what is known after its turns, and of the passes of a desk that was just made.
use Rattle.std.proofs.Common.{◌≡◌, ◌≢◌, ℕ, ◌+◌, ◌<◌, ◌≤◌, ◌==◌, cond, zero, suc, List, [], ◌∷◌, ◌++◌, map, length, get_or, set, sym, refl, ap, ◌∙◌, subst, arith, Bool, All, Contains, length-set, append-nil, append_assoc, eq-eqb, ne_eqb, ◌-◌}
use Rattle.std.specs.List.{range_with_len}
use Rattle.std.proofs.lemmas.List.{get_or_past, length-map, length-replicate}
use Rattle.std.proofs.lemmas.List.FromFn.{length-range_with_len}
use mathlib.Core.Logic.{dite}
use mathlib.Core.Option.{some-injective, some-ne-none}
use lib.ListN.{get_elem?}
use Rattle.atomic_table.proofs.Lists.{at_longer}
use native.Mathlib.Decide.{dec_le, ℕ_discrete}
use Rattle.turn_desk.specs.declared.view.Look.{Look}
use Rattle.turn_desk.specs.declared.view.Own.{Own}
use Rattle.turn_desk.specs.declared.view.Phase.TheVariants.{Free, Taken}
use Rattle.turn_desk.specs.declared.view.Spot.{Spot}
use Rattle.turn_desk.specs.declared.view.View.{View}
use Rattle.turn_desk.specs.View.{blank, spot, refused, taken, published, freed, looked, opening}
use Rattle.love_base.specs.Prefix.{IsPrefix}
use Rattle.love_base.proofs.Prefixes.{whole, further}
use Rattle.turn_desk.specs.Steps.{Continues, HasTaken, TakesAfterRefusals}
pub use Rattle.turn_desk.specs.Grew.{released_places}
use Rattle.turn_desk.specs.Grew.{Grew, nothing, made_at, made_both}
use Rattle.turn_desk.specs.Passes.{DeskId, Standing, IsPassOf, object_count}
use Rattle.turn_desk.specs.Opening.{opening_pass, opening_passes}
use Rattle.turn_desk.specs.Closing.{HoldsNothing, IsReady, AreNumbered, numbers_of}
use Rattle.turn_desk.proofs.Gives.{published_spot, freed_spot}
pub use Rattle.turn_desk.proofs.Lists.{all_front, all_last}
use Rattle.turn_desk.proofs.Looks.{raised_spot}
use Rattle.turn_desk.proofs.Settled.{some_at, or_at, map_or}
use Rattle.turn_desk.proofs.Takes.{taken_spot}
pub use Rattle.turn_desk.proofs.Views.{taken_is_busy, published_is_busy}
use Rattle.turn_desk.proofs.Views.{at_spot, off_spot, blank_spot, takes_at_once}

module _ {E : Type 0} where
  -- a take changes what is known of its own object alone
  pub takes_else : (v w : View E) (o p : ℕ) (log : List E) → TakesAfterRefusals v o log w → p ≢ o → spot w p ≡ spot v p
  takes_else v w o p log t ne = ap (λ (z : View E). spot z p) t.2 ∙ off_spot v o p (taken_spot o log v) ne

  pub takes_fixed : (v w : View E) (o : ℕ) (log : List E) → TakesAfterRefusals v o log w → w.fixed ≡ v.fixed
  takes_fixed v w o log t = ap (λ (z : View E). z.fixed) t.2

  pub takes_number : (v w : View E) (o : ℕ) (log : List E) → TakesAfterRefusals v o log w → w.number ≡ v.number
  takes_number v w o log t = ap (λ (z : View E). z.number) t.2

  -- and so does giving it back
  pub released_else : (v w : View E) (o p : ℕ) (log : List E) → w ≡ freed o (published o log v) → p ≢ o → spot w p ≡ spot v p
  released_else v w o p log e ne = ap (λ (z : View E). spot z p) e ∙ (off_spot (published o log v) o p (freed_spot o (published o log v)) ne ∙ off_spot v o p (published_spot o log v) ne)

  pub released_free : (v w : View E) (o : ℕ) (log : List E) → w ≡ freed o (published o log v) → (spot w o).phase ≡ Free
  released_free v w o log e = let u : View E = published o log v in ap (λ (z : View E). (spot z o).phase) e ∙ dite (dec_le (o + 1) (length u.spots))
      (λ lt. ap (λ (x : Spot E). x.phase) (at_spot u o (freed_spot o u) (omega arith)))
      (λ nlt. ap (λ (x : Spot E). x.phase) (get_or_past (set u.spots o (freed_spot o u)) o blank (let l = length-set u.spots o (freed_spot o u) in omega arith)))

  -- a pass that had no object has none after it took one and gave it back
  pub turned_idle : (v w u : View E) (o : ℕ) (log log' : List E) → HoldsNothing v → TakesAfterRefusals v o log w → u ≡ freed o (published o log' w) → HoldsNothing u
  turned_idle v w u o log log' idle t e p = dite (ℕ_discrete p o) (λ q. subst (λ (k : ℕ). (spot u k).phase ≡ Free) (sym q) (released_free w u o log' e))
      (λ ne. ap (λ (x : Spot E). x.phase) (released_else w u o p log' e ne ∙ takes_else v w o p log t ne) ∙ idle p)

  -- a look raises what was seen of its object, and changes nothing else there
  pub record IsRaised (x y : Spot E) : Type 0 where
    pub phase : y.phase ≡ x.phase
    pub known : y.known ≡ x.known
    pub front : x.front ≤ y.front
    pub own : y.own ≡ x.own
    pub told : y.told ≡ x.told

  unraised : (x y : Spot E) → y ≡ x → IsRaised x y
  unraised x y e = record {
    phase = ap (λ (z : Spot E). z.phase) e;
    known = ap (λ (z : Spot E). z.known) e;
    front = let f = ap (λ (z : Spot E). z.front) e in omega arith;
    own = ap (λ (z : Spot E). z.own) e;
    told = ap (λ (z : Spot E). z.told) e;
  }

  raised_here : (x y : Spot E) (place : ℕ) → x.front ≤ place → y ≡ record { phase = x.phase; known = x.known; front = place; own = x.own; told = x.told } → IsRaised x y
  raised_here x y place ahead e = record {
    phase = ap (λ (z : Spot E). z.phase) e;
    known = ap (λ (z : Spot E). z.known) e;
    front = let f = ap (λ (z : Spot E). z.front) e in omega arith;
    own = ap (λ (z : Spot E). z.own) e;
    told = ap (λ (z : Spot E). z.told) e;
  }

  -- a look at the object o changes neither what the pass has nor what it knows whole, nor its own places
  pub looked_alike : (v w : View E) (o place summary p : ℕ) → (spot v o).front ≤ place → w ≡ looked o place summary v → IsRaised (spot v p) (spot w p)
  looked_alike v w o place summary p ahead e = let x : Spot E = raised_spot o place v in let u : View E = looked o place summary v in let is : spot w p ≡ spot u p = ap (λ (z : View E). spot z p) e in dite (ℕ_discrete p o)
      (λ q. subst (λ (k : ℕ). IsRaised (spot v k) (spot w k)) (sym q) (let here : spot w o ≡ spot u o = ap (λ (z : View E). spot z o) e in dite (dec_le (o + 1) (length v.spots))
      (λ lt. raised_here (spot v o) (spot w o) place ahead (here ∙ at_spot v o x (omega arith)))
      (λ nlt. let long = length-set v.spots o x in unraised (spot v o) (spot w o) (here ∙ (get_or_past u.spots o blank (omega arith) ∙ sym (get_or_past v.spots o blank (omega arith)))))))
      (λ ne. unraised (spot v p) (spot w p) (is ∙ off_spot v o p x ne))

  -- a pass that had no object has none after a look
  pub looked_idle : (v w : View E) (o place summary : ℕ) → (spot v o).front ≤ place → w ≡ looked o place summary v → HoldsNothing v → HoldsNothing w
  looked_idle v w o place summary ahead e idle p = (looked_alike v w o place summary p ahead e).phase ∙ idle p

  -- and none after a refusal
  pub refused_idle : (v w : View E) (o found : ℕ) → w ≡ refused o found v → HoldsNothing v → HoldsNothing w
  refused_idle v w o found e idle p = ap (λ (z : View E). (spot z p).phase) e ∙ idle p

  -- an object that a pass has taken is one of the desk
  pub in_range : (w : View E) (o : ℕ) → (spot w o).phase ≡ Taken → o < length w.spots
  in_range w o busy = dite (dec_le (o + 1) (length w.spots)) (λ lt. omega arith) (λ nlt. absurd (taken_is_busy (sym busy ∙ ap (λ (x : Spot E). x.phase) (get_or_past w.spots o blank (omega arith)))))

-- what calls leave of what a pass knew
module _ {E : Type 0} where
  -- where nothing was called
  pub grew_same : (v : View E) → Grew nothing v v
  grew_same v = record {
    number = refl;
    seats = refl;
    fixed = refl;
    wide = refl;
    known = λ o. whole (spot v o).known;
    front = λ o. let r : (spot v o).front ≤ (spot v o).front = omega arith in r;
    own = λ o. sym (append-nil (spot v o).own);
    told = λ o. refl;
    refused = whole v.refused;
    looks = whole v.looks;
    actions = whole v.actions;
  }

  -- calls after calls
  pub grew_further : (a b : ℕ → List Own) (u v w : View E) → Grew a u v → Grew b v w → Grew (made_both a b) u w
  grew_further a b u v w g h = record {
    number = h.number ∙ g.number;
    seats = h.seats ∙ g.seats;
    fixed = h.fixed ∙ g.fixed;
    wide = h.wide ∙ g.wide;
    known = λ o. further (spot u o).known (spot v o).known (spot w o).known (g.known o) (h.known o);
    front = λ o. let x = g.front o in let y = h.front o in let r : (spot u o).front ≤ (spot w o).front = omega arith in r;
    own = λ o. h.own o ∙ (ap (λ (l : List Own). l ++ b o) (g.own o) ∙ append_assoc (spot u o).own (a o) (b o));
    told = λ o. h.told o ∙ g.told o;
    refused = further u.refused v.refused w.refused g.refused h.refused;
    looks = further u.looks v.looks w.looks g.looks h.looks;
    actions = further u.actions v.actions w.actions g.actions h.actions;
  }

  -- the same of equal places
  pub grew_as : (a b : ℕ → List Own) (v w : View E) → ((o : ℕ) → a o ≡ b o) → Grew a v w → Grew b v w
  grew_as a b v w same g = record {
    number = g.number;
    seats = g.seats;
    fixed = g.fixed;
    wide = g.wide;
    known = g.known;
    front = g.front;
    own = λ o. g.own o ∙ ap (λ (l : List Own). (spot v o).own ++ l) (same o);
    told = g.told;
    refused = g.refused;
    looks = g.looks;
    actions = g.actions;
  }

  -- calls that fill no place, after calls
  pub grew_then : (a : ℕ → List Own) (u v w : View E) → Grew a u v → Grew nothing v w → Grew a u w
  grew_then a u v w g h = grew_as (made_both a nothing) a u w (λ o. append-nil (a o)) (grew_further a nothing u v w g h)

  -- and before them
  pub grew_first : (b : ℕ → List Own) (u v w : View E) → Grew nothing u v → Grew b v w → Grew b u w
  grew_first b u v w g h = grew_as (made_both nothing b) b u w (λ o. refl) (grew_further nothing b u v w g h)

  -- what holds of the object o and of those of which as much is known as before holds of each
  at_each : (v w : View E) (o : ℕ) (P : ℕ → Spot E → Spot E → Type 0) → ((p : ℕ) → p ≢ o → (x : Spot E) → P p x x) → P o (spot v o) (spot w o) → ((p : ℕ) → p ≢ o → spot w p ≡ spot v p) → (p : ℕ) → P p (spot v p) (spot w p)
  at_each v w o P same here else p = dite (ℕ_discrete p o) (λ q. subst (λ (n : ℕ). P n (spot v n) (spot w n)) (sym q) here) (λ ne. subst (λ (x : Spot E). P p (spot v p) x) (sym (else p ne)) (same p ne (spot v p)))

  no_lower : (x : Spot E) → x.front ≤ x.front
  no_lower x = omega arith

  -- a take, by `hold` or `try_hold`
  pub takes_grew : (summed : List E → ℕ) (between : List E → Bool) (v w : View E) (o : ℕ) (log : List E) → TakesAfterRefusals v o log w → HasTaken w o log → Continues summed between v o log → Grew nothing v w
  takes_grew summed between v w o log t h c =
      let v' : View E = record v { refused = v.refused ++ t.0 } in let lt = in_range w o h.phase in
      let same : length w.spots ≡ length v.spots = ap (λ (z : View E). length z.spots) t.2 ∙ length-set v.spots o (taken_spot o log v') in
      let was : spot w o ≡ taken_spot o log v' = ap (λ (z : View E). spot z o) t.2 ∙ at_spot v' o (taken_spot o log v') (omega arith) in
      let else : (p : ℕ) → p ≢ o → spot w p ≡ spot v p = λ p ne. takes_else v w o p log t ne in record {
        number = takes_number v w o log t;
        seats = ap (λ (z : View E). z.seats) t.2;
        fixed = takes_fixed v w o log t;
        wide = same;
        known = at_each v w o (λ p x y. IsPrefix x.known y.known) (λ p ne x. whole x.known) (subst (IsPrefix (spot v o).known) (sym h.known) c.known) else;
        front = at_each v w o (λ p x y. x.front ≤ y.front) (λ p ne x. no_lower x) (let f = c.front in let g = h.front in let r : (spot v o).front ≤ (spot w o).front = omega arith in r) else;
        own = at_each v w o (λ p x y. y.own ≡ x.own ++ []) (λ p ne x. sym (append-nil x.own)) (ap (λ (z : Spot E). z.own) was ∙ sym (append-nil (spot v o).own)) else;
        told = at_each v w o (λ p x y. y.told ≡ x.told) (λ p ne x. refl) (ap (λ (z : Spot E). z.told) was) else;
        refused = (t.0, ap (λ (z : View E). z.refused) t.2);
        looks = subst (λ (l : List Look). IsPrefix v.looks l) (sym (ap (λ (z : View E). z.looks) t.2)) (whole v.looks);
        actions = (_, ap (λ (z : View E). z.actions) t.2);
      }

  -- the same, where nothing was refused
  pub took_grew : (summed : List E → ℕ) (between : List E → Bool) (v w : View E) (o : ℕ) (log : List E) → o < length v.spots → w ≡ taken o log v → Continues summed between v o log → Grew nothing v w
  took_grew summed between v w o log lt e c =
      let was : spot w o ≡ taken_spot o log v = ap (λ (z : View E). spot z o) e ∙ at_spot v o (taken_spot o log v) lt in
      takes_grew summed between v w o log (takes_at_once v w o log e) (record { phase = ap (λ (z : Spot E). z.phase) was; known = ap (λ (z : Spot E). z.known) was; front = ap (λ (z : Spot E). z.front) was }) c

  -- a refused `try_hold`
  pub refused_grew : (v w : View E) (o found : ℕ) → w ≡ refused o found v → Grew nothing v w
  refused_grew v w o found e = let same = λ (p : ℕ). ap (λ (z : View E). spot z p) e in record {
    number = ap (λ (z : View E). z.number) e;
    seats = ap (λ (z : View E). z.seats) e;
    fixed = ap (λ (z : View E). z.fixed) e;
    wide = ap (λ (z : View E). length z.spots) e;
    known = λ p. subst (λ (x : Spot E). IsPrefix (spot v p).known x.known) (sym (same p)) (whole (spot v p).known);
    front = λ p. subst (λ (x : Spot E). (spot v p).front ≤ x.front) (sym (same p)) (no_lower (spot v p));
    own = λ p. ap (λ (x : Spot E). x.own) (same p) ∙ sym (append-nil (spot v p).own);
    told = λ p. ap (λ (x : Spot E). x.told) (same p);
    refused = (record { seat = v.number; object = o; found = found } ∷ [], ap (λ (z : View E). z.refused) e);
    looks = subst (λ (l : List Look). IsPrefix v.looks l) (sym (ap (λ (z : View E). z.looks) e)) (whole v.looks);
    actions = ([], ap (λ (z : View E). z.actions) e ∙ sym (append-nil v.actions));
  }

  -- a look
  pub looked_grew : (v w : View E) (o place summary : ℕ) → (spot v o).front ≤ place → w ≡ looked o place summary v → Grew nothing v w
  looked_grew v w o place summary ahead e = let at = λ (p : ℕ). looked_alike v w o place summary p ahead e in record {
    number = ap (λ (z : View E). z.number) e;
    seats = ap (λ (z : View E). z.seats) e;
    fixed = ap (λ (z : View E). z.fixed) e;
    wide = ap (λ (z : View E). length z.spots) e ∙ length-set v.spots o (raised_spot o place v);
    known = λ p. subst (IsPrefix (spot v p).known) (sym (at p).known) (whole (spot v p).known);
    front = λ p. (at p).front;
    own = λ p. (at p).own ∙ sym (append-nil (spot v p).own);
    told = λ p. (at p).told;
    refused = ([], ap (λ (z : View E). z.refused) e ∙ sym (append-nil v.refused));
    looks = (_, ap (λ (z : View E). z.looks) e);
    actions = (_, ap (λ (z : View E). z.actions) e);
  }

  -- a release
  pub released_grew : (w u : View E) (o : ℕ) (log : List E) → (spot w o).phase ≡ Taken → IsPrefix (spot w o).known log → (spot w o).front ≤ length log → u ≡ freed o (published o log w) → Grew (made_at o (released_places o log w)) w u
  released_grew w u o log busy grown ahead e =
      let lt = in_range w o busy in let x : Spot E = published_spot o log w in let m : View E = published o log w in let y : Spot E = freed_spot o m in
      let mid : spot m o ≡ x = at_spot w o x lt in
      let end : spot u o ≡ y = ap (λ (z : View E). spot z o) e ∙ at_spot m o y (omega (arith, length-set w.spots o x)) in
      let else : (p : ℕ) → p ≢ o → spot u p ≡ spot w p = λ p ne. released_else w u o p log e ne in record {
        number = ap (λ (z : View E). z.number) e;
        seats = ap (λ (z : View E). z.seats) e;
        fixed = ap (λ (z : View E). z.fixed) e;
        wide = ap (λ (z : View E). length z.spots) e ∙ (length-set m.spots o y ∙ length-set w.spots o x);
        known = at_each w u o (λ p a b. IsPrefix a.known b.known) (λ p ne a. whole a.known) (subst (IsPrefix (spot w o).known) (sym (ap (λ (z : Spot E). z.known) end ∙ ap (λ (z : Spot E). z.known) mid)) grown) else;
        front = at_each w u o (λ p a b. a.front ≤ b.front) (λ p ne a. no_lower a) (subst (λ (n : ℕ). (spot w o).front ≤ n) (sym (ap (λ (z : Spot E). z.front) end ∙ ap (λ (z : Spot E). z.front) mid)) ahead) else;
        own = at_each w u o (λ p a b. b.own ≡ a.own ++ made_at o (released_places o log w) p)
            (λ p ne a. sym (append-nil a.own) ∙ ap (λ (c : Bool). a.own ++ cond c (released_places o log w) []) (sym (ne_eqb p o ne)))
            (ap (λ (z : Spot E). z.own) end ∙ (ap (λ (z : Spot E). z.own) mid ∙ ap (λ (c : Bool). (spot w o).own ++ cond c (released_places o log w) []) (sym (eq-eqb o o refl)))) else;
        told = at_each w u o (λ p a b. b.told ≡ a.told) (λ p ne a. refl) (ap (λ (z : Spot E). z.told) end ∙ ap (λ (z : Spot E). z.told) mid) else;
        refused = ([], ap (λ (z : View E). z.refused) e ∙ sym (append-nil w.refused));
        looks = ([], ap (λ (z : View E). z.looks) e ∙ sym (append-nil w.looks));
        actions = (_, ap (λ (z : View E). z.actions) e);
      }

  -- the object o after a take
  pub takes_here : (v w : View E) (o : ℕ) (log : List E) → TakesAfterRefusals v o log w → HasTaken w o log → ((spot w o).own ≡ (spot v o).own) × ((spot w o).told ≡ (spot v o).told)
  takes_here v w o log t h =
      let v' : View E = record v { refused = v.refused ++ t.0 } in let lt = in_range w o h.phase in
      let same : length w.spots ≡ length v.spots = ap (λ (z : View E). length z.spots) t.2 ∙ length-set v.spots o (taken_spot o log v') in
      let was : spot w o ≡ taken_spot o log v' = ap (λ (z : View E). spot z o) t.2 ∙ at_spot v' o (taken_spot o log v') (omega arith) in (ap (λ (z : Spot E). z.own) was, ap (λ (z : Spot E). z.told) was)

  -- what is known of the object o after a release
  pub record IsReleased (w u : View E) (o : ℕ) (log : List E) : Type 0 where
    pub phase : (spot u o).phase ≡ Free
    pub known : (spot u o).known ≡ log
    pub front : (spot u o).front ≡ length log
    pub own : (spot u o).own ≡ (spot w o).own ++ released_places o log w
    pub told : (spot u o).told ≡ (spot w o).told

  pub released_here : (w u : View E) (o : ℕ) (log : List E) → (spot w o).phase ≡ Taken → u ≡ freed o (published o log w) → IsReleased w u o log
  released_here w u o log busy e =
      let lt = in_range w o busy in let x : Spot E = published_spot o log w in let m : View E = published o log w in let y : Spot E = freed_spot o m in let mid : spot m o ≡ x = at_spot w o x lt in
      let end : spot u o ≡ y = ap (λ (z : View E). spot z o) e ∙ at_spot m o y (omega (arith, length-set w.spots o x)) in record {
        phase = ap (λ (z : Spot E). z.phase) end;
        known = ap (λ (z : Spot E). z.known) end ∙ ap (λ (z : Spot E). z.known) mid;
        front = ap (λ (z : Spot E). z.front) end ∙ ap (λ (z : Spot E). z.front) mid;
        own = ap (λ (z : Spot E). z.own) end ∙ ap (λ (z : Spot E). z.own) mid;
        told = ap (λ (z : Spot E). z.told) end ∙ ap (λ (z : Spot E). z.told) mid;
      }

  -- a history that goes on from what a pass knows goes on from what it knew before
  pub continues_before : (summed : List E → ℕ) (between : List E → Bool) (a : ℕ → List Own) (v w : View E) (o : ℕ) (log : List E) → Grew a v w → Continues summed between w o log → Continues summed between v o log
  continues_before summed between a v w o log g c = record {
    known = further (spot v o).known (spot w o).known log (g.known o) c.known;
    front = let x = g.front o in let y = c.front in omega arith;
    told = λ k t e. c.told k t (ap (λ l. get_elem? l k) (g.told o) ∙ e);
    looks = λ k l e. c.looks k l (ap (λ z. get_elem? z k) g.looks.1 ∙ at_longer v.looks g.looks.0 k l e);
  }

-- a pass that had three objects and gave them back has none
module _ {E : Type 0} where
  pub released_all : (v w u x : View E) (a b c : ℕ) (la lb lc : List E) → w ≡ freed a (published a la v) → u ≡ freed b (published b lb w) → x ≡ freed c (published c lc u) → ((p : ℕ) → p ≢ a → p ≢ b → p ≢ c → (spot v p).phase ≡ Free) → HoldsNothing x
  released_all v w u x a b c la lb lc e f g others p = dite (ℕ_discrete p c) (λ q. subst (λ (k : ℕ). (spot x k).phase ≡ Free) (sym q) (released_free u x c lc g))
      (λ nc. ap (λ (z : Spot E). z.phase) (released_else u x c p lc g nc) ∙ dite (ℕ_discrete p b) (λ q. subst (λ (k : ℕ). (spot u k).phase ≡ Free) (sym q) (released_free w u b lb f))
      (λ nb. ap (λ (z : Spot E). z.phase) (released_else w u b p lb f nb) ∙ dite (ℕ_discrete p a) (λ q. subst (λ (k : ℕ). (spot w k).phase ≡ Free) (sym q) (released_free v w a la e))
      (λ na. ap (λ (z : Spot E). z.phase) (released_else v w a p la e na) ∙ others p na nb nc)))

  -- the last of some passes that are ready, and those before it
  pub ready_last : (desk : DeskId) (passes others : List (Standing E)) (p : Standing E) → All (IsReady desk) passes → passes ≡ others ++ p ∷ [] → IsReady desk p
  ready_last desk passes others p ready e = all_last (IsReady desk) others p (subst (All (IsReady desk)) e ready)

  pub ready_front : (desk : DeskId) (passes others : List (Standing E)) (p : Standing E) → All (IsReady desk) passes → passes ≡ others ++ p ∷ [] → All (IsReady desk) others
  ready_front desk passes others p ready e = all_front (IsReady desk) others p (subst (All (IsReady desk)) e ready)

-- the passes of a desk that was just made have no object
opening_idle : (E : Type 0) (number next seats awaited : ℕ) (fixed : List ℕ) → HoldsNothing (opening {E = E} number next seats awaited fixed)
opening_idle E number next seats awaited fixed o = ap (λ (x : Spot E). x.phase) (blank_spot (length fixed) o)

ready_at : (E : Type 0) (desk : DeskId) (fixed : List ℕ) (a n : ℕ) → All (IsReady desk) (map (opening_pass {E = E} desk fixed) (range_with_len a n))
ready_at E desk fixed a zero k d lt = absurd (omega arith)
ready_at E desk fixed a (suc n) zero d lt = (refl, opening_idle E a (cond (a == 1) (desk.seats + 1) 0) desk.seats 0 fixed)
ready_at E desk fixed a (suc n) (suc k) d lt = ready_at E desk fixed (a + 1) n k d (omega arith)

pub opening_ready : {E : Type 0} (desk : DeskId) (fixed : List ℕ) (passes : List (Standing E)) → passes ≡ opening_passes desk fixed → All (IsReady desk) passes
opening_ready {E} desk fixed passes e = subst (All (IsReady desk)) (sym e) (ready_at E desk fixed 1 desk.seats)

-- and are numbered from 1
numbered_at : (E : Type 0) (desk : DeskId) (fixed : List ℕ) (a n k : ℕ) (d : Standing E) → k < length (map (opening_pass {E = E} desk fixed) (range_with_len a n)) → (get_or (map (opening_pass desk fixed) (range_with_len a n)) k d).view.number ≡ k + a
numbered_at E desk fixed a zero k d lt = absurd (omega arith)
numbered_at E desk fixed a (suc n) zero d lt = let e : a ≡ 0 + a = omega arith in e
numbered_at E desk fixed a (suc n) (suc k) d lt = let e : k + (a + 1) ≡ suc k + a = omega arith in numbered_at E desk fixed (a + 1) n k d (omega arith) ∙ e

pub opening_numbered : {E : Type 0} (desk : DeskId) (fixed : List ℕ) (passes : List (Standing E)) → passes ≡ opening_passes desk fixed → AreNumbered passes
opening_numbered {E} desk fixed passes e = subst AreNumbered (sym e) (numbered_at E desk fixed 1 desk.seats)

pub opening_count : {E : Type 0} (desk : DeskId) (fixed : List ℕ) (passes : List (Standing E)) → passes ≡ opening_passes desk fixed → length passes ≡ desk.seats
opening_count {E} desk fixed passes e = ap length e ∙ (length-map (range_with_len 1 desk.seats) (opening_pass {E = E} desk fixed) ∙ length-range_with_len 1 desk.seats)

-- each number is that of one of them
pub all_numbers : {E : Type 0} (passes : List (Standing E)) (seats : ℕ) → AreNumbered passes → length passes ≡ seats → (n : ℕ) → 0 < n → n ≤ seats → Contains (numbers_of passes) n
all_numbers {E} passes seats numbered long n low high =
    let count = length-map passes (λ (p : Standing E). p.view.number) in let h = some_at passes (n - 1) (omega arith) in let there = some-injective (get_or passes (n - 1) h.0) h.0 (sym (or_at passes (n - 1) h.0 (omega arith)) ∙ h.1) in
    let e : n - 1 + 1 ≡ n = omega arith in
    (n - 1, omega arith, map_or (λ (p : Standing E). p.view.number) passes (n - 1) h.0 n h.1 ∙ (ap (λ (p : Standing E). p.view.number) (sym there) ∙ (numbered (n - 1) h.0 (omega arith) ∙ e)))

-- and are passes of that desk
members_at : (E : Type 0) (desk : DeskId) (fixed : List ℕ) (a n : ℕ) → 0 < a → a + n ≤ desk.seats + 1 → desk.seats ≤ 17 → length fixed ≡ object_count desk → All (IsPassOf desk) (map (opening_pass {E = E} desk fixed) (range_with_len a n))
members_at E desk fixed a zero low high few long k d lt = absurd (omega arith)
members_at E desk fixed a (suc n) low high few long zero d lt = record {
  own = refl;
  real = low;
  within = omega arith;
  few = few;
  seats = refl;
  wide = length-replicate (length fixed) blank ∙ long;
  kinds = long;
  refused = λ i r e. absurd (some-ne-none r (sym e));
}
members_at E desk fixed a (suc n) low high few long (suc k) d lt = members_at E desk fixed (a + 1) n (omega arith) (omega arith) few long k d (omega arith)

pub opening_members : {E : Type 0} (desk : DeskId) (fixed : List ℕ) (passes : List (Standing E)) → passes ≡ opening_passes desk fixed → desk.seats ≤ 17 → length fixed ≡ object_count desk → All (IsPassOf desk) passes
opening_members {E} desk fixed passes e few long = subst (All (IsPassOf desk)) (sym e) (members_at E desk fixed 1 desk.seats (omega arith) (omega arith) few long)
