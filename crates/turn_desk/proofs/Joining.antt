-- One pass after another is joined in.
use Rattle.std.proofs.Common.{◌≡◌, ℕ, ◌+◌, ◌-◌, ◌<◌, ◌≤◌, cond, zero, suc, List, [], ◌∷◌, ◌++◌, map, length, get_or, set, sym, refl, ap, ◌∙◌, subst, arith, Option, append_assoc, count_by}
use Rattle.std.proofs.lemmas.List.Sums.{sum_by-cons}
use mathlib.Core.Option.{some, some-injective, some-ne-none}
use lib.ListN.{get_elem?}
use Rattle.atomic_table.specs.Seated.{TableId}
use Rattle.atomic_table.specs.Table.{Me}
use Rattle.turn_desk.specs.declared.view.Phase.{Phase}
use Rattle.turn_desk.specs.declared.view.Phase.TheVariants.{Free}
use Rattle.turn_desk.specs.declared.view.Spot.{Spot}
use Rattle.turn_desk.specs.declared.view.View.{View}
use Rattle.turn_desk.specs.View.{blank, both, fronts_of}
use Rattle.turn_desk.specs.Passes.{Keeps, is_free, free_count, empty_slot}
use Rattle.turn_desk.specs.Closing.{HoldsNothing, IsBack, Gathers}

-- all objects are free, where no pass has one
all_free : {E : Type 0} (spots : List (Spot E)) → ((o : ℕ) → (get_or spots o blank).phase ≡ Free) → count_by (λ (x : Spot E). is_free x.phase) spots ≡ length spots
all_free [] idle = refl
all_free {E} (x ∷ xs) idle = let one : cond {A = ℕ} (is_free x.phase) 1 0 ≡ 1 = ap (λ (p : Phase). cond {A = ℕ} (is_free p) 1 0) (idle 0) in
    let a = sum_by-cons (λ (y : Spot E). cond {A = ℕ} (is_free y.phase) 1 0) x xs in let b = all_free xs (λ o. idle (suc o)) in omega arith

empty_row : (l : List ℕ) → length l ≡ 0 → l ≡ []
empty_row [] e = refl
empty_row (x ∷ xs) e = absurd (omega arith)

module _ {E : Type 0} where
  only_back : (seats slots : ℕ) (w : View E) → IsBack seats slots w → (k : ℕ) (v : View E) → get_elem? (w ∷ []) k ≡ some v → IsBack seats slots v
  only_back seats slots w one zero v e = subst (IsBack seats slots) (some-injective w v e) one
  only_back seats slots w one (suc k) v e = absurd (some-ne-none v (sym e))

  more_back : (seats slots : ℕ) (w : View E) (ws : List (View E)) → IsBack seats slots w → ((k : ℕ) (v : View E) → get_elem? ws k ≡ some v → IsBack seats slots v) → (k : ℕ) (v : View E) → get_elem? (w ∷ ws) k ≡ some v → IsBack seats slots v
  more_back seats slots w ws one others zero v e = subst (IsBack seats slots) (some-injective w v e) one
  more_back seats slots w ws one others (suc k) v e = others k v e

module _ {O E : Type 0} where
  -- a pass that has no object keeps no slot
  pub keeps_nothing : (number : ℕ) (fronts kept : List ℕ) (room : ℕ) (table : TableId) (me : Me (Option O) (View E)) → Keeps number fronts kept room table me → HoldsNothing me.0 → me.1 ≡ []
  keeps_nothing number fronts kept room table me k idle = let a = all_free me.0.spots idle in let b : length me.0.spots ≡ table.slots = k.wide in let c : length kept + free_count me.0 ≡ table.slots = k.counted in
      k.slots ∙ ap (map (empty_slot {O = O})) (empty_row kept (omega arith))

  pub is_back : (seats slots number : ℕ) (fronts kept : List ℕ) (room : ℕ) (table : TableId) (me : Me (Option O) (View E)) → Keeps number fronts kept room table me → HoldsNothing me.0 → me.0.seats ≡ seats → table.slots ≡ slots → IsBack seats slots me.0
  is_back seats slots number fronts kept room table me k idle agreed same = let named : number ≡ me.0.number = k.named in let low : 0 < number = k.real in let high : number ≤ me.0.seats = k.within in record {
    real = omega arith;
    within = omega arith;
    agreed = agreed;
    alone = k.alone ∙ ap (λ (n : ℕ). n ∷ []) k.named;
    ready = k.ready;
    wide = k.wide ∙ same;
    idle = idle;
    signed = k.signed;
  }

  -- the last pass is the one into which the others are joined
  pub gathers_first : (seats slots number : ℕ) (all left : List (View E)) (before rows : List (List ℕ)) (fronts : List ℕ) (me : Me (Option O) (View E)) → all ≡ left ++ me.0 ∷ [] → me.1 ≡ [] → IsBack seats slots me.0
      → number ≡ me.0.number → fronts ≡ fronts_of me.0 → rows ≡ set before (number - 1) fronts → Gathers seats slots all left before rows me
  gathers_first seats slots number all left before rows fronts me parts nothing back named seen shown = record {
    base = me.0;
    others = [];
    parts = sym parts;
    joined = λ i. (me.0, nothing i);
    back = λ k v e. only_back seats slots me.0 back k v e;
    shown = shown ∙ (λ i. set before (named i - 1) (seen i));
  }

  -- one pass more was joined in
  pub gathers_more : (seats slots number : ℕ) (all left left' : List (View E)) (before rows rows' : List (List ℕ)) (fronts : List ℕ) (me me' : Me (Option O) (View E)) (w : View E) → Gathers seats slots all left before rows me → left ≡ left' ++ w ∷ [] → IsBack seats slots w
      → me' ≡ (both me.0 w, me.1) → number ≡ w.number → fronts ≡ fronts_of w → rows' ≡ set rows (number - 1) fronts → Gathers seats slots all left' before rows' me'
  gathers_more seats slots number all left left' before rows rows' fronts me me' w g parts one joined named seen shown = record {
    base = g.base;
    others = w ∷ g.others;
    parts = sym (append_assoc left' (w ∷ []) (g.others ++ g.base ∷ [])) ∙ (ap (λ (l : List (View E)). l ++ (g.others ++ g.base ∷ [])) (sym parts) ∙ g.parts);
    joined = joined ∙ ap (λ (m : Me (Option O) (View E)). (both m.0 w, m.1)) g.joined;
    back = λ k v e. more_back seats slots w (g.others ++ g.base ∷ []) one g.back k v e;
    shown = shown ∙ (λ i. set (g.shown i) (named i - 1) (seen i));
  }
