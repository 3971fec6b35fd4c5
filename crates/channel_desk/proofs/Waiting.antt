-- What calls that change nothing leave of what a pass knows.
use Rattle.std.specs.Prelude.{slice_index}
use Rattle.std.proofs.Common.{◌≡◌, ◌≢◌, ◌∙◌, ℕ, ◌-◌, ◌<◌, ◌≤◌, ◌==◌, Bool, true, false, cond, List, [], ◌∷◌, ◌++◌, length, refl, sym, ap, subst, arith, Option, Some}
use Rattle.std.proofs.lemmas.List.{get_or-set_other, length-map}
use mathlib.Core.Logic.{dite}
use mathlib.Core.Option.{some}
use lib.ListN.{get_elem?}
use native.Mathlib.Decide.{ℕ_discrete}
use Rattle.love_base.specs.Prefix.{IsPrefix}
use Rattle.love_base.proofs.Prefixes.{whole, longer}
use Rattle.turn_desk.specs.declared.view.Own.{Own}
use Rattle.turn_desk.specs.declared.view.Phase.TheVariants.{Free, Taken}
use Rattle.turn_desk.specs.declared.view.Refusal.{Refusal}
use Rattle.turn_desk.specs.declared.view.Spot.{Spot}
use Rattle.turn_desk.specs.declared.view.View.{View}
use Rattle.turn_desk.specs.Grew.{nothing, made_at, released_places}
use Rattle.turn_desk.specs.Passes.{DeskId, Standing, fixed_at, object_count}
use Rattle.turn_desk.specs.Steps.{Continues, HasTaken, TakesAfterRefusals, IsOther}
use Rattle.turn_desk.specs.View.{blank, spot, places, fronts_of, freed, published, looked, refused}
use Rattle.turn_desk.proofs.Callers.{grew_same, grew_then, grew_as, looked_alike, looked_grew, refused_grew, takes_else, takes_grew, takes_fixed, released_else, released_free, released_grew, released_here, taken_is_busy}
use Rattle.channel_desk.specs.declared.shared.SharedEntry.{SharedEntry}
use Rattle.channel_desk.specs.declared.shared.Shared.{Shared}
use Rattle.thread_board.specs.declared.entry.BoardEntry.{BoardEntry}
use Rattle.thread_board.specs.Register.{register}
use Rattle.thread_board.specs.View.{BoardView}
use Rattle.channel_desk.specs.declared.shared.Shared.TheVariants.{Board}
use Rattle.channel_desk.specs.declared.shared.SharedEntry.TheVariants.{Board as OnBoard}
use Rattle.channel_desk.specs.Same.{same_board}
use Rattle.channel_desk.specs.Shared.{board_entries, history_of, kind_of, summary_of, rests}
use Rattle.channel_desk.specs.Holding.{IsLaid}
use Rattle.channel_desk.specs.Turns.{Took, Turned, Waited}
use Rattle.channel_desk.specs.Acting.{IsEnded, WasRefused}

-- a board that was read after state 0's end
pub ended_at : (x : Shared) (b : BoardView) (h : List BoardEntry) (main_end : Option ℕ) (place : ℕ) → x ≡ Board b → h ≡ b.history → main_end ≡ (register b.history).main_end → main_end ≡ Some place → (length h ≡ length (history_of x)) × ((register (board_entries (history_of x))).main_end ≡ Some place)
ended_at x b h main_end place is same ended at = (
  ap length same ∙ (sym (length-map b.history (λ (e : BoardEntry). OnBoard e)) ∙ ap (λ (y : Shared). length (history_of y)) (sym is)),
  ap (λ (y : Shared). (register (board_entries (history_of y))).main_end) is ∙ (ap (λ (l : List BoardEntry). (register l).main_end) (same_board b.history) ∙ (sym ended ∙ at)),
)

pub waited_same : (v : View SharedEntry) → Waited v v
waited_same v = record { grew = grew_same v; phases = λ o. refl; held = λ o busy. refl }

pub waited_further : (u v w : View SharedEntry) → Waited u v → Waited v w → Waited u w
waited_further u v w a b = record {
  grew = grew_then nothing u v w a.grew b.grew;
  phases = λ o. b.phases o ∙ a.phases o;
  held = λ o busy. b.held o (a.phases o ∙ busy) ∙ a.held o busy;
}

pub looked_else : (v w : View SharedEntry) (o place summary p : ℕ) → w ≡ looked o place summary v → p ≢ o → spot w p ≡ spot v p
looked_else v w o place summary p e ne = ap (λ (z : View SharedEntry). spot z p) e ∙ get_or-set_other v.spots o p _ blank ne

pub waited_looked : (v w : View SharedEntry) (o place summary : ℕ) → (spot v o).phase ≡ Free → (spot v o).front ≤ place → w ≡ looked o place summary v → Waited v w
waited_looked v w o place summary free ahead e = record {
  grew = looked_grew v w o place summary ahead e;
  phases = λ p. (looked_alike v w o place summary p ahead e).phase;
  held = λ p busy. looked_else v w o place summary p e (λ q. taken_is_busy (sym busy ∙ (ap (λ (k : ℕ). (spot v k).phase) q ∙ free)));
}

pub waited_refused : (v w : View SharedEntry) (o found : ℕ) → w ≡ refused o found v → Waited v w
waited_refused v w o found e = record {
  grew = refused_grew v w o found e;
  phases = λ p. ap (λ (z : View SharedEntry). (spot z p).phase) e;
  held = λ p busy. ap (λ (z : View SharedEntry). spot z p) e;
}

no_places : (seat o : ℕ) (fronts : List ℕ) (after n : ℕ) → n ≡ 0 → places seat o fronts after n ≡ []
no_places seat o fronts after n e = ap (places seat o fronts after) e

none_made : (o : ℕ) (made : List Own) → made ≡ [] → (p : ℕ) → made_at o made p ≡ []
none_made o made e p = ap (λ (l : List Own). made_at o l p) e ∙ either (p == o)
  where
    either : (b : Bool) → cond {A = List Own} b [] [] ≡ []
    either b = elim b as (λ x. cond {A = List Own} x [] [] ≡ []) [ true ↦ refl | false ↦ refl ]

-- a turn in which nothing was changed
pub waited_turn : (v t w : View SharedEntry) (o : ℕ) (log : List SharedEntry) → (spot v o).phase ≡ Free → TakesAfterRefusals v o log t → HasTaken t o log → Continues summary_of rests v o log → w ≡ freed o (published o log t) → Waited v w
waited_turn v t w o log free takes kept seen gave =
    let grown : IsPrefix (spot t o).known log = subst (λ (l : List SharedEntry). IsPrefix l log) (sym kept.known) (whole log) in
    let ahead : (spot t o).front ≤ length log = (let f = kept.front in omega arith) in
    let none : length log - length (spot t o).known ≡ 0 = (let l = ap length kept.known in omega arith) in
    let made : released_places o log t ≡ [] = no_places t.number o (fronts_of t) (length (spot t o).known) (length log - length (spot t o).known) none in
    record {
      grew = grew_then nothing v t w (takes_grew summary_of rests v t o log takes kept seen) (grew_as (made_at o (released_places o log t)) nothing t w (none_made o (released_places o log t) made) (released_grew t w o log kept.phase grown ahead gave));
      phases = λ p. dite (ℕ_discrete p o)
          (λ q. ap (λ (k : ℕ). (spot w k).phase) q ∙ (released_free t w o log gave ∙ (sym free ∙ ap (λ (k : ℕ). (spot v k).phase) (sym q))))
          (λ ne. ap (λ (x : Spot SharedEntry). x.phase) (released_else t w o p log gave ne ∙ takes_else v t o p log takes ne));
      held = λ p busy. dite (ℕ_discrete p o)
          (λ q. absurd (taken_is_busy (sym busy ∙ (ap (λ (k : ℕ). (spot v k).phase) q ∙ free))))
          (λ ne. released_else t w o p log gave ne ∙ takes_else v t o p log takes ne);
    }

pub took_at_once : (v w : View SharedEntry) (o : ℕ) (log : List SharedEntry) → (spot v o).phase ≡ Free → TakesAfterRefusals v o log w → HasTaken w o log → Continues summary_of rests v o log → Took v w o log
took_at_once v w o log free takes kept seen = record { free = free; began = v; waited = waited_same v; takes = takes; kept = kept; seen = seen }

pub took_later : (u v w : View SharedEntry) (o : ℕ) (log : List SharedEntry) → Waited u v → Took v w o log → Took u w o log
took_later u v w o log a t = record { free = sym (a.phases o) ∙ t.free; began = t.began; waited = waited_further u v t.began a t.waited; takes = t.takes; kept = t.kept; seen = t.seen }

pub waited_idle : (v w : View SharedEntry) (o : ℕ) (log : List SharedEntry) → Turned v w o log log → Waited v w
waited_idle v w o log t =
    let k = t.took in waited_further v k.began w k.waited (waited_turn k.began t.taken w o log (k.waited.phases o ∙ k.free) k.takes k.kept k.seen t.gave)

-- a desk stays laid for a pass
pub laid_same : (desk : DeskId) (p q : Standing SharedEntry) → IsLaid desk p → q.desk ≡ p.desk → q.view.fixed ≡ p.view.fixed → IsLaid desk q
laid_same desk p q laid own fixed = record {
  own = own ∙ laid.own;
  wide = laid.wide;
  board = subst (λ (f : List ℕ). 1 < slice_index f 0) (sym fixed) laid.board;
  channels = λ o low high. ap (λ (f : List ℕ). slice_index f o) fixed ∙ laid.channels o low high;
}

pub laid_waited : (desk : DeskId) (p q : Standing SharedEntry) → IsLaid desk p → q.desk ≡ p.desk → Waited p.view q.view → IsLaid desk q
laid_waited desk p q laid own waited = laid_same desk p q laid own waited.grew.fixed

pub took_fixed : (v w : View SharedEntry) (o : ℕ) (log : List SharedEntry) → Took v w o log → w.fixed ≡ v.fixed
took_fixed v w o log t = takes_fixed t.began w o log t.takes ∙ t.waited.grew.fixed

pub laid_took : (desk : DeskId) (p q : Standing SharedEntry) (o : ℕ) (log : List SharedEntry) → IsLaid desk p → q.desk ≡ p.desk → Took p.view q.view o log → IsLaid desk q
laid_took desk p q o log laid own took = laid_same desk p q laid own (took_fixed p.view q.view o log took)

-- an object that was taken may be given back as this one
pub record CanGive (desk : DeskId) (q : Standing SharedEntry) (o : ℕ) (y : Shared) : Type 0 where
  pub own : q.desk ≡ desk
  pub object : o < object_count desk
  pub taken : (spot q.view o).phase ≡ Taken
  pub grown : IsPrefix (spot q.view o).known (history_of y)
  pub fixed : kind_of y ≡ fixed_at q.view o

pub can_give : (desk : DeskId) (p q : Standing SharedEntry) (o o' : ℕ) (log : List SharedEntry) (y : Shared) → IsLaid desk p → q.desk ≡ p.desk → Took p.view q.view o log → o' ≡ o → o ≤ 1024 → IsPrefix log (history_of y) → kind_of y ≡ fixed_at p.view o → CanGive desk q o' y
can_give desk p q o o' log y laid own took same few grown kind = subst (λ (n : ℕ). CanGive desk q n y) (sym same) (record {
  own = own ∙ laid.own;
  object = let wide = laid.wide in omega arith;
  taken = took.kept.phase;
  grown = subst (λ (l : List SharedEntry). IsPrefix l (history_of y)) (sym took.kept.known) grown;
  fixed = kind ∙ ap (λ (f : List ℕ). slice_index f o) (sym (took_fixed p.view q.view o log took));
})

pub took_at : (v w : View SharedEntry) (o o' : ℕ) (log : List SharedEntry) → o ≡ o' → Took v w o log → Took v w o' log
took_at v w o o' log same took = subst (λ (n : ℕ). Took v w n log) same took

-- an object that was taken goes on from what the pass knows of it
pub grown_known : (v w : View SharedEntry) (o o' : ℕ) (log log' : List SharedEntry) → Took v w o log → o' ≡ o → IsPrefix log log' → IsPrefix (spot w o').known log'
grown_known v w o o' log log' took same grown = subst (λ (n : ℕ). IsPrefix (spot w n).known log') (sym same) (subst (λ (l : List SharedEntry). IsPrefix l log') (sym took.kept.known) grown)

-- what the pass knows of an object whose turn it had, and gave back unchanged
pub known_turn : (v u w : View SharedEntry) (o : ℕ) (log : List SharedEntry) → Took v u o log → w ≡ freed o (published o log u) → (spot w o).known ≡ log
known_turn v u w o log took gave = (released_here u w o log took.kept.phase gave).known

-- a refused try, after some waiting
pub was_refused : (u v w : View SharedEntry) (o found : ℕ) → Waited u v → w ≡ refused o found v → IsOther v found → WasRefused u w o found
was_refused u v w o found waited e other = record {
  at = length v.refused;
  since = longer u.refused v.refused waited.grew.refused;
  note = ap (λ (z : View SharedEntry). get_elem? z.refused (length v.refused)) e ∙ (at_end v.refused (record { seat = v.number; object = o; found = found }) ∙ ap (λ (n : ℕ). some (record { seat = n; object = o; found = found })) (sym (ap (λ (z : View SharedEntry). z.number) e)));
  other = subst (λ (z : View SharedEntry). IsOther z found) (sym e) (record { real = other.real; within = other.within; few = other.few; apart = other.apart });
}
  where
    at_end : (l : List Refusal) (r : Refusal) → get_elem? (l ++ r ∷ []) (length l) ≡ some r
    at_end [] r = refl
    at_end (x ∷ xs) r = at_end xs r

pub ended_refused : (v w : View SharedEntry) (o found place main_end : ℕ) → w ≡ refused o found v → IsEnded v place main_end → IsEnded w place main_end
ended_refused v w o found place main_end e ended = subst (λ (z : View SharedEntry). IsEnded z place main_end) (sym e) (record { ended = ended.ended; place = ended.place })
