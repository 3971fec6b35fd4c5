-- What a state that is cut short comes to.
use Rattle.std.proofs.Common.{◌≡◌, ◌∙◌, ℕ, ◌+◌, ◌≤◌, true, List, [], ◌∷◌, ◌++◌, length, Some, None, refl, sym, ap, subst}
use Rattle.love_base.specs.declared.stamp.Stamp.{Stamp}
use Rattle.variant.specs.declared.action.Action.{Action}
use Rattle.variant.specs.declared.action.Deed.{Deed}
use Rattle.variant.specs.declared.action.Deed.TheVariants.{CutLeave}
use Rattle.variant.specs.declared.reply.Reply.TheVariants.{Done}
use Rattle.channel_core.specs.declared.entry.Change.TheVariants.{Leave as Leaving}
use Rattle.channel_core.specs.Answers.{answer, adds}
use Rattle.channel_core.specs.History.{leave_by}
use Rattle.turn_desk.specs.declared.view.View.{View}
use Rattle.turn_desk.specs.View.{spot, freed, published}
use Rattle.channel_desk.specs.declared.sections.Section.{Section}
use Rattle.channel_desk.specs.declared.shared.Shared.{Shared}
use Rattle.channel_desk.specs.declared.shared.SharedEntry.{SharedEntry}
use Rattle.channel_desk.specs.Shared.{history_of, kind_of, channel_in}
use Rattle.turn_desk.specs.Passes.{DeskId, Standing}
use Rattle.channel_desk.specs.Holding.{IsOf, IsHolding}
use Rattle.variant.specs.Log.{MayFollow, MayPrecede}
use Rattle.std.proofs.lemmas.List.Elements.{All-push}
use Rattle.channel_desk.specs.Leaving.{Cut, CutOne, LeftAll, one}
use Rattle.channel_desk.proofs.Acts.{left_by}
use Rattle.channel_desk.proofs.Holds.{section_last}

-- the action by which the last section is left
abbrev pub cut_action : ℕ → ℕ → ℕ → Action
cut_action number channel place = record {
  number = number;
  object = channel;
  place = place;
  changed = true;
  deed = CutLeave channel;
  reply = Done;
  readings = None;
}

pub cut_by : (state next : ℕ) (v w : View SharedEntry) (held held' : List Section) (s : Section) (y : Shared) (o place : ℕ) → IsOf state next v s → held ≡ held' ++ s ∷ [] → kind_of y ≡ 0 → o ≡ s.held.object → answer (CutLeave s.held.object) state s.depth (channel_in s.held.value) ≡ adds Done Leaving
    → channel_in y ≡ channel_in s.held.value ++ leave_by (record { state = state; number = next }) ∷ [] → place ≡ length (channel_in y) → (spot v o).front ≤ length (history_of y) → w ≡ freed o (published o (history_of y) v)
    → Cut (record { state = state; number = next }) v w held held' (cut_action next s.held.object place)
cut_by state next v w held held' s y o place i last ky same answered entry long ahead gave = record {
  number = refl;
  deed = refl;
  reply = refl;
  changed = refl;
  readings = refl;
  depth = s.depth;
  before = channel_in s.held.value;
  after = channel_in y;
  comes = record { change = Some Leaving; answered = answered; history = entry; changed = refl };
  place = long;
  left = left_by v w held held' state next s.depth s y o i refl ky same last ahead gave;
}

pub cut_one : (state next : ℕ) (v w : View SharedEntry) (held held' : List Section) (log log' : List Action) (a b : Action) → Cut (record { state = state; number = next }) v w held held' b → a ≡ b → log' ≡ log ++ a ∷ [] → CutOne state next v w held held' log log'
cut_one state next v w held held' log log' a b cut same put = record { action = b; cut = cut; put = put ∙ ap (λ (x : Action). log ++ x ∷ []) same }

-- the last section was left, and its action put behind the others
pub cut_last : (desk : DeskId) (state next : ℕ) (p q : Standing SharedEntry) (held held' : List Section) (log log' : List Action) (s : Section) (y : Shared) (o place channel : ℕ) (by : Stamp) (a : Action) → IsHolding desk state next p held → held ≡ held' ++ s ∷ [] → by ≡ record { state = state; number = next } → channel ≡ s.held.object
    → kind_of y ≡ 0 → o ≡ s.held.object → answer (CutLeave s.held.object) by.state s.depth (channel_in s.held.value) ≡ adds Done Leaving → channel_in y ≡ channel_in s.held.value ++ leave_by by ∷ [] → place ≡ length (channel_in y) → (spot p.view o).front ≤ length (history_of y)
    → q.view ≡ freed o (published o (history_of y) p.view) → a ≡ cut_action by.number channel place → log' ≡ log ++ a ∷ [] → CutOne state next p.view q.view held held' log log'
cut_last desk state next p q held held' log log' s y o place channel by a h last stamp on ky same answered entry long ahead gave is put =
    let mine : Stamp = record { state = state; number = next } in
    let i : IsOf state next p.view s = section_last desk state next p held' held s h last in
    cut_one state next p.view q.view held held' log log' a (cut_action next s.held.object place)
    (cut_by state next p.view q.view held held' s y o place i last ky same (subst (λ (b : Stamp). answer (CutLeave s.held.object) b.state s.depth (channel_in s.held.value) ≡ adds Done Leaving) stamp answered)
    (subst (λ (b : Stamp). channel_in y ≡ channel_in s.held.value ++ leave_by b ∷ []) stamp entry) long ahead gave)
    (is ∙ (ap (λ (b : Stamp). cut_action b.number channel place) stamp ∙ ap (λ (n : ℕ). cut_action next n place) on)) put

-- another section may be left behind
pub order_after : (state next : ℕ) (v w : View SharedEntry) (held held' : List Section) (log log' : List Action) → ((channel : ℕ) → MayFollow log (CutLeave channel)) → CutOne state next v w held held' log log' → (channel : ℕ) → MayFollow log' (CutLeave channel)
order_after state next v w held held' log log' order cutting channel =
    let a : Action = cutting.action in
    let free : MayPrecede a.deed (CutLeave channel) = subst (λ (d : Deed). MayPrecede d (CutLeave channel)) (sym cutting.cut.deed) tt in
    subst (λ (l : List Action). MayFollow l (CutLeave channel)) (sym cutting.put) (All-push (λ (x : Action). MayPrecede x.deed (CutLeave channel)) log a (order channel) free)

pub left_one : (first begun state n n' : ℕ) (u v w : View SharedEntry) (held more fewer : List Section) (log l l' : List Action) → state ≡ first → n' ≡ n + 1 → LeftAll first begun u held log n v more l → CutOne state n v w more fewer l l' → LeftAll first begun u held log n' w fewer l'
left_one first begun state n n' u v w held more fewer log l l' same up before cut =
    subst (λ (k : ℕ). LeftAll first begun u held log k w fewer l') (sym up) (subst (LeftAll first begun u held log (n + 1) w fewer) (sym cut.put)
    (one n v w more fewer l cut.action before (subst (λ (s : ℕ). Cut (record { state = s; number = n }) v w more fewer cut.action) same cut.cut)))
