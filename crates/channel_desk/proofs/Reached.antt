-- What a state reached stays reached, and each action reaches its own place.
use Rattle.std.proofs.Common.{◌≡◌, ◌≢◌, ◌∙◌, ℕ, ◌+◌, ◌<◌, ◌≤◌, List, [], ◌∷◌, ◌++◌, map, length, get_or, length-append, length-set, sym, ap, subst, arith, inl, inr}
use Rattle.std.proofs.lemmas.List.{get_or_append_left, get_or_push, get_or-set_other, get_or-set_same, length-map}
use mathlib.Core.Logic.{dite}
use native.Mathlib.Decide.{ℕ_discrete}
use Rattle.love_base.specs.Prefix.{IsPrefix}
use Rattle.love_base.specs.declared.stamp.Stamp.{Stamp}
use Rattle.love_base.proofs.Prefixes.{longer}
use Rattle.variant.specs.declared.ask.Ask.{Ask}
use Rattle.variant.specs.declared.action.Action.{Action}
use Rattle.channel_core.specs.declared.entry.Entry.{Entry}
use Rattle.turn_desk.specs.declared.view.View.{View}
use Rattle.turn_desk.specs.Passes.{DeskId, Standing}
use Rattle.turn_desk.specs.View.{spot}
use Rattle.turn_desk.proofs.Callers.{released_here}
use Rattle.channel_desk.specs.declared.sections.Section.{Section}
use Rattle.channel_desk.specs.declared.shared.SharedEntry.{SharedEntry}
use Rattle.channel_desk.specs.declared.shared.SharedEntry.TheVariants.{Channel as OnChannel}
use Rattle.channel_desk.specs.Shared.{history_of}
use Rattle.channel_desk.specs.Acting.{Acted}
use Rattle.channel_desk.specs.Ahead.{Reaches}
use Rattle.channel_desk.specs.Holding.{IsHolding}
use Rattle.channel_desk.specs.Turns.{IsAt, Step, Waited, in_turn, inside, entering, leaving}
use Rattle.channel_desk.proofs.Ahead.{step_grew}
use Rattle.channel_desk.proofs.Rising.{at_last, reached_step}
use Rattle.channel_desk.proofs.Sectioned.{grown_after}

less_reached : (v : View SharedEntry) (held : List Section) (o n m : ℕ) → n ≤ m → Reaches v held o m → Reaches v held o n
less_reached v held o n m le (inl front) = inl (omega arith)
less_reached v held o n m le (inr s) = inr (s.0, s.1, s.2, (let f = s.3 in omega arith))

-- a step reaches the end of the history that it left
pub step_reaches : (ask : Ask) (v w : View SharedEntry) (held held' : List Section) (o depth : ℕ) (log log' : List SharedEntry) → Step ask v w held held' o depth log log' → Reaches w held' o (length log')
step_reaches ask v w held held' o depth log log' (in_turn flat t same) = inl (let f = (released_here t.taken w o log' t.took.kept.phase t.gave).front in omega arith)
step_reaches ask v w held held' o depth log log' (inside deep same x) = inr (
  x.place,
  x.changed,
  record {
    within = let long : length held' ≡ length held = ap length x.items ∙ length-set held x.place x.changed in let at = x.at.within in omega arith;
    item = λ d. ap (λ (l : List Section). get_or l x.place d) x.items ∙ get_or-set_same held x.place x.changed d x.at.within;
    object = x.object;
  },
  (let long = ap length x.after in omega arith),
)
step_reaches ask v w held held' o depth log log' (entering flat e) = inr (length held, e.section, subst (λ (n : ℕ). IsAt held' n (length held) e.section) e.object (at_last held held' e.section e.items), (let long = ap length e.after in omega arith))
step_reaches ask v w held held' o depth log log' (leaving deep l) = inl (let f = (released_here v w o log' l.taken l.gave).front in omega arith)

-- a section on another object stays
section_stays : (ask : Ask) (v w : View SharedEntry) (held held' : List Section) (o depth : ℕ) (log log' : List SharedEntry) (p k : ℕ) (s : Section) → Step ask v w held held' o depth log log' → p ≢ o → IsAt held p k s → IsAt held' p k s
section_stays ask v w held held' o depth log log' p k s (in_turn flat t same) ne at = subst (λ (l : List Section). IsAt l p k s) (sym same) at
section_stays ask v w held held' o depth log log' p k s (inside deep same x) ne at = record {
  within = let long : length held' ≡ length held = ap length x.items ∙ length-set held x.place x.changed in let a = at.within in omega arith;
  item = λ d. ap (λ (l : List Section). get_or l k d) x.items ∙ (get_or-set_other held x.place k x.changed d (λ e. ne (sym at.object ∙ (ap (λ (y : Section). y.held.object) (sym (at.item s) ∙ (ap (λ (n : ℕ). get_or held n s) e ∙ x.at.item s)) ∙ x.at.object))) ∙ at.item d);
  object = at.object;
}
section_stays ask v w held held' o depth log log' p k s (entering flat e) ne at = record {
  within = let long : length held' ≡ length held + 1 = ap length e.items ∙ length-append held (e.section ∷ []) in let a = at.within in omega arith;
  item = λ d. ap (λ (l : List Section). get_or l k d) e.items ∙ (get_or_append_left held (e.section ∷ []) d k at.within ∙ at.item d);
  object = at.object;
}
section_stays ask v w held held' o depth log log' p k s (leaving deep l) ne at =
    let long : length held ≡ length held' + 1 = ap length l.items ∙ length-append held' (l.section ∷ []) in
    let other : k ≢ length held' = λ e. ne (sym at.object ∙ (ap (λ (y : Section). y.held.object) (sym (at.item s) ∙ (ap (λ (x : List Section). get_or x k s) l.items ∙ get_or_push held' l.section s k (sym e))) ∙ l.object)) in
    let a = at.within in let below : k < length held' = omega arith in record {
      within = below;
      item = λ d. sym (get_or_append_left held' (l.section ∷ []) d k below) ∙ (sym (ap (λ (x : List Section). get_or x k d) l.items) ∙ at.item d);
      object = at.object;
    }

-- what was reached before a step is reached behind it
pub step_stays : (desk : DeskId) (state next : ℕ) (q : Standing SharedEntry) (ask : Ask) (w : View SharedEntry) (held held' : List Section) (o depth : ℕ) (log log' : List SharedEntry) (p n : ℕ) → IsHolding desk state next q held → IsPrefix log log' → Step ask q.view w held held' o depth log log' → Reaches q.view held p n → Reaches w held' p n
step_stays desk state next q ask w held held' o depth log log' p n h grown step r = dite (ℕ_discrete p o)
    (λ e. let here : Reaches q.view held o n = subst (λ (x : ℕ). Reaches q.view held x n) e r in
    let le = reached_step desk state next q held ask w held' o depth log log' h step n here in let long = longer log log' grown in
    subst (λ (x : ℕ). Reaches w held' x n) (sym e) (less_reached w held' o n (length log') (omega arith) (step_reaches ask q.view w held held' o depth log log' step)))
    (λ ne. else ne r)
  where
    else : p ≢ o → Reaches q.view held p n → Reaches w held' p n
    else ne (inl le) = inl (let f = (step_grew ask q.view w held held' o depth log log' grown step).1.front p in omega arith)
    else ne (inr m) = inr (m.0, m.1, section_stays ask q.view w held held' o depth log log' p m.0 m.1 step ne m.2, m.3)

-- so an action reaches its place
pub acted_reaches : (by : Stamp) (v w : View SharedEntry) (held held' : List Section) (ask : Ask) (a : Action) → Acted by v w held held' ask a → Reaches w held' a.object a.place
acted_reaches by v w held held' ask a acted =
    let long = length-map acted.after (λ (e : Entry). OnChannel e) in let at = acted.place in
    less_reached w held' a.object a.place (length (map OnChannel acted.after)) (omega arith) (step_reaches ask v w held held' a.object acted.depth (map OnChannel acted.before) (map OnChannel acted.after) acted.step)

-- and no action, and no wait, takes back what was reached
pub acted_stays : (desk : DeskId) (state next : ℕ) (q : Standing SharedEntry) (by : Stamp) (w : View SharedEntry) (held held' : List Section) (ask : Ask) (a : Action) (p n : ℕ) → IsHolding desk state next q held → Acted by q.view w held held' ask a → Reaches q.view held p n → Reaches w held' p n
acted_stays desk state next q by w held held' ask a p n h acted r =
    step_stays desk state next q ask w held held' a.object acted.depth (map OnChannel acted.before) (map OnChannel acted.after) p n h (grown_after (_) by acted.depth acted.before acted.after _ acted.comes) acted.step r

pub waited_stays : (v w : View SharedEntry) (held : List Section) (p n : ℕ) → Waited v w → Reaches v held p n → Reaches w held p n
waited_stays v w held p n waited (inl le) = inl (let f = waited.grew.front p in omega arith)
waited_stays v w held p n waited (inr m) = inr m
