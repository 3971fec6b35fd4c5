-- An action is its deed's answer in all histories that go on from what its state has seen then.
use Rattle.std.proofs.Common.{◌≡◌, ◌∙◌, ℕ, zero, suc, ◌<◌, ◌≤◌, List, [], ◌∷◌, ◌++◌, map, length, get_or, refl, sym, ap, subst, arith, All, append_assoc, inl, length-set}
use Rattle.std.proofs.lemmas.List.{get_or-set_same, get_or-set_other}
use Rattle.std.proofs.lemmas.List.Elements.{All-push}
use mathlib.Core.Logic.{dite}
use mathlib.Core.Option.{some, some-ne-none}
use lib.ListN.{get_elem?}
use native.Mathlib.Decide.{ℕ_discrete}
use Rattle.love_base.specs.Prefix.{IsPrefix}
use Rattle.love_base.specs.declared.stamp.Stamp.{Stamp}
use Rattle.love_base.proofs.Prefixes.{further, longer}
use Rattle.variant.specs.declared.ask.Ask.{Ask}
use Rattle.variant.specs.declared.action.Action.{Action}
use Rattle.variant.specs.declared.action.Deed.{Deed}
use Rattle.channel_core.specs.declared.entry.Entry.{Entry}
use Rattle.channel_core.specs.Answers.{answer}
use Rattle.turn_desk.specs.declared.view.Look.{Look}
use Rattle.turn_desk.specs.declared.view.Own.{Own}
use Rattle.turn_desk.specs.declared.view.View.{View}
use Rattle.turn_desk.specs.Grew.{Grew, nothing, made_at, released_places}
use Rattle.turn_desk.specs.View.{spot}
use Rattle.turn_desk.proofs.Callers.{all_front, all_last, grew_first, grew_same, takes_grew, released_grew, released_here}
use Rattle.channel_desk.specs.declared.shared.SharedEntry.{SharedEntry}
use Rattle.channel_desk.specs.declared.shared.SharedEntry.TheVariants.{Board as OnBoard, Channel as OnChannel}
use Rattle.channel_desk.specs.declared.sections.Section.{Section}
use Rattle.channel_desk.specs.Shared.{history_of, channel_entries, summary_of, rests}
use Rattle.channel_desk.specs.Same.{same_channel}
use Rattle.channel_desk.specs.Deeds.{entries_by}
use Rattle.channel_desk.specs.Turns.{Took, Turned, Step, in_turn, inside, entering, leaving}
use Rattle.channel_desk.specs.Acting.{Acted}
use Rattle.channel_desk.specs.Ahead.{Histories, entries_at, IsAhead, IsAnswered}
use Rattle.channel_desk.proofs.Sectioned.{grown_after}

pub at_longer : (l m : List Look) (i : ℕ) (a : Look) → get_elem? l i ≡ some a → get_elem? (l ++ m) i ≡ some a
at_longer [] m i a e = absurd (some-ne-none a (sym e))
at_longer (x ∷ xs) m zero a e = e
at_longer (x ∷ xs) m (suc i) a e = at_longer xs m i a e

channel_append : (xs ys : List SharedEntry) → channel_entries (xs ++ ys) ≡ channel_entries xs ++ channel_entries ys
channel_append [] ys = refl
channel_append (OnBoard e ∷ xs) ys = channel_append xs ys
channel_append (OnChannel e ∷ xs) ys = ap (λ (l : List Entry). e ∷ l) (channel_append xs ys)

-- what begins a Channel's history as an object's begins it as a Channel's
pub prefix_channel : (xs ys : List Entry) → IsPrefix (map OnChannel xs) (map OnChannel ys) → IsPrefix xs ys
prefix_channel xs ys p = (channel_entries p.0, sym (same_channel ys) ∙ (ap channel_entries p.1 ∙ (channel_append (map OnChannel xs) p.0 ∙ ap (λ (l : List Entry). l ++ channel_entries p.0) (same_channel xs))))

-- what a pass knows only grows by a take
pub took_grew : (v w : View SharedEntry) (o : ℕ) (log : List SharedEntry) → Took v w o log → Grew nothing v w
took_grew v w o log t = grew_first nothing v t.began w t.waited.grew (takes_grew summary_of rests t.began w o log t.takes t.kept t.seen)

-- and by a turn
pub turned_grew : (v w : View SharedEntry) (o : ℕ) (log log' : List SharedEntry) → IsPrefix log log' → Turned v w o log log' → (made : ℕ → List Own) × Grew made v w
turned_grew v w o log log' grown t =
    let k = t.took in let u = t.taken in
    let ahead : (spot u o).front ≤ length log' = (let f = k.kept.front in let l = longer log log' grown in omega arith) in
    let grown' : IsPrefix (spot u o).known log' = subst (λ (l : List SharedEntry). IsPrefix l log') (sym k.kept.known) grown in
    (made_at o (released_places o log' u), grew_first (made_at o (released_places o log' u)) v u w (took_grew v u o log k) (released_grew u w o log' k.kept.phase grown' ahead t.gave))

pub step_grew : (ask : Ask) (v w : View SharedEntry) (held held' : List Section) (o depth : ℕ) (log log' : List SharedEntry) → IsPrefix log log' → Step ask v w held held' o depth log log' → (made : ℕ → List Own) × Grew made v w
step_grew ask v w held held' o depth log log' grown (in_turn outside t same) = turned_grew v w o log log' grown t
step_grew ask v w held held' o depth log log' grown (inside deep same within) = (nothing, subst (λ (u : View SharedEntry). Grew nothing v u) (sym same) (grew_same v))
step_grew ask v w held held' o depth log log' grown (entering outside e) = let t = e.took in (nothing, grew_first nothing v t.began w t.waited.grew (takes_grew summary_of rests t.began w o log t.takes t.kept t.seen))
step_grew ask v w held held' o depth log log' grown (leaving deep l) =
    (made_at o (released_places o log' v), released_grew v w o log' l.taken (further (spot v o).known log log' l.grown grown) l.ahead l.gave)

-- where a section's object goes on, so does what it was
end_prefix : (ask : Ask) (v w : View SharedEntry) (held held' : List Section) (o depth : ℕ) (log log' : List SharedEntry) (hs : Histories) → o ≤ 1024 → IsAhead w held' hs → Step ask v w held held' o depth log log' → IsPrefix log' (entries_at hs o)
end_prefix ask v w held held' o depth log log' hs few ahead (in_turn outside t same) =
    subst (λ (l : List SharedEntry). IsPrefix l (entries_at hs o)) (released_here t.taken w o log' t.took.kept.phase t.gave).known (ahead.known o few)
end_prefix ask v w held held' o depth log log' hs few ahead (inside deep same x) =
    let long : length held' ≡ length held = ap length x.items ∙ length-set held x.place x.changed in let within = x.at.within in
    let there : get_or held' x.place x.changed ≡ x.changed = ap (λ (l : List Section). get_or l x.place x.changed) x.items ∙ get_or-set_same held x.place x.changed x.changed within in
    let p : IsPrefix (history_of x.changed.held.value) (entries_at hs x.changed.held.object) = subst (λ (s : Section). IsPrefix (history_of s.held.value) (entries_at hs s.held.object)) there (ahead.sections x.place x.changed (omega arith)) in
    subst (λ (l : List SharedEntry). IsPrefix l (entries_at hs o)) x.after (subst (λ (n : ℕ). IsPrefix (history_of x.changed.held.value) (entries_at hs n)) x.object p)
end_prefix ask v w held held' o depth log log' hs few ahead (entering outside e) =
    let all = subst (All (λ (s : Section). IsPrefix (history_of s.held.value) (entries_at hs s.held.object))) e.items ahead.sections in
    let p : IsPrefix (history_of e.section.held.value) (entries_at hs e.section.held.object) = all_last (λ (s : Section). IsPrefix (history_of s.held.value) (entries_at hs s.held.object)) held e.section all in
    subst (λ (l : List SharedEntry). IsPrefix l (entries_at hs o)) e.after (subst (λ (n : ℕ). IsPrefix (history_of e.section.held.value) (entries_at hs n)) e.object p)
end_prefix ask v w held held' o depth log log' hs few ahead (leaving deep l) =
    subst (λ (h : List SharedEntry). IsPrefix h (entries_at hs o)) (released_here v w o log' l.taken l.gave).known (ahead.known o few)

-- what goes on from what is known after a step goes on from what was known before
pub step_keeps : (ask : Ask) (v w : View SharedEntry) (held held' : List Section) (o depth : ℕ) (log log' : List SharedEntry) (hs : Histories) → o ≤ 1024 → IsPrefix log log' → IsAhead w held' hs → Step ask v w held held' o depth log log' → IsAhead v held hs
step_keeps ask v w held held' o depth log log' hs few grown ahead step =
    let grew = (step_grew ask v w held held' o depth log log' grown step).1 in record {
      known = λ p le. further (spot v p).known (spot w p).known (entries_at hs p) (grew.known p) (ahead.known p le);
      sections = rest step;
      looks = λ k l e le. ahead.looks k l (ap (λ (z : List Look). get_elem? z k) grew.looks.1 ∙ at_longer v.looks grew.looks.0 k l e) le;
    }
  where
    behind : IsPrefix log (entries_at hs o)
    behind = further log log' (entries_at hs o) grown (end_prefix ask v w held held' o depth log log' hs few ahead step)

    before : (s : Section) → s.held.object ≡ o → history_of s.held.value ≡ log → IsPrefix (history_of s.held.value) (entries_at hs s.held.object)
    before s object is = subst (λ (l : List SharedEntry). IsPrefix l (entries_at hs s.held.object)) (sym is) (subst (λ (n : ℕ). IsPrefix log (entries_at hs n)) (sym object) behind)

    rest : Step ask v w held held' o depth log log' → All (λ (s : Section). IsPrefix (history_of s.held.value) (entries_at hs s.held.object)) held
    rest (in_turn outside t same) = subst (All (λ (s : Section). IsPrefix (history_of s.held.value) (entries_at hs s.held.object))) same ahead.sections
    rest (inside deep same x) = λ i d lt. let long : length held' ≡ length held = ap length x.items ∙ length-set held x.place x.changed in dite (ℕ_discrete i x.place)
        (λ q. let here : get_or held i d ≡ x.section = ap (λ (n : ℕ). get_or held n d) q ∙ x.at.item d in subst (λ (s : Section). IsPrefix (history_of s.held.value) (entries_at hs s.held.object)) (sym here) (before x.section x.at.object x.before))
        (λ ne. let other : get_or held' i d ≡ get_or held i d = ap (λ (l : List Section). get_or l i d) x.items ∙ get_or-set_other held x.place i x.changed d ne in subst (λ (s : Section). IsPrefix (history_of s.held.value) (entries_at hs s.held.object)) other (ahead.sections i d (omega arith)))
    rest (entering outside e) = all_front (λ (s : Section). IsPrefix (history_of s.held.value) (entries_at hs s.held.object)) held e.section (subst (All (λ (s : Section). IsPrefix (history_of s.held.value) (entries_at hs s.held.object))) e.items ahead.sections)
    rest (leaving deep l) = subst (All (λ (s : Section). IsPrefix (history_of s.held.value) (entries_at hs s.held.object))) (sym l.items) (All-push (λ (s : Section). IsPrefix (history_of s.held.value) (entries_at hs s.held.object)) held' l.section ahead.sections (before l.section l.object l.before))

pub channel_entries_at : (hs : Histories) (o : ℕ) → 0 < o → entries_at hs o ≡ map OnChannel (hs.channels o)
channel_entries_at hs zero low = absurd (omega arith)
channel_entries_at hs (suc o) low = refl

-- an action is the answer at its place of each such history
pub acted_answered : (shows : ℕ → Type 0) (by : Stamp) (v w : View SharedEntry) (held held' : List Section) (ask : Ask) (a : Action) (hs : Histories) → (acted : Acted by v w held held' ask a) → 0 < a.object → a.object ≤ 1024 → IsAhead w held' hs → IsAnswered shows by acted.depth a (hs.channels a.object)
acted_answered shows by v w held held' ask a hs acted low few ahead =
    let o = a.object in let came = acted.comes in
    let p : IsPrefix (map OnChannel acted.after) (map OnChannel (hs.channels o)) = subst (IsPrefix (map OnChannel acted.after)) (channel_entries_at hs o low) (end_prefix ask v w held held' o acted.depth (map OnChannel acted.before) (map OnChannel acted.after) hs few ahead acted.step) in
    let q = prefix_channel acted.after (hs.channels o) p in let e = entries_by by came.change in record {
      before = acted.before;
      change = came.change;
      after = q.0;
      history = q.1 ∙ (ap (λ (l : List Entry). l ++ q.0) came.history ∙ append_assoc acted.before e q.0);
      place = acted.place ∙ ap length came.history;
      changed = came.changed;
      answered = inl (ap (λ (d : Deed). answer d by.state acted.depth acted.before) acted.deed ∙ came.answered, acted.readings);
    }

pub acted_keeps : (by : Stamp) (v w : View SharedEntry) (held held' : List Section) (ask : Ask) (a : Action) (hs : Histories) → Acted by v w held held' ask a → a.object ≤ 1024 → IsAhead w held' hs → IsAhead v held hs
acted_keeps by v w held held' ask a hs acted few ahead =
    step_keeps ask v w held held' a.object acted.depth (map OnChannel acted.before) (map OnChannel acted.after) hs few (grown_after (_) by acted.depth acted.before acted.after _ acted.comes) ahead acted.step
