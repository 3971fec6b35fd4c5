-- The passes that are given back, while they are joined into pass 1.
use Rattle.std.proofs.Common.{◌≡◌, ◌≢◌, ◌⊎◌, ℕ, ◌≤◌, List, [], ◌∷◌, ◌++◌, length, sym, refl, ap, ◌∙◌, subst, inl, inr, ⊎_elim}
use Rattle.std.specs.Prelude.{remove}
use mathlib.Core.Logic.{dite}
use mathlib.Core.Option.{some, some-injective, some-ne-none}
use native.Mathlib.Decide.{ℕ_discrete}
use lib.ListN.{get_elem?}
use Rattle.crossbeam_queue.proofs.Lists.{at_longer, at_last, at_snoc}
use Rattle.variant.specs.declared.event.Sent.{Sent}
use Rattle.event_queue.specs.declared.view.View.{View}
use Rattle.event_queue.specs.Closing.{OfEach, Knows, HasAll}
use Rattle.event_queue.specs.Passes.{QueueId, PassView}
use Rattle.event_queue.specs.Views.{both}
use Rattle.event_queue.proofs.Lists.{still_there, was_there}

-- each pass is known, or is one of those that are left
pub record Gathers (all left : List PassView) (queue : QueueId) (kept : List Sent) (v : View) : Type 0 where
  pub first : v.number ≡ 1
  pub made : v.made ≤ queue.passes
  pub own : OfEach left (λ p. p.queue ≡ queue)
  pub back : OfEach all (λ p. Knows v kept p ⊎ ((k : ℕ) × (get_elem? left k ≡ some p)))

-- a pass of the queue has its ruled queue and its number of passes
pub ruled_of : (x p : PassView) (queue : QueueId) → x ≡ p → p.queue ≡ queue → x.queue.ruled ≡ queue.ruled
ruled_of x p queue is own = ap (λ (q : PassView). q.queue.ruled) is ∙ ap (λ (q : QueueId). q.ruled) own

pub passes_of : (x p : PassView) (queue : QueueId) → x ≡ p → p.queue ≡ queue → x.queue.passes ≡ queue.passes
passes_of x p queue is own = ap (λ (q : PassView). q.queue.passes) is ∙ ap (λ (q : QueueId). q.passes) own

-- what the pass that was joined in sent is known
joined_in : (v w : View) (kept : List Sent) (p : PassView) → w.number ≡ p.number → (p.number ≢ 1 → p.sent ≡ w.sent) → Knows (both v w) kept p
joined_in v w kept p number sent = inr (length v.joined, record { number = w.number; sent = w.sent }, at_last v.joined (record { number = w.number; sent = w.sent }) (length v.joined) refl, number, λ ne. sent (λ e. ne (number ∙ e)))

-- and what was known before
still_known : (v w : View) (kept : List Sent) (p : PassView) → Knows v kept p → Knows (both v w) kept p
still_known v w kept p k = ⊎_elim (λ (t : (p.number ≡ 1) × (p.kept ≡ kept) × (p.sent ≡ v.sent ++ kept) × (p.polled ≡ v.polled)). inl t)
    (λ t. inr (t.0, t.1, at_longer v.joined (record { number = w.number; sent = w.sent } ∷ []) t.0 t.1 t.2, t.3, t.4)) k

pub gathers_first : (all : List PassView) (queue : QueueId) (i : ℕ) (kept : List Sent) (v : View) (p : PassView) → get_elem? all i ≡ some p → OfEach all (λ q. q.queue ≡ queue) → v.number ≡ 1 → v.made ≤ queue.passes
    → p.number ≡ 1 → p.kept ≡ kept → p.sent ≡ v.sent ++ kept → p.polled ≡ v.polled → Gathers all (remove all i) queue kept v
gathers_first all queue i kept v p at own one made number kept_is sent polled = record {
  first = one;
  made = made;
  own = λ k q e. let h = was_there all i k q e in own h.0 q h.1;
  back = λ k q e. dite (ℕ_discrete k i)
      (λ is. let same : p ≡ q = some-injective p q (sym at ∙ (ap (get_elem? all) (sym is) ∙ e)) in inl (subst (Knows v kept) same (inl (number, kept_is, sent, polled))))
      (λ ne. inr (still_there all i k q e ne));
}

pub gathers_more : (all left rest : List PassView) (queue : QueueId) (kept : List Sent) (v w : View) (p : PassView) → left ≡ rest ++ p ∷ [] → w.number ≡ p.number → (p.number ≢ 1 → p.sent ≡ w.sent) → Gathers all left queue kept v
    → Gathers all rest queue kept (both v w)
gathers_more all left rest queue kept v w p parts number sent g = record {
  first = g.first;
  made = g.made;
  own = λ k q e. g.own k q (ap (λ (l : List PassView). get_elem? l k) parts ∙ at_longer rest (p ∷ []) k q e);
  back = λ k q e. ⊎_elim (λ known. inl (still_known v w kept q known))
      (λ h. ⊎_elim (λ old. inr (h.0, old)) (λ is. inl (subst (Knows (both v w) kept) is (joined_in v w kept p number sent))) (at_snoc rest p q h.0 (ap (λ (l : List PassView). get_elem? l h.0) (sym parts) ∙ h.1)))
      (g.back k q e);
}

pub gathers_all : (all : List PassView) (queue : QueueId) (kept : List Sent) (v : View) → Gathers all [] queue kept v → HasAll all queue.passes kept v
gathers_all all queue kept v g = record {
  first = g.first;
  made = g.made;
  back = λ k p e. ⊎_elim (λ known. known) (λ h. absurd (some-ne-none p (sym h.1))) (g.back k p e);
}
