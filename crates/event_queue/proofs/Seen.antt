-- How a pass is seen after each call.
use Rattle.std.proofs.Common.{◌≡◌, ◌≢◌, ℕ, ◌==◌, Bool, cond, List, [], ◌∷◌, ◌++◌, sym, ap, ◌∙◌, eq-eqb, ne_eqb, append_assoc, append-nil}
use Rattle.variant.specs.declared.event.Sent.{Sent}
use Rattle.event_queue.specs.declared.view.View.{View}
use Rattle.event_queue.specs.Passes.{QueueId, PassView, seen, after_send, Held}
use Rattle.event_queue.specs.Rule.{Stood}
use Rattle.event_queue.specs.Views.{pushed}

-- what the ruled queue held while the pass was as it is seen
pub held : (items : List Sent) (queue : QueueId) (n e : ℕ) (kept : List Sent) (v : View) (p : PassView) → seen queue n e kept v ≡ p → v.number ≡ n → Stood items v → Held items p
held items queue n e kept v p is number stood = record {
  view = v;
  stood = stood;
  number = number ∙ ap (λ (q : PassView). q.number) is;
  sent = sym (ap (λ (q : PassView). q.sent) is) ∙ ap (λ (q : PassView). v.sent ++ q.kept) is;
  polled = sym (ap (λ (q : PassView). q.polled) is);
}

-- an event was sent through pass 1, which keeps it
pub sent_kept : (queue : QueueId) (n e : ℕ) (kept kept' : List Sent) (v : View) (x : Sent) (p : PassView) → n ≡ 1 → kept' ≡ kept ++ x ∷ [] → seen queue n e kept v ≡ p → seen queue n e kept' v ≡ after_send x p
sent_kept queue n e kept kept' v x p one more is =
    let keeps : kept' ≡ cond (n == 1) (kept ++ x ∷ []) kept = more ∙ sym (ap (λ (b : Bool). cond b (kept ++ x ∷ []) kept) (eq-eqb n 1 one)) in
    let all : v.sent ++ kept' ≡ (v.sent ++ kept) ++ x ∷ [] = ap (λ (l : List Sent). v.sent ++ l) more ∙ sym (append_assoc v.sent kept (x ∷ [])) in
    (λ i. record { queue = queue; number = n; empties = e; kept = keeps i; sent = all i; polled = v.polled }) ∙ ap (after_send x) is

-- an event was sent through another pass
pub sent_pushed : (queue : QueueId) (n e : ℕ) (kept : List Sent) (v w : View) (x : Sent) (p : PassView) → n ≢ 1 → kept ≡ [] → w ≡ pushed x v → seen queue n e kept v ≡ p → seen queue n e kept w ≡ after_send x p
sent_pushed queue n e kept v w x p other none is_w is =
    let keeps : kept ≡ cond (n == 1) (kept ++ x ∷ []) kept = sym (ap (λ (b : Bool). cond b (kept ++ x ∷ []) kept) (ne_eqb n 1 other)) in
    let all : (v.sent ++ x ∷ []) ++ kept ≡ (v.sent ++ kept) ++ x ∷ [] =
    ap (λ (l : List Sent). (v.sent ++ x ∷ []) ++ l) none ∙ (append-nil (v.sent ++ x ∷ []) ∙ sym (ap (λ (l : List Sent). l ++ x ∷ []) (ap (λ (l : List Sent). v.sent ++ l) none ∙ append-nil v.sent))) in
    ap (seen queue n e kept) is_w ∙ ((λ i. record { queue = queue; number = n; empties = e; kept = keeps i; sent = all i; polled = v.polled }) ∙ ap (after_send x) is)
