-- What was polled and what is left, once all passes are joined and the ruled queue is empty.
use Rattle.std.proofs.Common.{◌≡◌, ◌≢◌, ◌⊎◌, ℕ, ◌<◌, zero, suc, Contains, List, [], ◌∷◌, ◌++◌, length, get_or, sym, refl, ap, ◌∙◌, subst, inl, inr, ⊎_elim, arith, append_assoc, append-nil}
use Rattle.std.proofs.lemmas.List.{map-append}
use mathlib.Core.Logic.{dite}
use mathlib.Core.Option.{some, some-injective, some-ne-none}
use native.Mathlib.Decide.{dec_le, ℕ_discrete}
use lib.ListN.{get_elem?}
use Rattle.variant.specs.declared.event.Sent.{Sent}
use Rattle.event_queue.specs.declared.view.View.{View}
use Rattle.event_queue.specs.Closing.{numbers_of, AreAllBack, OfEach, OfFirst, EndsWith, AreDelivered, AreInOrder, HasAll, all_popped, Emptied}
use Rattle.event_queue.specs.Passes.{QueueId, PassView}
use Rattle.event_queue.specs.Routes.{Routed, events, through, sent_by}
use Rattle.event_queue.specs.Rule.{Polls, Stood}
use Rattle.event_queue.specs.Views.{view, popped as one_popped}
use Rattle.event_queue.proofs.Routing.{no_head, through_both, kept_as, kept_events, kept_own, kept_other, sent_through}

-- a pass has the number, or none has
none_more : (q : PassView) (qs : List PassView) (n : ℕ) → q.number ≢ n → OfEach qs (λ p. p.number ≢ n) → OfEach (q ∷ qs) (λ p. p.number ≢ n)
none_more q qs n ne none zero p e = subst (λ (r : PassView). r.number ≢ n) (some-injective q p e) ne
none_more q qs n ne none (suc k) p e = none k p e

pub find_number : (passes : List PassView) (n : ℕ) → ((k : ℕ) × (p : PassView) × (get_elem? passes k ≡ some p) × (p.number ≡ n)) ⊎ OfEach passes (λ p. p.number ≢ n)
find_number [] n = inr (λ k p e. absurd (some-ne-none p (sym e)))
find_number (q ∷ qs) n = dite (ℕ_discrete q.number n) (λ is. inl (zero, q, refl, is))
    (λ ne. ⊎_elim (λ h. inl (suc h.0, h.1, h.2, h.3)) (λ none. inr (none_more q qs n ne none)) (find_number qs n))

not_at : (passes : List PassView) (n k : ℕ) → OfEach passes (λ p. p.number ≢ n) → k < length (numbers_of passes) → get_or (numbers_of passes) k n ≢ n
not_at [] n k none lt e = absurd (omega arith)
not_at (q ∷ qs) n zero none lt e = none zero q refl e
not_at (q ∷ qs) n (suc k) none lt e = not_at qs n k (λ i p h. none (suc i) p h) (omega arith) e

pub number_there : (passes : List PassView) (n : ℕ) → Contains (numbers_of passes) n → (k : ℕ) × (p : PassView) × (get_elem? passes k ≡ some p) × (p.number ≡ n)
number_there passes n c = ⊎_elim (λ h. h) (λ none. absurd (not_at passes n c.0 none c.1 c.2)) (find_number passes n)

-- of each state whose events all went through one pass, the events are in order
pub in_order : (passes : List PassView) (all : List Sent) → AreDelivered passes all → AreInOrder passes all
in_order passes all d s k p at only =
    let rs = d.routes in
    let none : (q : ℕ) → q ≢ p.number → sent_by s (through q rs) ≡ [] = λ q ne. ⊎_elim
    (λ h. ap (λ (n : ℕ). sent_by s (through n rs)) (sym h.3) ∙ (ap (sent_by s) (d.whole h.0 h.1 h.2) ∙ only h.0 h.1 h.2 (λ e. ne (sym h.3 ∙ e))))
    (λ no. ap (sent_by s) (d.no_other q no)) (find_number passes q) in
    ap (sent_by s) (sym d.events_are) ∙ (sent_through s p.number rs none ∙ ap (sent_by s) (d.whole k p at))

nothing_waits : (W : List Routed) → events W ≡ [] → W ≡ []
nothing_waits [] e = refl
nothing_waits (r ∷ rs) e = no_head r.sent (events rs) (sym e)

-- by the rule, where nothing waits
by_rule : (queue : QueueId) (passes : List PassView) (kept popped : List Sent) (v : View) (P W : List Routed) (holder : ℕ → ℕ) (j : ℕ) → AreAllBack queue passes → HasAll passes queue.passes kept v → W ≡ []
    → v.sent ≡ through 1 (P ++ W) → Polls P W holder j (all_popped popped v) → OfFirst passes (λ p. AreDelivered passes (p.polled ++ (popped ++ kept)))
by_rule queue passes kept popped v P W holder j all h none own p k first at one =
    let polled : (q : ℕ) → through q (P ++ W) ≡ through q P = λ q. ap (λ (l : List Routed). through q (P ++ l)) none ∙ ap (through q) (append-nil P) in
    let rs : List Routed = P ++ kept_as 1 kept in
    let through_1 : through 1 rs ≡ v.sent ++ kept = through_both 1 P (kept_as 1 kept) ∙ ((λ i. sym (polled 1) i ++ kept_own 1 kept i) ∙ ap (λ (l : List Sent). l ++ kept) (sym own)) in
    let through_else : (q : ℕ) → q ≢ 1 → through q rs ≡ through q (P ++ W) = λ q ne.
    through_both q P (kept_as 1 kept) ∙ (ap (λ (l : List Sent). through q P ++ l) (kept_other 1 q kept ne) ∙ (append-nil (through q P) ∙ sym (polled q))) in
    let polled_is : first.polled ≡ v.polled = ⊎_elim (λ (t : (first.number ≡ 1) × (first.kept ≡ kept) × (first.sent ≡ v.sent ++ kept) × (first.polled ≡ v.polled)). t.3)
    (λ t. absurd ((p.joined t.0 t.1 t.2).0 (t.3 ∙ one))) (h.back k first at) in record {
      routes = rs;
      events_are = map-append (λ (r : Routed). r.sent) P (kept_as 1 kept)
          ∙ ((λ i. sym p.polled_is i ++ kept_events 1 kept i) ∙ (append_assoc v.polled popped kept ∙ ap (λ (l : List Sent). l ++ (popped ++ kept)) (sym polled_is)));
      whole = λ m q here. ⊎_elim (λ (t : (q.number ≡ 1) × (q.kept ≡ kept) × (q.sent ≡ v.sent ++ kept) × (q.polled ≡ v.polled)). ap (λ (n : ℕ). through n rs) t.0 ∙ (through_1 ∙ sym t.2))
          (λ t. let row = p.joined t.0 t.1 t.2 in ap (λ (n : ℕ). through n rs) (sym t.3) ∙ (through_else t.1.number row.0 ∙ (sym row.3 ∙ sym (t.4 row.0))))
          (h.back m q here);
      no_other = λ n no. let some_first : n ≢ 1 = λ e. no k first at (one ∙ sym e) in through_else n some_first ∙ dite (ℕ_discrete n 0) (λ z. (p.unused n (inl z)).1)
          (λ nz. dite (dec_le n v.made) (λ le. let count = h.made in let c = number_there passes n (all n (omega arith) (omega arith)) in absurd (no c.0 c.1 c.2 c.3)) (λ nle. (p.unused n (inr (omega arith))).1));
    }

pub delivered : (queue : QueueId) (passes : List PassView) (kept popped : List Sent) (v w : View) → AreAllBack queue passes → HasAll passes queue.passes kept v → Emptied popped v w
    → OfFirst passes (λ p. AreDelivered passes (p.polled ++ (popped ++ kept)))
delivered queue passes kept popped v w all h e =
    let stood : Stood [] (all_popped popped v) = subst (Stood []) e.0 e.1 in let q = stood.2 in let one = h.first in
    let mine = q.each stood.1 (all_popped popped v) stood.3 (omega arith) in
    by_rule queue passes kept popped v q.polled q.waiting q.holder stood.1 all h (nothing_waits q.waiting q.waits) (mine.sent ∙ ap (λ (n : ℕ). through n (q.polled ++ q.waiting)) one) (mine.polls one)

-- pass 1 keeps what came last
pub kept_last : (queue : QueueId) (passes : List PassView) (kept popped : List Sent) (v w : View) → HasAll passes queue.passes kept v → Emptied popped v w → OfFirst passes (λ p. EndsWith (popped ++ kept) p.kept)
kept_last queue passes kept popped v w h e k first at one =
    let stood : Stood [] (all_popped popped v) = subst (Stood []) e.0 e.1 in let q = stood.2 in let number = h.first in
    let p = (q.each stood.1 (all_popped popped v) stood.3 (omega arith)).polls number in
    ⊎_elim (λ (t : (first.number ≡ 1) × (first.kept ≡ kept) × (first.sent ≡ v.sent ++ kept) × (first.polled ≡ v.polled)). (popped, ap (λ (l : List Sent). popped ++ l) (sym t.1)))
    (λ t. absurd ((p.joined t.0 t.1 t.2).0 (t.3 ∙ one))) (h.back k first at)

-- while the ruled queue is emptied
pub popped_none : (v : View) → v ≡ all_popped [] v
popped_none v = ap (λ (l : List Sent). view v.number v.sent l v.made v.joined) (sym (append-nil v.polled))

pub popped_more : (v w u : View) (xs : List Sent) (x : Sent) → w ≡ all_popped xs v → u ≡ one_popped x w → u ≡ all_popped (xs ++ x ∷ []) v
popped_more v w u xs x so_far more = more ∙ (ap (one_popped x) so_far ∙ ap (λ (l : List Sent). view v.number v.sent l v.made v.joined) (append_assoc v.polled xs (x ∷ [])))
