-- Each step keeps the rule of the queue.
use Rattle.std.proofs.Common.{◌≡◌, ◌≢◌, ◌⊎◌, ℕ, ◌+◌, ◌<◌, ◌≤◌, ◌==◌, Bool, cond, zero, suc, List, [], ◌∷◌, ◌++◌, length, set, sym, refl, ap, ◌∙◌, subst, inl, inr, ⊎_elim, arith, eq-eqb, ne_eqb, append_assoc}
use mathlib.Core.Logic.{dite}
use mathlib.Core.Option.{some, some-injective, some-ne-none}
use native.Mathlib.Decide.{dec_le, ℕ_discrete}
use lib.ListN.{get_elem?}
use Rattle.crossbeam_queue.proofs.Lists.{at_set, at_snoc}
use Rattle.crossbeam_queue.specs.Fifo.{Pushes, Pops, Forks, Merges, Learns}
use Rattle.variant.specs.declared.event.Sent.{Sent}
use Rattle.event_queue.specs.declared.view.Joined.{Joined}
use Rattle.event_queue.specs.declared.view.View.{View}
use Rattle.event_queue.specs.Routes.{Routed, events, through}
use Rattle.event_queue.specs.Rule.{Knows, Queued, Stood}
use Rattle.event_queue.specs.Views.{first_view, spent, pushed, popped, gave, makes_one, newcomer, both}
use Rattle.event_queue.proofs.Routing.{routed, head_is, tail_is, no_head, events_more, through_rest, last_own, last_other, between_own, between_other}

-- what a pass knows stays true where nothing was sent through the numbers that it has, and they stay with it
later : (P W P' W' : List Routed) (holder holder' : ℕ → ℕ) (i : ℕ) (u : View)
    → ((q : ℕ) → holder q ≡ i → (holder' q ≡ i) × (through q (P' ++ W') ≡ through q (P ++ W)))
    → (u.number ≡ 1 → events P' ≡ events P)
    → Knows P W holder i u → Knows P' W' holder' i u
later P W P' W' holder holder' i u same told k = record {
  own = (same u.number k.own).0;
  sent = k.sent ∙ sym (same u.number k.own).1;
  polls = λ one. let p = k.polls one in record {
    first = p.first;
    polled_is = p.polled_is ∙ sym (told one);
    unused = λ q n. let h = p.unused q n in let s = same q h.0 in (s.0, s.1 ∙ h.1);
    joined = λ m r e. let h = p.joined m r e in let s = same r.number h.2 in (h.0, h.1, s.0, h.3 ∙ sym s.1);
  };
}

-- two passes at two places have two numbers
apart : (holder : ℕ → ℕ) (i j p q : ℕ) → holder q ≡ i → holder p ≡ j → i ≢ j → q ≢ p
apart holder i j p q at_i at_j ne e = ne (sym at_i ∙ (ap holder e ∙ at_j))

-- the number n is now at the place k
abbrev assigned : (ℕ → ℕ) → ℕ → ℕ → ℕ → ℕ
assigned holder n k q = cond (q == n) k (holder q)

assigned_here : (holder : ℕ → ℕ) (n k : ℕ) → assigned holder n k n ≡ k
assigned_here holder n k = ap (λ (b : Bool). cond b k (holder n)) (eq-eqb n n refl)

assigned_else : (holder : ℕ → ℕ) (n k q : ℕ) → q ≢ n → assigned holder n k q ≡ holder q
assigned_else holder n k q ne = ap (λ (b : Bool). cond b k (holder q)) (ne_eqb q n ne)

assigned_either : (holder : ℕ → ℕ) (n k q : ℕ) → holder q ≡ k → assigned holder n k q ≡ k
assigned_either holder n k q at_k = dite (ℕ_discrete q n) (λ e. ap (assigned holder n k) e ∙ assigned_here holder n k) (λ ne. assigned_else holder n k q ne ∙ at_k)

-- what is known at the place j of the view w is known of the view that stands there
there : (P W : List Routed) (holder : ℕ → ℕ) (i j : ℕ) (w u : View) → i ≡ j → w ≡ u → Knows P W holder j w → Knows P W holder i u
there P W holder i j w u at is k = subst (λ (y : ℕ × View). Knows P W holder y.0 y.1) (λ m. (sym at m, is m)) k

-- an event is pushed
pub can_push : (n j : ℕ) (v : View) (x : Sent) → 0 < v.number → v.number ≢ 1 → Pushes Queued n j v x (λ w. w ≡ pushed x v)
can_push n j v x real other items views room q at =
    let P = q.polled in let W = q.waiting in let r = routed v.number x in let mine = q.each j v at real in
    let knows : Knows P (W ++ r ∷ []) q.holder j (pushed x v) = record {
      own = mine.own;
      sent = ap (λ (l : List Sent). l ++ x ∷ []) mine.sent ∙ sym (last_own v.number x P W);
      polls = λ one. absurd (other one);
    } in (
      pushed x v,
      record {
        polled = P;
        waiting = W ++ r ∷ [];
        holder = q.holder;
        waits = events_more W r ∙ ap (λ (l : List Sent). l ++ x ∷ []) q.waits;
        kept = last_other v.number 1 x [] W (λ e. other (sym e)) ∙ q.kept;
        each = λ i u e pos. ⊎_elim (λ h. there P (W ++ r ∷ []) q.holder i j (pushed x v) u h.0 h.1 knows)
            (λ h. later P W P (W ++ r ∷ []) q.holder q.holder i u (λ m at_i. (at_i, last_other v.number m x P W (apart q.holder i j v.number m at_i mine.own h.0))) (λ _. refl) (q.each i u h.1 pos))
            (at_set views j i (pushed x v) u e);
      },
      refl,
    )

-- the oldest event is popped
pop_from : (j : ℕ) (v : View) (x : Sent) (items : List Sent) (views : List View) (P W : List Routed) (holder : ℕ → ℕ) → v.number ≡ 1 → get_elem? views j ≡ some v
    → events W ≡ x ∷ items → through 1 W ≡ [] → ((i : ℕ) (u : View) → get_elem? views i ≡ some u → 0 < u.number → Knows P W holder i u)
    → Queued items (set views j (popped x v))
pop_from j v x items views P [] holder one at waits kept each = no_head x items waits
pop_from j v x items views P (r ∷ rs) holder one at waits kept each =
    let mine = each j v at (omega arith) in let p = mine.polls one in
    let log : (P ++ r ∷ []) ++ rs ≡ P ++ r ∷ rs = append_assoc P (r ∷ []) rs in
    let same : (q : ℕ) → through q ((P ++ r ∷ []) ++ rs) ≡ through q (P ++ r ∷ rs) = λ q. ap (through q) log in
    let head : r.sent ≡ x = head_is r.sent x (events rs) items waits in
    let knows : Knows (P ++ r ∷ []) rs holder j (popped x v) = record {
      own = mine.own;
      sent = mine.sent ∙ sym (same v.number);
      polls = λ _. record {
        first = p.first;
        polled_is = ap (λ (l : List Sent). l ++ x ∷ []) p.polled_is ∙ (ap (λ (y : Sent). events P ++ y ∷ []) (sym head) ∙ sym (events_more P r));
        unused = λ q n. let h = p.unused q n in (h.0, same q ∙ h.1);
        joined = λ m s e. let h = p.joined m s e in (h.0, h.1, h.2, h.3 ∙ sym (same s.number));
      };
    } in record {
      polled = P ++ r ∷ [];
      waiting = rs;
      holder = holder;
      waits = tail_is r.sent x (events rs) items waits;
      kept = through_rest 1 r rs kept;
      each = λ i u e pos. ⊎_elim (λ h. there (P ++ r ∷ []) rs holder i j (popped x v) u h.0 h.1 knows)
          (λ h. let k = each i u h.1 pos in later P (r ∷ rs) (P ++ r ∷ []) rs holder holder i u (λ q at_i. (at_i, same q)) (λ first. absurd (apart holder i j v.number u.number k.own mine.own h.0 (first ∙ sym one))) k)
          (at_set views j i (popped x v) u e);
    }

pub can_pop : (j : ℕ) (v : View) → v.number ≡ 1 → Pops Queued j v (λ x w. (w ≡ popped x v) × ((rest : List Sent) × Stood (x ∷ rest) v))
can_pop j v one x items views q at = (popped x v, pop_from j v x items views q.polled q.waiting q.holder one at q.waits q.kept q.each, (refl, (items, (views, j, q, at))))

-- an event that pass 1 kept is given
pub can_give : (j : ℕ) (v : View) (x : Sent) → v.number ≡ 1 → Forks Queued j v (gave x v) spent
can_give j v x one items views q at =
    let P = q.polled in let W = q.waiting in let r = routed 1 x in let mine = q.each j v at (omega arith) in let p = mine.polls one in
    let knows : Knows (P ++ r ∷ []) W q.holder j (gave x v) = record {
      own = mine.own;
      sent = ap (λ (l : List Sent). l ++ x ∷ []) (mine.sent ∙ ap (λ (n : ℕ). through n (P ++ W)) one) ∙ (sym (between_own 1 x P W q.kept) ∙ ap (λ (n : ℕ). through n ((P ++ r ∷ []) ++ W)) (sym one));
      polls = λ _. record {
        first = p.first;
        polled_is = ap (λ (l : List Sent). l ++ x ∷ []) p.polled_is ∙ sym (events_more P r);
        unused = λ m n. let h = p.unused m n in let first = p.first in (h.0, between_other 1 m x P W (λ e. ⊎_elim (λ z. absurd (omega arith)) (λ lt. absurd (omega arith)) n) ∙ h.1);
        joined = λ k s e. let h = p.joined k s e in (h.0, h.1, h.2, h.3 ∙ sym (between_other 1 s.number x P W h.0));
      };
    } in record {
      polled = P ++ r ∷ [];
      waiting = W;
      holder = q.holder;
      waits = q.waits;
      kept = q.kept;
      each = λ i u e pos. ⊎_elim
          (λ old. ⊎_elim (λ h. there (P ++ r ∷ []) W q.holder i j (gave x v) u h.0 h.1 knows)
          (λ h. let k = q.each i u h.1 pos in let other : (m : ℕ) → q.holder m ≡ i → m ≢ 1 = λ m at_i. apart q.holder i j 1 m at_i (ap q.holder (sym one) ∙ mine.own) h.0 in
          later P W (P ++ r ∷ []) W q.holder q.holder i u (λ m at_i. (at_i, between_other 1 m x P W (other m at_i))) (λ first. absurd (other u.number k.own first)) k)
          (at_set views j i (gave x v) u old))
          (λ is. absurd (let z : 0 ≡ u.number = ap (λ (y : View). y.number) is in omega arith))
          (at_snoc (set views j (gave x v)) spent u i e);
    }

at_end : (l : List View) (a b : View) (j : ℕ) → get_elem? (l ++ a ∷ []) j ≡ some b → (get_elem? l j ≡ some b) ⊎ ((j ≡ length l) × (a ≡ b))
at_end [] a b zero e = inr (refl, some-injective a b e)
at_end [] a b (suc j) e = absurd (some-ne-none b (sym e))
at_end (x ∷ xs) a b zero e = inl e
at_end (x ∷ xs) a b (suc j) e = ⊎_elim inl (λ t. inr (ap suc t.0, t.1)) (at_end xs a b j e)

-- the next pass is made
pub can_make : (j : ℕ) (v : View) → v.number ≡ 1 → Forks Queued j v (makes_one v) (newcomer v)
can_make j v one items views q at =
    let P = q.polled in let W = q.waiting in let n : ℕ = v.made + 1 in let vs : List View = set views j (makes_one v) in let k = length vs in
    let mine = q.each j v at (omega arith) in let p = mine.polls one in let first = p.first in
    let holder : ℕ → ℕ = assigned q.holder n k in
    let new = p.unused n (inr (omega arith)) in
    let knows : Knows P W holder j (makes_one v) = record {
      own = assigned_else q.holder n k v.number (λ e. omega arith) ∙ mine.own;
      sent = mine.sent;
      polls = λ _. record {
        first = omega arith;
        polled_is = p.polled_is;
        unused = λ m u. ⊎_elim
            (λ z. let h = p.unused m (inl z) in (assigned_else q.holder n k m (λ e. omega arith) ∙ h.0, h.1))
            (λ lt. let h = p.unused m (inr (omega arith)) in (assigned_else q.holder n k m (λ e. omega arith) ∙ h.0, h.1)) u;
        joined = λ m s e. let h = p.joined m s e in let low = h.1 in (h.0, omega arith, assigned_else q.holder n k s.number (λ e'. omega arith) ∙ h.2, h.3);
      };
    } in
    let fresh : Knows P W holder k (newcomer v) = record {
      own = assigned_here q.holder n k;
      sent = sym new.1;
      polls = λ e. absurd (omega arith);
    } in record {
      polled = P;
      waiting = W;
      holder = holder;
      waits = q.waits;
      kept = q.kept;
      each = λ i u e pos. ⊎_elim
          (λ old. ⊎_elim (λ h. there P W holder i j (makes_one v) u h.0 h.1 knows)
          (λ h. later P W P W q.holder holder i u (λ m at_i. (assigned_else q.holder n k m (apart q.holder i j n m at_i new.0 h.0) ∙ at_i, refl)) (λ _. refl) (q.each i u h.1 pos))
          (at_set views j i (makes_one v) u old))
          (λ h. there P W holder i k (newcomer v) u h.0 h.1 fresh)
          (at_end vs (newcomer v) u i e);
    }

-- a pass is joined into pass 1
pub can_join : (j : ℕ) (v : View) (o : ℕ) (w : View) → v.number ≡ 1 → 0 < w.number → Merges Queued j v o w (both v w) spent
can_join j v o w one real items views q at two at' =
    let P = q.polled in let W = q.waiting in let n : ℕ = w.number in let vs : List View = set views j (both v w) in
    let was : get_elem? views o ≡ some w = ⊎_elim (λ h. absurd (two h.0)) (λ h. h.1) (at_set views j o (both v w) w at') in
    let mine = q.each j v at (omega arith) in let p = mine.polls one in let theirs = q.each o w was real in
    let differ : n ≢ 1 = apart q.holder o j 1 n theirs.own (ap q.holder (sym one) ∙ mine.own) two in
    let made : n ≤ v.made = dite (dec_le n v.made) (λ le. le) (λ nle. absurd (two (sym theirs.own ∙ (p.unused n (inr (omega arith))).0))) in
    let holder : ℕ → ℕ = assigned q.holder n j in
    let row : Joined = record { number = w.number; sent = w.sent } in
    let knows : Knows P W holder j (both v w) = record {
      own = assigned_either q.holder n j v.number mine.own;
      sent = mine.sent;
      polls = λ _. record {
        first = p.first;
        polled_is = p.polled_is;
        unused = λ m u. let h = p.unused m u in (assigned_either q.holder n j m h.0, h.1);
        joined = λ k s e. ⊎_elim (λ old. let h = p.joined k s old in (h.0, h.1, assigned_either q.holder n j s.number h.2, h.3))
            (λ is. subst (λ (t : Joined). (t.number ≢ 1) × (t.number ≤ v.made) × (holder t.number ≡ j) × (t.sent ≡ through t.number (P ++ W))) is (differ, made, assigned_here q.holder n j, theirs.sent))
            (at_snoc v.joined row s k e);
      };
    } in record {
      polled = P;
      waiting = W;
      holder = holder;
      waits = q.waits;
      kept = q.kept;
      each = λ i u e pos. ⊎_elim (λ h. absurd (let z : 0 ≡ u.number = ap (λ (y : View). y.number) h.1 in omega arith))
          (λ h. ⊎_elim (λ g. there P W holder i j (both v w) u g.0 g.1 knows)
          (λ g. later P W P W q.holder holder i u (λ m at_i. (assigned_else q.holder n j m (apart q.holder i o n m at_i theirs.own h.0) ∙ at_i, refl)) (λ _. refl) (q.each i u g.1 pos))
          (at_set views j i (both v w) u h.1))
          (at_set vs o i spent u e);
    }

-- what a pass learns
pub learns : (j : ℕ) (v : View) → Learns Queued j v (λ items. Stood items v)
learns j v items views q at = (views, j, q, at)

-- a new queue
pub opens : Queued [] (first_view ∷ [])
opens = record {
  polled = [];
  waiting = [];
  holder = λ _. 0;
  waits = refl;
  kept = refl;
  each = λ i u e pos. ⊎_elim (λ h. absurd (some-ne-none u (sym h)))
      (λ h. there [] [] (λ _. 0) i 0 first_view u h.0 h.1 record {
        own = refl;
        sent = refl;
        polls = λ _. record { first = omega arith; polled_is = refl; unused = λ q n. (refl, refl); joined = λ k r e. absurd (some-ne-none r (sym e)) };
      })
      (at_end [] first_view u i e);
}
