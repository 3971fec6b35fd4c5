-- Events cut down to those of one pass, and to those of one state.
use Rattle.std.proofs.Common.{◌≡◌, ◌≢◌, ℕ, ◌==◌, Bool, true, false, cond, List, [], ◌∷◌, ◌++◌, map, length, get_or, drop, sym, refl, ap, ◌∙◌, arith, eq-eqb, ne_eqb, append-nil, append_assoc}
use Rattle.std.proofs.lemmas.List.{map-append}
use mathlib.Core.Logic.{dite}
use native.Mathlib.Decide.{ℕ_discrete}
use Rattle.variant.specs.declared.event.Sent.{Sent}
use Rattle.event_queue.specs.Routes.{Routed, events, through, sent_by}

abbrev pub routed : ℕ → Sent → Routed
routed p x = record { pass = p; sent = x }

module _ {A : Type 0} where
  not_nil : (x : A) (l : List A) → [] ≢ x ∷ l
  not_nil x l e = let h = ap length e in absurd (omega arith)

  pub head_is : (x y : A) (l m : List A) → x ∷ l ≡ y ∷ m → x ≡ y
  head_is x y l m e = ap (λ (k : List A). get_or k 0 x) e

  pub tail_is : (x y : A) (l m : List A) → x ∷ l ≡ y ∷ m → l ≡ m
  tail_is x y l m e = ap (drop 1) e

  pub no_head : {B : Type 0} (x : A) (l : List A) → [] ≡ x ∷ l → B
  no_head x l e = absurd (not_nil x l e)

  cond_append : (b : Bool) (x : A) (l m : List A) → cond b (x ∷ (l ++ m)) (l ++ m) ≡ cond b (x ∷ l) l ++ m
  cond_append true x l m = refl
  cond_append false x l m = refl

  -- where an element may stand before a list, and nothing does, there is neither
  cond_rest : (b : Bool) (x : A) (l : List A) → cond b (x ∷ l) l ≡ [] → l ≡ []
  cond_rest true x l e = no_head x l (sym e)
  cond_rest false x l e = e

  cond_none : (b : Bool) (x : A) (l m : List A) → cond b (x ∷ l) m ≡ [] → b ≡ false
  cond_none true x l m e = no_head x l (sym e)
  cond_none false x l m e = refl

pub events_more : (rs : List Routed) (r : Routed) → events (rs ++ r ∷ []) ≡ events rs ++ r.sent ∷ []
events_more rs r = map-append (λ (q : Routed). q.sent) rs (r ∷ [])

pub through_both : (p : ℕ) (rs qs : List Routed) → through p (rs ++ qs) ≡ through p rs ++ through p qs
through_both p [] qs = refl
through_both p (r ∷ rs) qs = ap (λ (l : List Sent). cond (r.pass == p) (r.sent ∷ l) l) (through_both p rs qs) ∙ cond_append (r.pass == p) r.sent (through p rs) (through p qs)

through_own : (p : ℕ) (x : Sent) → through p (routed p x ∷ []) ≡ x ∷ []
through_own p x = ap (λ (b : Bool). cond b (x ∷ []) []) (eq-eqb p p refl)

through_other : (p q : ℕ) (x : Sent) → q ≢ p → through q (routed p x ∷ []) ≡ []
through_other p q x ne = ap (λ (b : Bool). cond b (x ∷ []) []) (ne_eqb p q (λ e. ne (sym e)))

pub through_rest : (p : ℕ) (r : Routed) (rs : List Routed) → through p (r ∷ rs) ≡ [] → through p rs ≡ []
through_rest p r rs e = cond_rest (r.pass == p) r.sent (through p rs) e

-- one more, behind all
pub behind_own : (p : ℕ) (x : Sent) (rs : List Routed) → through p (rs ++ routed p x ∷ []) ≡ through p rs ++ x ∷ []
behind_own p x rs = through_both p rs (routed p x ∷ []) ∙ ap (λ (l : List Sent). through p rs ++ l) (through_own p x)

pub behind_other : (p q : ℕ) (x : Sent) (rs : List Routed) → q ≢ p → through q (rs ++ routed p x ∷ []) ≡ through q rs
behind_other p q x rs ne = through_both q rs (routed p x ∷ []) ∙ (ap (λ (l : List Sent). through q rs ++ l) (through_other p q x ne) ∙ append-nil (through q rs))

pub last_own : (p : ℕ) (x : Sent) (rs qs : List Routed) → through p (rs ++ (qs ++ routed p x ∷ [])) ≡ through p (rs ++ qs) ++ x ∷ []
last_own p x rs qs = ap (through p) (sym (append_assoc rs qs (routed p x ∷ []))) ∙ behind_own p x (rs ++ qs)

pub last_other : (p q : ℕ) (x : Sent) (rs qs : List Routed) → q ≢ p → through q (rs ++ (qs ++ routed p x ∷ [])) ≡ through q (rs ++ qs)
last_other p q x rs qs ne = ap (through q) (sym (append_assoc rs qs (routed p x ∷ []))) ∙ behind_other p q x (rs ++ qs) ne

-- one more, between two parts
pub between_own : (p : ℕ) (x : Sent) (rs qs : List Routed) → through p qs ≡ [] → through p ((rs ++ routed p x ∷ []) ++ qs) ≡ through p (rs ++ qs) ++ x ∷ []
between_own p x rs qs none =
    through_both p (rs ++ routed p x ∷ []) qs
    ∙ (ap (λ (l : List Sent). through p (rs ++ routed p x ∷ []) ++ l) none
    ∙ (append-nil (through p (rs ++ routed p x ∷ []))
    ∙ (behind_own p x rs
    ∙ sym (ap (λ (l : List Sent). l ++ x ∷ []) (through_both p rs qs ∙ (ap (λ (l : List Sent). through p rs ++ l) none ∙ append-nil (through p rs)))))))

pub between_other : (p q : ℕ) (x : Sent) (rs qs : List Routed) → q ≢ p → through q ((rs ++ routed p x ∷ []) ++ qs) ≡ through q (rs ++ qs)
between_other p q x rs qs ne = through_both q (rs ++ routed p x ∷ []) qs ∙ (ap (λ (l : List Sent). l ++ through q qs) (behind_other p q x rs ne) ∙ sym (through_both q rs qs))

-- events kept in the pass p, behind all others
abbrev pub kept_as : ℕ → List Sent → List Routed
kept_as p xs = map (routed p) xs

pub kept_events : (p : ℕ) (xs : List Sent) → events (kept_as p xs) ≡ xs
kept_events p [] = refl
kept_events p (x ∷ xs) = ap (λ (l : List Sent). x ∷ l) (kept_events p xs)

pub kept_own : (p : ℕ) (xs : List Sent) → through p (kept_as p xs) ≡ xs
kept_own p [] = refl
kept_own p (x ∷ xs) = ap (λ (b : Bool). cond b (x ∷ through p (kept_as p xs)) (through p (kept_as p xs))) (eq-eqb p p refl) ∙ ap (λ (l : List Sent). x ∷ l) (kept_own p xs)

pub kept_other : (p q : ℕ) (xs : List Sent) → q ≢ p → through q (kept_as p xs) ≡ []
kept_other p q [] ne = refl
kept_other p q (x ∷ xs) ne = ap (λ (b : Bool). cond b (x ∷ through q (kept_as p xs)) (through q (kept_as p xs))) (ne_eqb p q (λ e. ne (sym e))) ∙ kept_other p q xs ne

-- a state's events, where all were sent through the pass p
sent_none : (s q : ℕ) (r : Routed) (rs : List Routed) → sent_by s (through q (r ∷ rs)) ≡ [] → sent_by s (through q rs) ≡ []
sent_none s q r rs e = dite (ℕ_discrete r.pass q)
    (λ same. cond_rest (r.sent.from == s) r.sent (sent_by s (through q rs)) (sym (ap (λ (b : Bool). sent_by s (cond b (r.sent ∷ through q rs) (through q rs))) (eq-eqb r.pass q same)) ∙ e))
    (λ ne. sym (ap (λ (b : Bool). sent_by s (cond b (r.sent ∷ through q rs) (through q rs))) (ne_eqb r.pass q ne)) ∙ e)

pub sent_through : (s p : ℕ) (rs : List Routed) → ((q : ℕ) → q ≢ p → sent_by s (through q rs) ≡ []) → sent_by s (events rs) ≡ sent_by s (through p rs)
sent_through s p [] only = refl
sent_through s p (r ∷ rs) only = let so_far = sent_through s p rs (λ q ne. sent_none s q r rs (only q ne)) in dite (ℕ_discrete r.pass p)
    (λ same. ap (λ (l : List Sent). cond (r.sent.from == s) (r.sent ∷ l) l) so_far ∙ sym (ap (λ (b : Bool). sent_by s (cond b (r.sent ∷ through p rs) (through p rs))) (eq-eqb r.pass p same)))
    (λ ne. let own : cond (r.sent.from == s) (r.sent ∷ sent_by s (through r.pass rs)) (sent_by s (through r.pass rs)) ≡ [] =
    sym (ap (λ (b : Bool). sent_by s (cond b (r.sent ∷ through r.pass rs) (through r.pass rs))) (eq-eqb r.pass r.pass refl)) ∙ only r.pass ne in
    ap (λ (b : Bool). cond b (r.sent ∷ sent_by s (events rs)) (sent_by s (events rs))) (cond_none (r.sent.from == s) r.sent (sent_by s (through r.pass rs)) (sent_by s (through r.pass rs)) own)
    ∙ (so_far ∙ sym (ap (λ (b : Bool). sent_by s (cond b (r.sent ∷ through p rs) (through p rs))) (ne_eqb r.pass p ne))))
