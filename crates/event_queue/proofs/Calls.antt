-- Of a row of calls through pass 1: what it keeps comes in order, and by later actions.
use Rattle.std.proofs.Common.{◌≡◌, ℕ, ◌+◌, ◌<◌, ◌≤◌, List, [], ◌∷◌, ◌++◌, sym, refl, ap, ◌∙◌, subst, arith, append_assoc, append-nil}
use Rattle.std.specs.Prelude.{◌==◌, if◌then◌else◌}
use Rattle.variant.specs.declared.event.Sent.{Sent}
use Rattle.event_queue.specs.Passes.{PassView, after_send}
use Rattle.event_queue.specs.Calls.{Call, sends, gives_front, gives_kept, finds_nothing, Numbered, Made, Went, onto_sent, sent_of, onto_given, given_of, AreBefore, AreRising, BearsIts, BearTheirs, IsLater, AreLater}

number_stays : (old new : PassView) (call : Call) → Made old call new → new.number ≡ old.number
number_stays old new (sends x) m = ap (λ (p : PassView). p.number) m
number_stays old new (gives_front x) m = m.0
number_stays old new (gives_kept x) m = m.0
number_stays old new finds_nothing m = m.0

-- pass 1 keeps what is sent
keeps : (old new : PassView) (x : Sent) → new ≡ after_send x old → old.number ≡ 1 → new.kept ≡ old.kept ++ x ∷ []
keeps old new x is first = ap (λ (p : PassView). p.kept) is
    ∙ subst (λ (n : ℕ). (if n == 1 then old.kept ++ x ∷ [] else old.kept) ≡ old.kept ++ x ∷ []) (sym first) refl

onward : (old new : PassView) (call : Call) (sent given rest : List Sent) → Made old call new → old.number ≡ 1
    → new.kept ++ sent ≡ given ++ rest → old.kept ++ onto_sent call sent ≡ onto_given call given ++ rest
onward old new (sends x) sent given rest m first e =
    sym (append_assoc old.kept (x ∷ []) sent) ∙ (ap (λ l. l ++ sent) (sym (keeps old new x m first)) ∙ e)
onward old new (gives_front x) sent given rest m first e = ap (λ l. l ++ sent) (sym m.1.1) ∙ e
onward old new (gives_kept x) sent given rest m first e = ap (λ l. l ++ sent) m.1.1 ∙ ap (λ l. x ∷ l) e
onward old new finds_nothing sent given rest m first e = ap (λ l. l ++ sent) (m.1.1 ∙ sym m.1.2) ∙ e

pub in_order : (old new : PassView) (calls : List Numbered) → Went old calls new → old.number ≡ 1
    → old.kept ++ sent_of calls ≡ given_of calls ++ new.kept
in_order old new [] w first = append-nil old.kept ∙ ap (λ (p : PassView). p.kept) (sym w)
in_order old new (c ∷ cs) (between, m, w) first =
    onward old between c.call (sent_of cs) (given_of cs) new.kept m first
    (in_order between new cs w (number_stays old between c.call m ∙ first))

pub none_waits : (old new next : PassView) (calls : List Numbered) → Went old calls new → old.number ≡ 1
    → Made new finds_nothing next → given_of calls ≡ old.kept ++ sent_of calls
none_waits old new next calls w first m =
    sym (in_order old new calls w first ∙ (ap (λ l. given_of calls ++ l) m.1.1 ∙ append-nil (given_of calls)))

before_more : (low high : ℕ) (xs : List Sent) → low ≤ high → AreBefore low xs → AreBefore high xs
before_more low high [] le before = tt
before_more low high (x ∷ xs) le before = (omega (arith, before.0, le), before_more low high xs le before.1)

before_both : (n : ℕ) (xs : List Sent) (x : Sent) → AreBefore n xs → x.number < n → AreBefore n (xs ++ x ∷ [])
before_both n [] x before lt = (lt, tt)
before_both n (y ∷ ys) x before lt = (before.0, before_both n ys x before.1 lt)

is_later : (old new : PassView) (call : Call) (low n : ℕ) → Made old call new → AreBefore low old.kept → low ≤ n → IsLater n call
is_later old new (sends x) low n m before le = tt
is_later old new (gives_front x) low n m before le = tt
is_later old new (gives_kept x) low n m before le =
    let b : AreBefore low (x ∷ new.kept) = subst (AreBefore low) m.1.1 before in omega (arith, b.0, le)
is_later old new finds_nothing low n m before le = tt

kept_before : (old new : PassView) (call : Call) (low n : ℕ) → Made old call new → old.number ≡ 1 → AreBefore low old.kept → low ≤ n
    → BearsIts n call → AreBefore (n + 1) new.kept
kept_before old new (sends x) low n m first before le bears = subst (AreBefore (n + 1)) (sym (keeps old new x m first))
    (before_both (n + 1) old.kept x (before_more low (n + 1) old.kept (omega (arith, le)) before) (omega (arith, bears)))
kept_before old new (gives_front x) low n m first before le bears =
    subst (AreBefore (n + 1)) (sym m.1.1) (before_more low (n + 1) old.kept (omega (arith, le)) before)
kept_before old new (gives_kept x) low n m first before le bears =
    let b : AreBefore low (x ∷ new.kept) = subst (AreBefore low) m.1.1 before in before_more low (n + 1) new.kept (omega (arith, le)) b.1
kept_before old new finds_nothing low n m first before le bears = subst (AreBefore (n + 1)) (sym m.1.2) tt

pub later : (old new : PassView) (low : ℕ) (calls : List Numbered) → Went old calls new → old.number ≡ 1 → AreBefore low old.kept
    → AreRising low calls → BearTheirs calls → AreLater calls
later old new low [] w first before rising bears = tt
later old new low (c ∷ cs) (between, m, w) first before rising bears = (
  is_later old between c.call low c.number m before rising.0,
  later between new (c.number + 1) cs w (number_stays old between c.call m ∙ first)
      (kept_before old between c.call low c.number m first before rising.0 bears.0) rising.1 bears.1,
)
