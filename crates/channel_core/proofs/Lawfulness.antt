-- Which entries keep a history lawful, and what every lawful history has.
use Rattle.std.proofs.Common.{◌≡◌, ◌≢◌, ◌↔◌, ℕ, ◌+◌, ◌<◌, ◌≤◌, Bool, false, IsTrue, List, [], ◌∷◌, ◌++◌, length, Option, Some, None, sym, subst, ◌∙◌, inl, inr, arith, length-append}
use Rattle.std.specs.Prelude.{IfSome}
use Rattle.std.proofs.lemmas.Bool.{cases_lt, false≢true}
use Rattle.std.proofs.lemmas.List.Elements.{All-nil, All-push, All-weaker}
use Rattle.variant.proofs.Histories.{by_entries, AtEach-before, AtEach-last}
use Rattle.love_base.specs.declared.stamp.Stamp.{Stamp}
use Rattle.channel_core.specs.declared.entry.Entry.{Entry}
use Rattle.channel_core.specs.declared.entry.Change.{Change}
use Rattle.channel_core.specs.declared.entry.Change.TheVariants.{Put, Take, Clear, Enter, Leave}
use Rattle.channel_core.specs.History.{Counts, counts_after, counts, sent, received, holder, leave_by}
use Rattle.channel_core.specs.Lawful.{entry_limit, FindsMessage, FindsSection, FindsRoom, IsAdmitted, IsLater, NumbersBelow, MayFollow, HasMessages, IsLawful}
use Rattle.channel_core.proofs.Histories.{counts-push, holder-push, waits-lt}

pub HasMessages-lawful : (h : List Entry) → IsLawful h → HasMessages h
HasMessages-lawful h lawful = λ before e after same. (lawful before e after same).message

-- what `HasMessages` says of each entry
abbrev pub Finds : List Entry → Entry → Type 0
Finds before e = FindsMessage before e.what

-- no more messages are received than sent
pub received-le-sent : (h : List Entry) → HasMessages h → received h ≤ sent h
received-le-sent = by_entries (λ h. HasMessages h → received h ≤ sent h) (λ _. omega arith) (λ h e earlier each. step h e (earlier (AtEach-before Finds h (e ∷ []) each)) (AtEach-last Finds h e each))
  where
    after_change : (h : List Entry) (c : Change) → received h ≤ sent h → FindsMessage h c → (counts_after (counts h) c).received ≤ (counts_after (counts h) c).sent
    after_change h (Put m) below finds = omega arith
    after_change h Take below finds = omega (arith, waits-lt h finds)
    after_change h Clear below finds = omega arith
    after_change h Enter below finds = below
    after_change h Leave below finds = below

    step : (h : List Entry) (e : Entry) → received h ≤ sent h → FindsMessage h e.what → received (h ++ e ∷ []) ≤ sent (h ++ e ∷ [])
    step h e below finds = subst (λ (n : Counts). n.received ≤ n.sent) (sym (counts-push h e)) (after_change h e.what below finds)

-- a lawful history has at most one entry more than the limit, which then ended a section
pub length-lawful : (h : List Entry) → IsLawful h → (length h ≤ entry_limit + 1) × (holder h ≢ None → length h ≤ entry_limit)
length-lawful = by_entries
    (λ h. IsLawful h → (length h ≤ entry_limit + 1) × (holder h ≢ None → length h ≤ entry_limit))
    (λ _. (omega arith, λ _. omega arith))
    (λ h e earlier lawful. step h e (earlier (AtEach-before MayFollow h (e ∷ []) lawful)) (AtEach-last MayFollow h e lawful))
  where
    -- a change that needs room leaves at most as many entries as the limit
    below : (h : List Entry) (e : Entry) → length h < entry_limit → (length (h ++ e ∷ []) ≤ entry_limit + 1) × (holder (h ++ e ∷ []) ≢ None → length (h ++ e ∷ []) ≤ entry_limit)
    below h e room = (omega (arith, length-append h (e ∷ [])), λ _. omega (arith, length-append h (e ∷ [])))

    after_leave : (h : List Entry) (by : Stamp) → (length h ≤ entry_limit + 1) × (holder h ≢ None → length h ≤ entry_limit) → holder h ≡ Some by.state → (length (h ++ leave_by by ∷ []) ≤ entry_limit + 1) × (holder (h ++ leave_by by ∷ []) ≢ None → length (h ++ leave_by by ∷ []) ≤ entry_limit)
    after_leave h by earlier held =
        let is_held : holder h ≢ None = λ none. absurd (cc) in
        (omega (arith, length-append h (leave_by by ∷ []), earlier.1 is_held), λ open'. absurd (open' (holder-push h (leave_by by))))

    step : (h : List Entry) (e : Entry) → (length h ≤ entry_limit + 1) × (holder h ≢ None → length h ≤ entry_limit) → MayFollow h e → (length (h ++ e ∷ []) ≤ entry_limit + 1) × (holder (h ++ e ∷ []) ≢ None → length (h ++ e ∷ []) ≤ entry_limit)
    step h e earlier may = by_change e.what may.room may.section
      where
        by_change : (c : Change) → FindsRoom h c → FindsSection h e.by.state c → (length (h ++ record e { what = c } ∷ []) ≤ entry_limit + 1) × (holder (h ++ record e { what = c } ∷ []) ≢ None → length (h ++ record e { what = c } ∷ []) ≤ entry_limit)
        by_change (Put m) room section = below h _ room
        by_change Take room section = below h _ room
        by_change Clear room section = below h _ room
        by_change Enter room section = below h _ room
        by_change Leave room section = after_leave h e.by earlier section

-- a test of the limit, where it says no
pub room_below : (h : List Entry) (full : Bool) → (IsTrue full ↔ (entry_limit ≤ length h)) → full ≡ false → length h < entry_limit
room_below h full says test = elim (cases_lt (length h) entry_limit) [
  | inl below ↦ below
  | inr above ↦ absurd (false≢true (sym test ∙ says.1 above))
]

-- a number above all others is above those of its state
pub IsLater-below : (h : List Entry) (by : Stamp) → NumbersBelow by.number h → IsLater h by
IsLater-below h by below = All-weaker (λ (e : Entry). e.by.number < by.number) (λ (e : Entry). e.by.state ≡ by.state → e.by.number < by.number) (λ e less _. less) h below

pub NumbersBelow-nil : (n : ℕ) → NumbersBelow n []
NumbersBelow-nil n = All-nil (λ (e : Entry). e.by.number < n)

pub NumbersBelow-weaker : (h : List Entry) (n m : ℕ) → NumbersBelow n h → n ≤ m → NumbersBelow m h
NumbersBelow-weaker h n m below rises = All-weaker (λ (e : Entry). e.by.number < n) (λ (e : Entry). e.by.number < m) (λ e less. omega arith) h below

pub NumbersBelow-push : (h : List Entry) (e : Entry) (n : ℕ) → NumbersBelow n h → e.by.number < n → NumbersBelow n (h ++ e ∷ [])
NumbersBelow-push h e n below here = All-push (λ (e : Entry). e.by.number < n) h e below here

-- where no state holds the Channel, each is admitted
pub IsAdmitted-free : (h : List Entry) (state : ℕ) → holder h ≡ None → IsAdmitted h state
IsAdmitted-free h state free = let P : Option ℕ → Type 0 = λ held. IfSome held (λ other. other ≡ state) in subst P (sym free) tt
