-- What a deed leaves of the section in which it is done, and of a Channel that is nobody's.
use Rattle.std.proofs.Common.{◌≡◌, ◌∙◌, ℕ, ◌+◌, ◌<◌, Bool, true, false, cond, nat_lt, is_some, List, [], ◌∷◌, ◌++◌, length, map, Option, Some, None, sym, ap, subst, arith, append-nil}
use Rattle.std.specs.Prelude.{⊤}
use Rattle.std.proofs.lemmas.List.{map-append}
use Rattle.std.proofs.lemmas.List.Elements.{All-push}
use Rattle.love_base.specs.declared.stamp.Stamp.{Stamp}
use Rattle.love_base.specs.Prefix.{IsPrefix}
use Rattle.variant.specs.declared.message.Variant.{Variant}
use Rattle.variant.specs.declared.ask.Ask.{Ask}
use Rattle.variant.specs.declared.ask.Ask.TheVariants.{Push, Supply, Pop, Peek, Clear, Enter, Leave}
use Rattle.variant.specs.declared.reply.Reply.{Reply}
use Rattle.variant.specs.declared.reply.Reply.TheVariants.{Done, Refused}
use Rattle.variant.specs.declared.reply.Refusal.TheVariants.{Full}
use Rattle.variant.specs.declared.action.Deed.{Deed}
use Rattle.variant.specs.declared.action.Deed.TheVariants.{Asked}
use Rattle.channel_core.specs.declared.entry.Entry.{Entry}
use Rattle.channel_core.specs.declared.entry.Change.{Change}
use Rattle.channel_core.specs.declared.entry.Change.TheVariants.{Put, Take, Clear as Cleared, Enter as Entering, Leave as Leaving}
use Rattle.channel_core.specs.History.{holder, queue}
use Rattle.channel_core.specs.Lawful.{IsLater, IsLawful, MayFollow, entry_limit}
use Rattle.variant.proofs.Histories.{AtEach-last}
use Rattle.channel_core.specs.Answers.{Answer, answer, answer_to, answer_within, only, adds, popped, peeked, cleared, holds, keeps_out}
use Rattle.channel_core.proofs.Histories.{holder-push}
use Rattle.channel_desk.specs.declared.given.Given.{Given}
use Rattle.channel_desk.specs.declared.shared.SharedEntry.TheVariants.{Channel as OnChannel}
use Rattle.channel_desk.specs.Deeds.{IsDeed, StaysInside, StaysOutside, Comes, entries_by}
use Rattle.channel_desk.proofs.Coming.{inside_same, left_inner}

-- changes that leave a Channel to whose it is
abbrev pub Quiet : Option Change → Type 0
Quiet None = ⊤
Quiet (Some (Put message)) = ⊤
Quiet (Some Take) = ⊤
Quiet (Some Cleared) = ⊤
Quiet (Some Entering) = ⊥
Quiet (Some Leaving) = ⊥

abbrev change_in : Option Answer → Option Change
change_in None = None
change_in (Some a) = a.change

only_quiet : (reply : Reply) (x : Answer) → only reply ≡ Some x → Quiet x.change
only_quiet reply x e = subst Quiet (ap change_in e) tt

room_quiet : (b : Bool) (reply : Reply) (change : Change) (x : Answer) → Quiet (Some change) → cond b (adds reply change) (only (Refused Full)) ≡ Some x → Quiet x.change
room_quiet true reply change x quiet e = subst Quiet (ap change_in e) quiet
room_quiet false reply change x quiet e = only_quiet (Refused Full) x e

popped_quiet : (h : List Entry) (q : List Variant) (x : Answer) → popped h q ≡ Some x → Quiet x.change
popped_quiet h [] x e = subst Quiet (ap change_in e) tt
popped_quiet h (m ∷ ms) x e = room_quiet (nat_lt (length h) entry_limit) _ Take x tt e

peeked_quiet : (q : List Variant) (x : Answer) → peeked q ≡ Some x → Quiet x.change
peeked_quiet [] x e = subst Quiet (ap change_in e) tt
peeked_quiet (m ∷ ms) x e = subst Quiet (ap change_in e) tt

cleared_quiet : (h : List Entry) (q : List Variant) (x : Answer) → cleared h q ≡ Some x → Quiet x.change
cleared_quiet h [] x e = subst Quiet (ap change_in e) tt
cleared_quiet h (m ∷ ms) x e = room_quiet (nat_lt (length h) entry_limit) _ Cleared x tt e

quiet_inside : (ask : Ask) (depth : ℕ) (h : List Entry) (x : Answer) → IsDeed ask → StaysInside ask depth → answer_to ask true depth h ≡ Some x → Quiet x.change
quiet_inside (Push channel message) depth h x deed stays e = room_quiet (nat_lt (length h) entry_limit) _ (Put message) x tt e
quiet_inside (Supply channel message) depth h x deed stays e = subst Quiet (ap change_in e) tt
quiet_inside (Pop channel) depth h x deed stays e = popped_quiet h (queue h) x e
quiet_inside (Peek channel) depth h x deed stays e = peeked_quiet (queue h) x e
quiet_inside (Clear channel) depth h x deed stays e = cleared_quiet h (queue h) x e
quiet_inside (Enter channel) depth h x deed stays e = subst Quiet (ap change_in e) tt
quiet_inside (Leave channel) depth h x deed stays e = subst Quiet (ap change_in (sym (left_inner depth stays) ∙ e)) tt
quiet_inside ask depth h x deed stays e = absurd deed

quiet_outside : (ask : Ask) (depth : ℕ) (h : List Entry) (x : Answer) → IsDeed ask → StaysOutside ask → answer_to ask false depth h ≡ Some x → Quiet x.change
quiet_outside (Push channel message) depth h x deed stays e = room_quiet (nat_lt (length h) entry_limit) _ (Put message) x tt e
quiet_outside (Supply channel message) depth h x deed stays e = room_quiet (nat_lt (length h) entry_limit) _ (Put message) x tt e
quiet_outside (Pop channel) depth h x deed stays e = popped_quiet h (queue h) x e
quiet_outside (Peek channel) depth h x deed stays e = peeked_quiet (queue h) x e
quiet_outside (Clear channel) depth h x deed stays e = cleared_quiet h (queue h) x e
quiet_outside (Enter channel) depth h x deed stays e = absurd stays
quiet_outside (Leave channel) depth h x deed stays e = absurd stays
quiet_outside ask depth h x deed stays e = absurd deed

kept_by : (by : Stamp) (h : List Entry) (change : Change) → Quiet (Some change) → holder (h ++ record { by = by; what = change } ∷ []) ≡ holder h
kept_by by h (Put message) quiet = holder-push h (record { by = by; what = Put message })
kept_by by h Take quiet = holder-push h (record { by = by; what = Take })
kept_by by h Cleared quiet = holder-push h (record { by = by; what = Cleared })
kept_by by h Entering quiet = absurd quiet
kept_by by h Leaving quiet = absurd quiet

kept_if : (by : Stamp) (h : List Entry) (change : Option Change) → Quiet change → holder (h ++ entries_by by change) ≡ holder h
kept_if by h None quiet = ap holder (append-nil h)
kept_if by h (Some change) quiet = kept_by by h change quiet

-- inside its section the Channel stays the state's
pub holder_inside : (ask : Ask) (by : Stamp) (depth : ℕ) (before after : List Entry) (given : Given) → IsDeed ask → StaysInside ask depth → holder before ≡ Some by.state → Comes (Asked ask) by depth before after given → holder after ≡ Some by.state
holder_inside ask by depth before after given deed stays held came =
    let quiet = quiet_inside ask depth before (record { reply = given.reply; change = came.change }) deed stays (sym (inside_same (Asked ask) by.state depth before held) ∙ came.answered) in
    ap holder came.history ∙ (kept_if by before came.change quiet ∙ held)

-- what is answered of a Channel that is nobody's
pub outside_same : (deed : Deed) (state depth : ℕ) (h : List Entry) → holder h ≡ None → answer deed state depth h ≡ answer_within deed false depth h
outside_same deed state depth h none = ap (λ (x : Option ℕ). cond (keeps_out x state) None (answer_within deed (holds x state) depth h)) none

-- a Channel that is nobody's stays so
pub holder_outside : (ask : Ask) (by : Stamp) (before after : List Entry) (given : Given) → IsDeed ask → StaysOutside ask → holder before ≡ None → Comes (Asked ask) by 0 before after given → holder after ≡ None
holder_outside ask by before after given deed stays none came =
    let quiet = quiet_outside ask 0 before (record { reply = given.reply; change = came.change }) deed stays (sym (outside_same (Asked ask) by.state 0 before none) ∙ came.answered) in
    ap holder came.history ∙ (kept_if by before came.change quiet ∙ none)

entering_or_not : (b : Bool) (x : Answer) → cond b (adds Done Entering) (only (Refused Full)) ≡ Some x → is_some x.change ≡ true → x.change ≡ Some Entering
entering_or_not true x e changed = ap change_in (sym e)
entering_or_not false x e changed = absurd (no (ap is_some (ap change_in e) ∙ changed))
  where
    no : false ≡ true → ⊥
    no e = cc

-- a section that was entered is the state's
pub holder_entered : (channel : ℕ) (by : Stamp) (before after : List Entry) (given : Given) → holder before ≡ None → given.changed ≡ true → Comes (Asked (Enter channel)) by 0 before after given → holder after ≡ Some by.state
holder_entered channel by before after given none changed came =
    let entering = entering_or_not (nat_lt (length before) entry_limit) (record { reply = given.reply; change = came.change }) (sym (outside_same (Asked (Enter channel)) by.state 0 before none) ∙ came.answered) (sym came.changed ∙ changed) in
    ap holder (came.history ∙ ap (λ (c : Option Change). before ++ entries_by by c) entering) ∙ holder-push before (record { by = by; what = Entering })

-- no entry was added
pub same_unchanged : (deed : Deed) (by : Stamp) (depth : ℕ) (before after : List Entry) (given : Given) → given.changed ≡ false → Comes deed by depth before after given → after ≡ before
same_unchanged deed by depth before after given unchanged came = came.history ∙ none came.change (sym came.changed ∙ unchanged)
  where
    none : (change : Option Change) → is_some change ≡ false → before ++ entries_by by change ≡ before
    none None e = append-nil before
    none (Some change) e = absurd (no e)
      where
        no : true ≡ false → ⊥
        no e = cc

-- the stamps of what was added
pub later_after : (deed : Deed) (by : Stamp) (depth : ℕ) (before after : List Entry) (given : Given) → IsLater before by → Comes deed by depth before after given → IsLater after (record { state = by.state; number = by.number + 1 })
later_after deed by depth before after given later came = subst (λ (h : List Entry). IsLater h (record { state = by.state; number = by.number + 1 })) (sym came.history) (each came.change)
  where
    weaker : IsLater before (record { state = by.state; number = by.number + 1 })
    weaker = λ k d lt e. let below = later k d lt e in omega arith

    each : (change : Option Change) → IsLater (before ++ entries_by by change) (record { state = by.state; number = by.number + 1 })
    each None = subst (λ (h : List Entry). IsLater h (record { state = by.state; number = by.number + 1 })) (sym (append-nil before)) weaker
    each (Some change) = All-push (λ (e : Entry). e.by.state ≡ by.state → e.by.number < by.number + 1) before (record { by = by; what = change }) weaker (λ e. omega arith)

-- what was added lies behind
pub grown_after : (deed : Deed) (by : Stamp) (depth : ℕ) (before after : List Entry) (given : Given) → Comes deed by depth before after given → IsPrefix (map OnChannel before) (map OnChannel after)
grown_after deed by depth before after given came = (map OnChannel (entries_by by came.change), ap (map OnChannel) came.history ∙ map-append OnChannel before (entries_by by came.change))

-- the stamp of an entry that was added is later than those before it
pub later_entered : (channel : ℕ) (by : Stamp) (before after : List Entry) (given : Given) → holder before ≡ None → given.changed ≡ true → IsLawful after → Comes (Asked (Enter channel)) by 0 before after given → IsLater after (record { state = by.state; number = by.number + 1 })
later_entered channel by before after given none changed lawful came =
    let entering = entering_or_not (nat_lt (length before) entry_limit) (record { reply = given.reply; change = came.change }) (sym (outside_same (Asked (Enter channel)) by.state 0 before none) ∙ came.answered) (sym came.changed ∙ changed) in
    let last : IsLawful (before ++ record { by = by; what = Entering } ∷ []) = subst IsLawful (came.history ∙ ap (λ (c : Option Change). before ++ entries_by by c) entering) lawful in
    later_after (Asked (Enter channel)) by 0 before after given (AtEach-last MayFollow before (record { by = by; what = Entering }) last).number came
