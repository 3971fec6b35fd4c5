-- The sections of a state that runs alone are its own.
use Rattle.std.specs.Prelude.{⊤, nat_lt}
use Rattle.std.proofs.Common.{◌≡◌, ◌∙◌, ℕ, zero, suc, ◌+◌, ◌-◌, ◌<◌, ◌≤◌, Bool, true, false, cond, List, [], ◌∷◌, ◌++◌, length, Option, Some, None, refl, sym, ap, subst, arith, append-nil}
use Rattle.love_base.specs.declared.stamp.Stamp.{Stamp}
use Rattle.variant.specs.declared.message.Variant.{Variant}
use Rattle.variant.specs.declared.ask.Ask.{Ask}
use Rattle.variant.specs.declared.ask.Ask.TheVariants.{Push, Supply, Pop, Peek, Count, HasRead, Clear, Demand, Await, Enter, Leave}
use Rattle.variant.specs.declared.reply.Reply.{Reply}
use Rattle.variant.specs.declared.reply.Reply.TheVariants.{Done, Refused}
use Rattle.variant.specs.declared.reply.Refusal.TheVariants.{Full}
use Rattle.variant.specs.declared.action.Deed.{Deed}
use Rattle.variant.specs.declared.action.Deed.TheVariants.{Asked, CutLeave}
use Rattle.channel_core.specs.declared.entry.Entry.{Entry}
use Rattle.channel_core.specs.declared.entry.Change.{Change}
use Rattle.channel_core.specs.declared.entry.Change.TheVariants.{Put, Take, Clear as Cleared, Enter as Entering, Leave as Leaving}
use Rattle.channel_core.specs.History.{holder, queue}
use Rattle.channel_core.specs.Lawful.{NumbersBelow, entry_limit}
use Rattle.channel_core.specs.Answers.{Answer, answer, answer_to, answer_within, only, adds, popped, peeked, cleared, demanded, left, holds, keeps_out}
use Rattle.channel_core.proofs.Histories.{holder-push}
use Rattle.channel_core.proofs.Lawfulness.{NumbersBelow-weaker, NumbersBelow-push}
use Rattle.channel_desk.specs.Deeds.{entries_by}
use Rattle.lua_state.specs.Solo.{Met, depth_after}
use Rattle.lua_state.specs.Kept.{IsOpen, IsOwn}

abbrev change_in : Option Answer → Option Change
change_in None = None
change_in (Some a) = a.change

abbrev reply_in : Option Answer → Reply
reply_in None = Done
reply_in (Some a) = a.reply

-- changes that leave a Channel to whose it is
abbrev pub Quiet : Option Change → Type 0
Quiet None = ⊤
Quiet (Some (Put message)) = ⊤
Quiet (Some Take) = ⊤
Quiet (Some Cleared) = ⊤
Quiet (Some Entering) = ⊥
Quiet (Some Leaving) = ⊥

-- what a deed may do to a Channel and to how many sections are open there
pub data Turn (depth : ℕ) : Option Change → ℕ → Type 0 where
  stays : (change : Option Change) → Quiet change → Turn depth change depth
  inner : (after : ℕ) → 0 < depth → 0 < after → after ≤ depth + 1 → Turn depth None after
  enters : depth ≡ 0 → Turn depth (Some Entering) (depth + 1)
  leaves : Turn depth (Some Leaving) 0

-- asks that begin and end no section
abbrev IsStill : Ask → Type 0
IsStill (Enter number) = ⊥
IsStill (Leave number) = ⊥
IsStill ask = ⊤

none_some : {X : Type 0} (x : X) → None ≡ Some x → ⊥
none_some x e = cc

same_some : {X : Type 0} (x y : X) → Some x ≡ Some y → x ≡ y
same_some x y e = cc

module _ (x : Answer) where
  of_only : (reply : Reply) → only reply ≡ Some x → Quiet x.change
  of_only reply e = subst Quiet (ap change_in e) tt

  of_room : (b : Bool) (reply : Reply) (change : Change) → Quiet (Some change) → cond b (adds reply change) (only (Refused Full)) ≡ Some x → Quiet x.change
  of_room true reply change quiet e = subst Quiet (ap change_in e) quiet
  of_room false reply change quiet e = of_only (Refused Full) e

  of_popped : (h : List Entry) (q : List Variant) → popped h q ≡ Some x → Quiet x.change
  of_popped h [] e = subst Quiet (ap change_in e) tt
  of_popped h (m ∷ ms) e = of_room (nat_lt (length h) entry_limit) _ Take tt e

  of_peeked : (q : List Variant) → peeked q ≡ Some x → Quiet x.change
  of_peeked [] e = subst Quiet (ap change_in e) tt
  of_peeked (m ∷ ms) e = subst Quiet (ap change_in e) tt

  of_cleared : (h : List Entry) (q : List Variant) → cleared h q ≡ Some x → Quiet x.change
  of_cleared h [] e = subst Quiet (ap change_in e) tt
  of_cleared h (m ∷ ms) e = of_room (nat_lt (length h) entry_limit) _ Cleared tt e

  of_demanded : (h : List Entry) (inside : Bool) (q : List Variant) → demanded h inside q ≡ Some x → Quiet x.change
  of_demanded h true [] e = subst Quiet (ap change_in e) tt
  of_demanded h false [] e = absurd (none_some x e)
  of_demanded h inside (m ∷ ms) e = of_room (nat_lt (length h) entry_limit) _ Take tt e

  of_await : (b : Bool) (reply : Reply) → cond b (only reply) None ≡ Some x → Quiet x.change
  of_await true reply e = of_only reply e
  of_await false reply e = absurd (none_some x e)

  still : (ask : Ask) (inside : Bool) (depth : ℕ) (h : List Entry) → IsStill ask → answer_to ask inside depth h ≡ Some x → Quiet x.change
  still (Push n m) inside depth h is e = of_room (nat_lt (length h) entry_limit) _ (Put m) tt e
  still (Supply n m) true depth h is e = of_only _ e
  still (Supply n m) false depth h is e = of_room (nat_lt (length h) entry_limit) _ (Put m) tt e
  still (Pop n) inside depth h is e = of_popped h (queue h) e
  still (Peek n) inside depth h is e = of_peeked (queue h) e
  still (Count n) inside depth h is e = of_only _ e
  still (HasRead n id) inside depth h is e = of_only _ e
  still (Clear n) inside depth h is e = of_cleared h (queue h) e
  still (Demand n limit) inside depth h is e = of_demanded h inside (queue h) e
  still (Await n id limit) inside depth h is e = of_await _ _ e
  still (Enter n) inside depth h is e = absurd is
  still (Leave n) inside depth h is e = absurd is
  still ask inside depth h is e = absurd (none_some x e)

  -- an answer stands in the table, by whether the state holds the Channel
  pub within : (deed : Deed) (depth : ℕ) (h : List Entry) → answer deed 0 depth h ≡ Some x → answer_within deed (holds (holder h) 0) depth h ≡ Some x
  within deed depth h e = on (keeps_out (holder h) 0) e
    where
      on : (b : Bool) → cond b None (answer_within deed (holds (holder h) 0) depth h) ≡ Some x → answer_within deed (holds (holder h) 0) depth h ≡ Some x
      on true e = absurd (none_some x e)
      on false e = e

  module _ (m : Met) (k : ℕ) (own : IsOwn k m) where
    -- the state holds a Channel just where a section is open
    open_where : holds (holder m.entries) 0 ≡ true → 0 < m.depth
    open_where e = on m.depth refl
      where
        on : (d : ℕ) → m.depth ≡ d → 0 < d
        on zero z = absurd (no (sym (ap (λ (held : Option ℕ). holds held 0) (own.outside z)) ∙ e))
          where
            no : false ≡ true → ⊥
            no e = cc
        on (suc d) z = omega arith

    closed_where : holds (holder m.entries) 0 ≡ false → m.depth ≡ 0
    closed_where e = on m.depth refl
      where
        on : (d : ℕ) → m.depth ≡ d → d ≡ 0
        on zero z = refl
        on (suc d) z = absurd (no (sym (ap (λ (held : Option ℕ). holds held 0) (own.inside (rw z (omega arith)))) ∙ e))
          where
            no : true ≡ false → ⊥
            no e = cc

    enter_turn : (n : ℕ) (b : Bool) → holds (holder m.entries) 0 ≡ b → answer_to (Enter n) b m.depth m.entries ≡ Some x → Turn m.depth x.change (depth_after m.depth (Asked (Enter n)) x.reply)
    enter_turn n true e s = subst (λ (a : Answer). Turn m.depth a.change (depth_after m.depth (Asked (Enter n)) a.reply)) (same_some _ x s) (inner (m.depth + 1) (open_where e) (omega arith) (omega arith))
    enter_turn n false e s = on (nat_lt (length m.entries) entry_limit) s
      where
        on : (b : Bool) → cond b (adds Done Entering) (only (Refused Full)) ≡ Some x → Turn m.depth x.change (depth_after m.depth (Asked (Enter n)) x.reply)
        on true s = subst (λ (a : Answer). Turn m.depth a.change (depth_after m.depth (Asked (Enter n)) a.reply)) (same_some _ x s) (enters (closed_where e))
        on false s = subst (λ (a : Answer). Turn m.depth a.change (depth_after m.depth (Asked (Enter n)) a.reply)) (same_some _ x s) (stays None tt)

  leave_turn : (n depth : ℕ) → left depth ≡ Some x → Turn depth x.change (depth_after depth (Asked (Leave n)) x.reply)
  leave_turn n zero s = absurd (none_some x s)
  leave_turn n (suc zero) s = subst (λ (a : Answer). Turn 1 a.change (depth_after 1 (Asked (Leave n)) a.reply)) (same_some _ x s) leaves
  leave_turn n (suc (suc d)) s = subst (λ (a : Answer). Turn (suc (suc d)) a.change (depth_after (suc (suc d)) (Asked (Leave n)) a.reply)) (same_some _ x s) (inner (suc (suc d) - 1) (omega arith) (omega arith) (omega arith))

  cut_turn : (n depth : ℕ) (b : Bool) → cond b (adds Done Leaving) None ≡ Some x → Turn depth x.change 0
  cut_turn n depth true s = subst (λ (a : Answer). Turn depth a.change 0) (same_some _ x s) leaves
  cut_turn n depth false s = absurd (none_some x s)

  -- what each deed does
  turn_asked : (k : ℕ) (m : Met) → IsOwn k m → (ask : Ask) → answer_to ask (holds (holder m.entries) 0) m.depth m.entries ≡ Some x → Turn m.depth x.change (depth_after m.depth (Asked ask) x.reply)
  turn_asked k m own (Push n v) s = stays x.change (still (Push n v) (holds (holder m.entries) 0) m.depth m.entries tt s)
  turn_asked k m own (Supply n v) s = stays x.change (still (Supply n v) (holds (holder m.entries) 0) m.depth m.entries tt s)
  turn_asked k m own (Pop n) s = stays x.change (still (Pop n) (holds (holder m.entries) 0) m.depth m.entries tt s)
  turn_asked k m own (Peek n) s = stays x.change (still (Peek n) (holds (holder m.entries) 0) m.depth m.entries tt s)
  turn_asked k m own (Count n) s = stays x.change (still (Count n) (holds (holder m.entries) 0) m.depth m.entries tt s)
  turn_asked k m own (HasRead n id) s = stays x.change (still (HasRead n id) (holds (holder m.entries) 0) m.depth m.entries tt s)
  turn_asked k m own (Clear n) s = stays x.change (still (Clear n) (holds (holder m.entries) 0) m.depth m.entries tt s)
  turn_asked k m own (Demand n limit) s = stays x.change (still (Demand n limit) (holds (holder m.entries) 0) m.depth m.entries tt s)
  turn_asked k m own (Await n id limit) s = stays x.change (still (Await n id limit) (holds (holder m.entries) 0) m.depth m.entries tt s)
  turn_asked k m own (Enter n) s = enter_turn m k own n (holds (holder m.entries) 0) refl s
  turn_asked k m own (Leave n) s = leave_turn n m.depth s
  turn_asked k m own ask s = absurd (none_some x s)

  pub turn_of : (k : ℕ) (m : Met) → IsOwn k m → (deed : Deed) → IsOpen deed → answer deed 0 m.depth m.entries ≡ Some x → Turn m.depth x.change (depth_after m.depth deed x.reply)
  turn_of k m own (Asked ask) is s = turn_asked k m own ask (within (Asked ask) m.depth m.entries s)
  turn_of k m own (CutLeave n) is s = cut_turn n m.depth (holds (holder m.entries) 0) (within (CutLeave n) m.depth m.entries s)
  turn_of k m own deed is s = absurd is

-- ---- a Channel after one more entry

module _ (k : ℕ) (m : Met) (by : Stamp) (state : by.state ≡ 0) (number : by.number ≡ k + 1) (own : IsOwn k m) where
  below_more : (change : Option Change) → NumbersBelow (k + 1 + 1) (m.entries ++ entries_by by change)
  below_more None = rw (append-nil m.entries) (NumbersBelow-weaker m.entries (k + 1) (k + 1 + 1) own.below (omega arith))
  below_more (Some change) = NumbersBelow-push m.entries (record { by = by; what = change }) (k + 1 + 1) (NumbersBelow-weaker m.entries (k + 1) (k + 1 + 1) own.below (omega arith)) (omega arith)

  holder_same : (change : Option Change) → Quiet change → holder (m.entries ++ entries_by by change) ≡ holder m.entries
  holder_same None quiet = ap holder (append-nil m.entries)
  holder_same (Some (Put v)) quiet = holder-push m.entries (record { by = by; what = Put v })
  holder_same (Some Take) quiet = holder-push m.entries (record { by = by; what = Take })
  holder_same (Some Cleared) quiet = holder-push m.entries (record { by = by; what = Cleared })
  holder_same (Some Entering) quiet = absurd quiet
  holder_same (Some Leaving) quiet = absurd quiet

  pub own_more : (change : Option Change) (after : ℕ) → Turn m.depth change after → IsOwn (k + 1) (record { entries = m.entries ++ entries_by by change; depth = after })
  own_more change after (stays c quiet) = record {
    outside = λ z. holder_same c quiet ∙ own.outside z;
    inside = λ lt. holder_same c quiet ∙ own.inside lt;
    below = below_more c;
    deep = (let d = own.deep in omega arith);
  }
  own_more change after (inner a was now le) = record {
    outside = λ z. absurd (no z);
    inside = λ lt. holder_same None tt ∙ own.inside was;
    below = below_more None;
    deep = (let d = own.deep in omega arith);
  }
    where
      no : a ≡ 0 → ⊥
      no z = omega arith
  own_more change after (enters none) = record {
    outside = λ z. absurd (no z);
    inside = λ lt. holder-push m.entries (record { by = by; what = Entering }) ∙ ap (λ (n : ℕ). Some n) state;
    below = below_more (Some Entering);
    deep = (let d = own.deep in omega arith);
  }
    where
      no : m.depth + 1 ≡ 0 → ⊥
      no z = omega arith
  own_more change after leaves = record {
    outside = λ z. holder-push m.entries (record { by = by; what = Leaving });
    inside = λ lt. absurd (no lt);
    below = below_more (Some Leaving);
    deep = omega arith;
  }
    where
      no : 0 < 0 → ⊥
      no z = omega arith
