-- What is kept of a state's sections, by its actions alone.
use Rattle.std.specs.Prelude.{⊤, is_some, nat_lt, All}
use Rattle.std.proofs.Common.{◌≡◌, ◌∙◌, ℕ, zero, suc, ◌+◌, ◌<◌, Bool, true, false, cond, List, [], ◌∷◌, ◌++◌, length, Option, Some, None, refl, sym, ap, subst, arith, length-append, ◌⊎◌, inl, inr}
use mathlib.Core.Logic.{dite}
use native.Mathlib.Decide.{ℕ_discrete}
use Rattle.variant.specs.Histories.{AtEach}
use Rattle.variant.proofs.Histories.{by_entries, AtEach-before, AtEach-last}
use Rattle.variant.specs.declared.ask.Ask.{Ask}
use Rattle.variant.specs.declared.ask.Ask.TheVariants.{Push, Supply, Pop, Peek, Count, HasRead, Clear, Demand, Await, Enter, Leave}
use Rattle.variant.specs.declared.reply.Reply.{Reply}
use Rattle.variant.specs.declared.reply.Reply.TheVariants.{Done, Refused}
use Rattle.variant.specs.declared.reply.Refusal.TheVariants.{Full}
use Rattle.variant.specs.declared.action.Action.{Action}
use Rattle.variant.specs.declared.action.Deed.{Deed}
use Rattle.variant.specs.declared.action.Deed.TheVariants.{Asked, CutLeave}
use Rattle.channel_core.specs.declared.entry.Entry.{Entry}
use Rattle.channel_core.specs.declared.entry.Change.{Change}
use Rattle.channel_core.specs.declared.entry.Change.TheVariants.{Enter as Entering, Leave as Leaving}
use Rattle.channel_core.specs.History.{holder}
use Rattle.channel_core.specs.Lawful.{entry_limit}
use Rattle.channel_core.specs.Answers.{Answer, answer, answer_to, only, adds, left, holds}
use Rattle.channel_core.proofs.Lawfulness.{NumbersBelow-weaker, NumbersBelow-nil}
use Rattle.turn_desk.proofs.Lists.{all_front, all_last}
use Rattle.channel_desk.specs.declared.given.Given.{Given}
use Rattle.channel_desk.specs.Deeds.{entries_by}
use Rattle.lua_state.specs.Solo.{Met, unmet, met_more, channel_after, change_in, depth_after, held_after, left_from, stamp_of, object_of, object_of_ask, held_with, on_channel, answer_there, IsDone}
use Rattle.lua_state.specs.Kept.{IsOpen, IsOwn, IsSound, one_if_open, times}
use Rattle.lua_state.proofs.Growing.{channel-here, channel-else, held-more}
use Rattle.lua_state.proofs.Lists.{times-push, times-other, times-left, times-left_other}
use Rattle.lua_state.proofs.Owning.{Turn, stays, inner, enters, leaves, Quiet, turn_of, own_more, within}
use Rattle.lua_state.proofs.Tables.{comes_there, done_by}

-- the answer behind what is given at a Channel
pub record Found (m : Met) (deed : Deed) (given : Given) : Type 0 where
  pub found : Answer
  pub stands : answer deed 0 m.depth m.entries ≡ Some found
  pub reply : given.reply ≡ found.reply
  pub changed : given.changed ≡ is_some found.change

pub found_there : (m : Met) (deed : Deed) (given : Given) → answer_there m deed ≡ Some given → Found m deed given
found_there m deed given e = of (answer deed 0 m.depth m.entries) refl e
  where
    of : (a : Option Answer) → answer deed 0 m.depth m.entries ≡ a → on_channel a ≡ Some given → Found m deed given
    of None is e = absurd (none e)
      where
        none : None ≡ Some given → ⊥
        none e = cc
    of (Some x) is e = record { found = x; stands = is; reply = sym (ap (λ (g : Given). g.reply) (same e)); changed = sym (ap (λ (g : Given). g.changed) (same e)) }
      where
        same : Some (record { reply = x.reply; changed = is_some x.change }) ≡ Some given → record { reply = x.reply; changed = is_some x.change } ≡ given
        same e = cc

-- a Channel after an action there that is done
pub met_found : (m : Met) (a : Action) (given : Given) → (f : Found m a.deed given) → a.reply ≡ given.reply → met_more m a ≡ record { entries = m.entries ++ entries_by (stamp_of a) f.found.change; depth = depth_after m.depth a.deed f.found.reply }
met_found m a given f replied = rw (f.stands, replied, f.reply) refl

-- ---- one action more

weaker : (k : ℕ) (m : Met) → IsOwn k m → IsOwn (k + 1) m
weaker k m own = record { outside = own.outside; inside = own.inside; below = NumbersBelow-weaker m.entries (k + 1) (k + 1 + 1) own.below (omega arith); deep = (let d = own.deep in omega arith) }

own_first : IsOwn 0 unmet
own_first = record { outside = λ z. refl; inside = λ lt. absurd (no lt); below = NumbersBelow-nil 1; deep = omega arith }
  where
    no : 0 < 0 → ⊥
    no lt = omega arith

abbrev IsStill : Ask → Type 0
IsStill (Enter number) = ⊥
IsStill (Leave number) = ⊥
IsStill ask = ⊤

none_some : {X : Type 0} (x : X) → None ≡ Some x → ⊥
none_some x e = cc

zero_less : 0 < 0 → ⊥
zero_less lt = omega arith

pub positive : (d : ℕ) → 0 < d → one_if_open d ≡ 1
positive zero lt = absurd (zero_less lt)
positive (suc d) lt = refl

-- what a turn without a change, with a beginning and with an end leaves open
open_none : (depth after : ℕ) (change : Option Change) → change ≡ None → Turn depth change after → one_if_open after ≡ one_if_open depth
open_none depth after change e (stays c quiet) = refl
open_none depth after change e (inner a was now le) = positive a now ∙ sym (positive depth was)
open_none depth after change e (enters none) = absurd (no e)
  where
    no : Some Entering ≡ None → ⊥
    no e = cc
open_none depth after change e leaves = absurd (no e)
  where
    no : Some Leaving ≡ None → ⊥
    no e = cc

open_enter : (depth after : ℕ) (change : Option Change) → change ≡ Some Entering → Turn depth change after → (depth ≡ 0) × (after ≡ 1)
open_enter depth after change e (stays c quiet) = absurd (subst Quiet e quiet)
open_enter depth after change e (inner a was now le) = absurd (none_some Entering e)
open_enter depth after change e (enters none) = (none, omega arith)
open_enter depth after change e leaves = absurd (no e)
  where
    no : Some Leaving ≡ Some Entering → ⊥
    no e = cc

open_leave : (depth after : ℕ) (change : Option Change) → change ≡ Some Leaving → Turn depth change after → after ≡ 0
open_leave depth after change e (stays c quiet) = absurd (subst Quiet e quiet)
open_leave depth after change e (inner a was now le) = absurd (none_some Leaving e)
open_leave depth after change e (enters none) = absurd (no e)
  where
    no : Some Entering ≡ Some Leaving → ⊥
    no e = cc
open_leave depth after change e leaves = refl

-- the change of a beginning and of an end
module _ (x : Answer) where
  only_none : (reply : Reply) → only reply ≡ Some x → x.change ≡ None
  only_none reply e = sym (ap change_in e)

  enter_room : (b : Bool) → cond b (adds Done Entering) (only (Refused Full)) ≡ Some x → (x.change ≡ None) ⊎ (x.change ≡ Some Entering)
  enter_room true e = inr (sym (ap change_in e))
  enter_room false e = inl (only_none (Refused Full) e)

  enter_change : (n depth : ℕ) (h : List Entry) (b : Bool) → answer_to (Enter n) b depth h ≡ Some x → (x.change ≡ None) ⊎ (x.change ≡ Some Entering)
  enter_change n depth h true e = inl (only_none Done e)
  enter_change n depth h false e = enter_room (nat_lt (length h) entry_limit) e

  leave_change : (depth : ℕ) → left depth ≡ Some x → (x.change ≡ None) ⊎ (x.change ≡ Some Leaving)
  leave_change zero e = absurd (none_some x e)
  leave_change (suc zero) e = inr (sym (ap change_in e))
  leave_change (suc (suc d)) e = inl (only_none Done e)

  cut_change : (b : Bool) → cond b (adds Done Leaving) None ≡ Some x → x.change ≡ Some Leaving
  cut_change true e = sym (ap change_in e)
  cut_change false e = absurd (none_some x e)

still_depth : (ask : Ask) → IsStill ask → (depth : ℕ) (reply : Reply) → depth_after depth (Asked ask) reply ≡ depth
still_depth (Push n m) is depth reply = refl
still_depth (Supply n m) is depth reply = refl
still_depth (Pop n) is depth reply = refl
still_depth (Peek n) is depth reply = refl
still_depth (Count n) is depth reply = refl
still_depth (HasRead n id) is depth reply = refl
still_depth (Clear n) is depth reply = refl
still_depth (Demand n limit) is depth reply = refl
still_depth (Await n id limit) is depth reply = refl
still_depth (Enter n) is depth reply = absurd is
still_depth (Leave n) is depth reply = absurd is
still_depth ask is depth reply = refl

still_held : (ask : Ask) → IsStill ask → (held : List ℕ) → held_with held (Asked ask) ≡ held
still_held (Push n m) is held = refl
still_held (Supply n m) is held = refl
still_held (Pop n) is held = refl
still_held (Peek n) is held = refl
still_held (Count n) is held = refl
still_held (HasRead n id) is held = refl
still_held (Clear n) is held = refl
still_held (Demand n limit) is held = refl
still_held (Await n id limit) is held = refl
still_held (Enter n) is held = absurd is
still_held (Leave n) is held = absurd is
still_held ask is held = refl

held_unless : (changed : Bool) (held after : List ℕ) → after ≡ held → cond changed after held ≡ held
held_unless true held after e = e
held_unless false held after e = refl

-- the list of what is held, for the Channel of the deed
module _ (number : ℕ) (held : List ℕ) (m : Met) (listed : times number held ≡ one_if_open m.depth) (x : Answer) where
  listed_still : (ask : Ask) → IsStill ask → (changed : Bool) → times number (cond changed (held_with held (Asked ask)) held) ≡ one_if_open (depth_after m.depth (Asked ask) x.reply)
  listed_still ask is changed = ap (times number) (held_unless changed held _ (still_held ask is held)) ∙ (listed ∙ ap one_if_open (sym (still_depth ask is m.depth x.reply)))

  listed_enter : (n : ℕ) → n ≡ number → (changed : Bool) → changed ≡ is_some x.change → Turn m.depth x.change (depth_after m.depth (Asked (Enter n)) x.reply) → (x.change ≡ None) ⊎ (x.change ≡ Some Entering)
      → times number (cond changed (held ++ n ∷ []) held) ≡ one_if_open (depth_after m.depth (Asked (Enter n)) x.reply)
  listed_enter n same changed e turn (inl none) = ap (λ (b : Bool). times number (cond b (held ++ n ∷ []) held)) (e ∙ ap is_some none) ∙ (listed ∙ sym (open_none m.depth _ x.change none turn))
  listed_enter n same changed e turn (inr entered) =
      let found = open_enter m.depth _ x.change entered turn in
      ap (λ (b : Bool). times number (cond b (held ++ n ∷ []) held)) (e ∙ ap is_some entered)
      ∙ (ap (λ (k : ℕ). times number (held ++ k ∷ [])) same ∙ (times-push number held ∙ (ap suc (listed ∙ ap one_if_open found.0) ∙ ap one_if_open (sym found.1))))

  listed_leave : (n after : ℕ) → n ≡ number → (changed : Bool) → changed ≡ is_some x.change → Turn m.depth x.change after → (x.change ≡ None) ⊎ (x.change ≡ Some Leaving)
      → times number (cond changed (left_from n held) held) ≡ one_if_open after
  listed_leave n after same changed e turn (inl none) = ap (λ (b : Bool). times number (cond b (left_from n held) held)) (e ∙ ap is_some none) ∙ (listed ∙ sym (open_none m.depth after x.change none turn))
  listed_leave n after same changed e turn (inr went) =
      ap (λ (b : Bool). times number (cond b (left_from n held) held)) (e ∙ ap is_some went)
      ∙ (ap (λ (k : ℕ). times number (left_from k held)) same ∙ (times-left number held ∙ ap one_if_open (sym (open_leave m.depth after x.change went turn))))

  listed_asked : (k : ℕ) → IsOwn k m → (ask : Ask) → object_of_ask ask ≡ number → (changed : Bool) → changed ≡ is_some x.change → answer_to ask (holds (holder m.entries) 0) m.depth m.entries ≡ Some x → Turn m.depth x.change (depth_after m.depth (Asked ask) x.reply)
      → times number (cond changed (held_with held (Asked ask)) held) ≡ one_if_open (depth_after m.depth (Asked ask) x.reply)
  listed_asked k own (Push n v) same changed e s turn = listed_still (Push n v) tt changed
  listed_asked k own (Supply n v) same changed e s turn = listed_still (Supply n v) tt changed
  listed_asked k own (Pop n) same changed e s turn = listed_still (Pop n) tt changed
  listed_asked k own (Peek n) same changed e s turn = listed_still (Peek n) tt changed
  listed_asked k own (Count n) same changed e s turn = listed_still (Count n) tt changed
  listed_asked k own (HasRead n id) same changed e s turn = listed_still (HasRead n id) tt changed
  listed_asked k own (Clear n) same changed e s turn = listed_still (Clear n) tt changed
  listed_asked k own (Demand n limit) same changed e s turn = listed_still (Demand n limit) tt changed
  listed_asked k own (Await n id limit) same changed e s turn = listed_still (Await n id limit) tt changed
  listed_asked k own (Enter n) same changed e s turn = listed_enter n same changed e turn (enter_change x n m.depth m.entries (holds (holder m.entries) 0) s)
  listed_asked k own (Leave n) same changed e s turn = listed_leave n _ same changed e turn (leave_change x m.depth s)
  listed_asked k own ask same changed e s turn = absurd (none_some x s)

  listed_here : (k : ℕ) → IsOwn k m → (deed : Deed) → IsOpen deed → object_of deed ≡ number → (changed : Bool) → changed ≡ is_some x.change → answer deed 0 m.depth m.entries ≡ Some x → times number (cond changed (held_with held deed) held) ≡ one_if_open (depth_after m.depth deed x.reply)
  listed_here k own (Asked ask) is same changed e s = listed_asked k own ask same changed e (within x (Asked ask) m.depth m.entries s) (turn_of x k m own (Asked ask) is s)
  listed_here k own (CutLeave n) is same changed e s = listed_leave n 0 same changed e (turn_of x k m own (CutLeave n) is s) (inr (cut_change x (holds (holder m.entries) 0) (within x (CutLeave n) m.depth m.entries s)))
  listed_here k own deed is same changed e s = absurd is

-- and for another one
module _ (number : ℕ) (held : List ℕ) where
  other_asked : (ask : Ask) → (object_of_ask ask ≡ number → ⊥) → times number (held_with held (Asked ask)) ≡ times number held
  other_asked (Push n v) ne = refl
  other_asked (Supply n v) ne = refl
  other_asked (Pop n) ne = refl
  other_asked (Peek n) ne = refl
  other_asked (Count n) ne = refl
  other_asked (HasRead n id) ne = refl
  other_asked (Clear n) ne = refl
  other_asked (Demand n limit) ne = refl
  other_asked (Await n id limit) ne = refl
  other_asked (Enter n) ne = times-other number n held ne
  other_asked (Leave n) ne = times-left_other number n held ne
  other_asked ask ne = refl

  other_deed : (deed : Deed) → IsOpen deed → (object_of deed ≡ number → ⊥) → times number (held_with held deed) ≡ times number held
  other_deed (Asked ask) is ne = other_asked ask ne
  other_deed (CutLeave n) is ne = times-left_other number n held ne
  other_deed deed is ne = absurd is

  listed_else : (deed : Deed) → IsOpen deed → (object_of deed ≡ number → ⊥) → (changed : Bool) → times number (cond changed (held_with held deed) held) ≡ times number held
  listed_else deed is ne true = other_deed deed is ne
  listed_else deed is ne false = refl

-- ---- all actions

pub sound_more : (before : List Action) (a : Action) → IsDone before a → IsOpen a.deed → IsSound before → IsSound (before ++ a ∷ [])
sound_more before a is goes sound =
    let did = done_by before a is in
    let object : a.object ≡ object_of a.deed = sym (ap (λ (b : Action). b.object) did.2) in
    let count : length (before ++ a ∷ []) ≡ length before + 1 = length-append before (a ∷ []) in
    record {
      own = λ n range. rw count (dite (ℕ_discrete a.object n)
          (λ (here : a.object ≡ n). let m = channel_after before n in let f = found_there m a.deed did.0 (sym (comes_there before a.deed n (sym object ∙ here) range) ∙ did.1) in
          rw (channel-here before a n here, met_found m a did.0 f (sym (ap (λ (b : Action). b.reply) did.2)))
          (own_more (length before) m (stamp_of a) refl (sym (ap (λ (b : Action). b.number) did.2)) (sound.own n range) f.found.change _ (turn_of f.found (length before) m (sound.own n range) a.deed goes f.stands)))
          (λ other. rw (channel-else before a n other) (weaker (length before) (channel_after before n) (sound.own n range))));
      listed = λ n range. ap (times n) (held-more before a) ∙ dite (ℕ_discrete a.object n)
          (λ (here : a.object ≡ n). let m = channel_after before n in let f = found_there m a.deed did.0 (sym (comes_there before a.deed n (sym object ∙ here) range) ∙ did.1) in
          listed_here n (held_after before) m (sound.listed n range) f.found (length before) (sound.own n range) a.deed goes (sym object ∙ here) a.changed (sym (ap (λ (b : Action). b.changed) did.2) ∙ f.changed) f.stands
          ∙ ap (λ (c : Met). one_if_open c.depth) (sym (channel-here before a n here ∙ met_found m a did.0 f (sym (ap (λ (b : Action). b.reply) did.2)))))
          (λ other. listed_else n (held_after before) a.deed goes (λ same. other (object ∙ same)) a.changed ∙ (sound.listed n range ∙ ap (λ (c : Met). one_if_open c.depth) (sym (channel-else before a n other))));
    }

pub sound : (actions : List Action) → AtEach IsDone actions → All (λ a. IsOpen a.deed) actions → IsSound actions
sound actions = by_entries (λ (l : List Action). AtEach IsDone l → All (λ a. IsOpen a.deed) l → IsSound l)
    (λ done goes. record { own = λ n range. own_first; listed = λ n range. refl })
    (λ l a sofar done goes. sound_more l a (AtEach-last IsDone l a done) (last l a goes) (sofar (AtEach-before IsDone l (a ∷ []) done) (all_front (λ (b : Action). IsOpen b.deed) l a goes)))
    actions
  where
    last : (l : List Action) (a : Action) → All (λ b. IsOpen b.deed) (l ++ a ∷ []) → IsOpen a.deed
    last l a goes = all_last (λ (b : Action). IsOpen b.deed) l a goes
