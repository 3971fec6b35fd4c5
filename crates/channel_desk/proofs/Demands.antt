-- A demand takes what a pop takes, and waits where a pop gives nothing.
use Rattle.std.proofs.Common.{◌≡◌, ◌≢◌, ◌∙◌, ℕ, suc, ◌<◌, ◌≤◌, Bool, true, false, cond, List, [], ◌∷◌, ◌++◌, append-nil, length, Option, Some, None, refl, sym, ap, subst, arith, nat_lt, ◌⊎◌, inl, inr}
use Rattle.love_base.specs.declared.stamp.Stamp.{Stamp}
use Rattle.variant.specs.declared.message.Variant.{Variant}
use Rattle.variant.specs.declared.ask.Ask.TheVariants.{Pop, Demand}
use Rattle.variant.specs.declared.reply.Reply.{Reply}
use Rattle.variant.specs.declared.reply.Reply.TheVariants.{Nothing, Value, Refused}
use Rattle.variant.specs.declared.reply.Refusal.TheVariants.{Full, WouldWaitInside}
use Rattle.variant.specs.declared.action.Deed.TheVariants.{Asked}
use Rattle.channel_core.specs.declared.entry.Entry.{Entry}
use Rattle.channel_core.specs.declared.entry.Change.{Change}
use Rattle.channel_core.specs.declared.entry.Change.TheVariants.{Take}
use Rattle.channel_core.specs.History.{holder, queue}
use Rattle.channel_core.specs.Lawful.{entry_limit}
use Rattle.channel_core.specs.Answers.{Answer, answer, only, adds, popped, demanded, holds}
use Rattle.channel_core.proofs.Answering.{answer-admitted}
use Rattle.channel_desk.specs.declared.given.Given.{Given}
use Rattle.channel_desk.specs.Deeds.{IsPlaced, Comes, entries_by}
use Rattle.channel_desk.proofs.Coming.{admitted, inside_same}

abbrev reply_in : Option Answer → Reply
reply_in None = Nothing
reply_in (Some a) = a.reply

abbrev change_in : Option Answer → Option Change
change_in None = None
change_in (Some a) = a.change

no_value : (m : Variant) → Value m ≡ Nothing → ⊥
no_value m e = cc

no_full : Refused Full ≡ Nothing → ⊥
no_full e = cc

with_value : (b : Bool) (m : Variant) → reply_in (cond b (adds (Value m) Take) (only (Refused Full))) ≢ Nothing
with_value true m e = no_value m e
with_value false m e = no_full e

-- a pop that gives something is a demand
pub popped_demand : (h : List Entry) (inside : Bool) (q : List Variant) (a : Answer) → popped h q ≡ Some a → a.reply ≢ Nothing → demanded h inside q ≡ Some a
popped_demand h inside [] a e some = absurd (some (sym (ap reply_in e)))
popped_demand h inside (m ∷ ms) a e some = e

-- and one that gives nothing finds no message
pub popped_nothing : (h : List Entry) (q : List Variant) (a : Answer) → popped h q ≡ Some a → a.reply ≡ Nothing → (q ≡ []) × (a.change ≡ None)
popped_nothing h [] a e none = (refl, sym (ap change_in e))
popped_nothing h (m ∷ ms) a e none = absurd (with_value (nat_lt (length h) entry_limit) m (ap reply_in e ∙ none))

module _ (channel : ℕ) (limit : Option ℕ) (by : Stamp) (depth : ℕ) (before after : List Entry) (given : Given) where
  -- the message that a pop takes is demanded
  pub comes_demand : IsPlaced before by depth → given.reply ≢ Nothing → Comes (Asked (Pop channel)) by depth before after given → Comes (Asked (Demand channel limit)) by depth before after given
  comes_demand placed some came = record {
    change = came.change;
    answered = answer-admitted (Asked (Demand channel limit)) by.state depth before (admitted before by depth placed)
        ∙ popped_demand before (holds (holder before) by.state) (queue before) (record { reply = given.reply; change = came.change }) (sym (answer-admitted (Asked (Pop channel)) by.state depth before (admitted before by depth placed)) ∙ came.answered) some;
    history = came.history;
    changed = came.changed;
  }

  -- nothing is changed by a pop that finds none
  pub pop_same : IsPlaced before by depth → given.reply ≡ Nothing → Comes (Asked (Pop channel)) by depth before after given → (queue before ≡ []) × (after ≡ before)
  pop_same placed none came =
      let found = popped_nothing before (queue before) (record { reply = given.reply; change = came.change }) (sym (answer-admitted (Asked (Pop channel)) by.state depth before (admitted before by depth placed)) ∙ came.answered) none in
      (found.0, came.history ∙ (ap (λ (c : Option Change). before ++ entries_by by c) found.1 ∙ append-nil before))

  -- inside the state's own section, a demand that finds no message is refused
  pub comes_refused : (refused : Given) → IsPlaced before by depth → 0 < depth → given.reply ≡ Nothing → refused.reply ≡ Refused WouldWaitInside → refused.changed ≡ false → Comes (Asked (Pop channel)) by depth before after given → Comes (Asked (Demand channel limit)) by depth before after refused
  comes_refused refused placed deep none reply unchanged came = let same = pop_same placed none came in record {
    change = None;
    answered = inside_same (Asked (Demand channel limit)) by.state depth before (placed.inside deep) ∙ (ap (λ (q : List Variant). demanded before true q) same.0 ∙ ap (λ (r : Reply). only r) (sym reply));
    history = same.1 ∙ sym (append-nil before);
    changed = unchanged;
  }

nothing_or_not : (r : Reply) → (r ≡ Nothing) ⊎ (r ≢ Nothing)
nothing_or_not Nothing = inl refl
nothing_or_not r = inr (λ e. let f : r ≡ Nothing = e in cc)

-- what a demand in the state's own section comes to
pub comes_inside : (channel : ℕ) (limit : Option ℕ) (by : Stamp) (depth : ℕ) (before after : List Entry) (given made : Given) → IsPlaced before by depth → 0 < depth → (given.reply ≢ Nothing → made ≡ given) → (given.reply ≡ Nothing → (made.reply ≡ Refused WouldWaitInside) × (made.changed ≡ false))
    → Comes (Asked (Pop channel)) by depth before after given → Comes (Asked (Demand channel limit)) by depth before after made
comes_inside channel limit by depth before after given made placed deep some none came = on (nothing_or_not given.reply)
  where
    on : (given.reply ≡ Nothing) ⊎ (given.reply ≢ Nothing) → Comes (Asked (Demand channel limit)) by depth before after made
    on (inl e) = let n = none e in comes_refused channel limit by depth before after given made placed deep e n.0 n.1 came
    on (inr there) = subst (Comes (Asked (Demand channel limit)) by depth before after) (sym (some there)) (comes_demand channel limit by depth before after given placed there came)
