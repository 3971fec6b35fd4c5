-- What the calls of a Channel come to as deeds of a state.
use Rattle.std.proofs.Common.{◌≡◌, ◌∙◌, ℕ, zero, suc, ◌<◌, Bool, true, false, not, cond, List, [], ◌∷◌, ◌++◌, Option, Some, None, Result, Ok, Err, refl, sym, ap, subst, arith, append-nil, eq-eqb}
use Rattle.std.specs.Prelude.{IfSome, OnOk, OnErr, slice_get}
use Rattle.love_base.specs.declared.memory.Memory.{Memory}
use Rattle.love_base.specs.declared.stamp.Stamp.{Stamp}
use Rattle.variant.specs.declared.message.Variant.{Variant}
use Rattle.variant.specs.declared.ask.Ask.{Ask}
use Rattle.variant.specs.declared.ask.Ask.TheVariants.{Push, Supply, Pop, Clear, Enter, Leave}
use Rattle.variant.specs.declared.reply.Reply.{Reply}
use Rattle.variant.specs.declared.reply.Reply.TheVariants.{Done, Nothing, Refused}
use Rattle.variant.specs.declared.reply.Refusal.TheVariants.{WouldWaitInside}
use Rattle.variant.specs.declared.action.Deed.{Deed}
use Rattle.variant.specs.declared.action.Deed.TheVariants.{Asked}
use Rattle.channel_core.specs.declared.entry.Change.{Change}
use Rattle.channel_core.specs.declared.entry.Entry.{Entry}
use Rattle.channel_core.specs.declared.entry.Change.TheVariants.{Leave as Leaving}
use Rattle.channel_core.specs.declared.fault.PutFault.{PutFault}
use Rattle.channel_core.specs.declared.fault.PutFault.TheVariants.{Full, Memory as OutOfMemory}
use Rattle.channel_core.specs.History.{put_by, take_by, clear_by, enter_by, leave_by, holder, queue, front}
use Rattle.channel_core.specs.Lawful.{IsAdmitted}
use Rattle.channel_core.specs.Taking.{IfTaken, UnlessTaken}
use Rattle.channel_core.specs.Answers.{Answer, answer, answer_within, only, adds, popped, cleared, left, holds, keeps_out}
use Rattle.channel_core.specs.Calls.{Answers, refused, put_answer, take_answer, wipe_answer, enter_answer, peek_answer}
use Rattle.channel_core.proofs.Answering.{answer-admitted}
use Rattle.channel_core.proofs.Lawfulness.{IsAdmitted-free}
use Rattle.channel_desk.specs.declared.given.Given.{Given}
use Rattle.channel_desk.specs.Deeds.{message_of, IsPlaced, Comes, Outcome, Stands, StandsOrNot, Appends}

abbrev an_answer : Reply → Option Change → Option Answer
an_answer reply change = Some (record { reply = reply; change = change })

-- an answer of a call, with its change added, is what the deed comes to
pub outcome_of : (ask : Ask) (by : Stamp) (depth : ℕ) (before after : List Entry) (a : Option Answer) (r : Result Given Memory) → Answers ask by.state before a → Appends by before after a → Stands a r → Outcome ask by depth before after r
outcome_of ask by depth before after None (Ok given) answers appends stands = absurd stands
outcome_of ask by depth before after None (Err memory) answers appends stands = appends
outcome_of ask by depth before after (Some a) (Ok given) answers appends stands = record {
  change = a.change;
  answered = answers depth ∙ ap (λ (reply : Reply). an_answer reply a.change) (sym stands.0);
  history = appends;
  changed = stands.1;
}
outcome_of ask by depth before after (Some a) (Err memory) answers appends stands = absurd stands

-- the same of an answer that changes nothing and may need memory
pub outcome_or_not : (ask : Ask) (by : Stamp) (depth : ℕ) (h : List Entry) (a : Option Answer) (r : Result Given Memory) → Answers ask by.state h a → Appends by h h a → StandsOrNot a r → Outcome ask by depth h h r
outcome_or_not ask by depth h a (Ok given) answers appends stands = outcome_of ask by depth h h a (Ok given) answers appends stands
outcome_or_not ask by depth h a (Err memory) answers appends stands = refl

nothing_added : (by : Stamp) (before after : List Entry) → after ≡ before → after ≡ before ++ []
nothing_added by before after e = e ∙ sym (append-nil before)

refused_appends : (by : Stamp) (before after : List Entry) (fault : PutFault) → after ≡ before → Appends by before after (refused fault)
refused_appends by before after Full e = nothing_added by before after e
refused_appends by before after OutOfMemory e = e

pub put_appends : (by : Stamp) (value : Variant) (before after : List Entry) (r : Result (ℕ × ℕ) (Variant × PutFault)) → OnOk r (after ≡ before ++ put_by by value ∷ []) → OnErr r (after ≡ before) → Appends by before after (put_answer value r)
put_appends by value before after (Ok given) entry same = entry
put_appends by value before after (Err given) entry same = refused_appends by before after given.1 same

pub take_appends : (by : Stamp) (before after : List Entry) (r : Result (Option (ℕ × ℕ × Variant)) PutFault) → IfTaken r (λ _. after ≡ before ++ take_by by ∷ []) → UnlessTaken r (after ≡ before) → Appends by before after (take_answer r)
take_appends by before after (Ok (Some given)) entry same = entry
take_appends by before after (Ok None) entry same = nothing_added by before after same
take_appends by before after (Err fault) entry same = refused_appends by before after fault same

pub wipe_appends : (by : Stamp) (before after : List Entry) (r : Result (Option ℕ) PutFault) → IfTaken r (λ _. after ≡ before ++ clear_by by ∷ []) → UnlessTaken r (after ≡ before) → Appends by before after (wipe_answer r)
wipe_appends by before after (Ok (Some place)) entry same = entry
wipe_appends by before after (Ok None) entry same = nothing_added by before after same
wipe_appends by before after (Err fault) entry same = refused_appends by before after fault same

pub enter_appends : (by : Stamp) (before after : List Entry) (r : Result ℕ PutFault) → OnOk r (after ≡ before ++ enter_by by ∷ []) → OnErr r (after ≡ before) → Appends by before after (enter_answer r)
enter_appends by before after (Ok place) entry same = entry
enter_appends by before after (Err fault) entry same = refused_appends by before after fault same

pub peek_appends : (by : Stamp) (h : List Entry) (found : Option Variant) → Appends by h h (peek_answer found)
peek_appends by h None = nothing_added by h h refl
peek_appends by h (Some message) = nothing_added by h h refl

-- a state that is nowhere inside, or inside its own section, is admitted
pub admitted : (h : List Entry) (by : Stamp) (depth : ℕ) → IsPlaced h by depth → IsAdmitted h by.state
admitted h by zero placed = IsAdmitted-free h by.state (placed.outside refl)
admitted h by (suc depth) placed = subst (λ (x : Option ℕ). IfSome x (λ (held : ℕ). held ≡ by.state)) (sym (placed.inside (omega arith))) refl

-- a reply without an entry
pub comes_only : (deed : Deed) (by : Stamp) (depth : ℕ) (h : List Entry) (given : Given) (reply : Reply) → answer deed by.state depth h ≡ only reply → given.reply ≡ reply → given.changed ≡ false → Comes deed by depth h h given
comes_only deed by depth h given reply answered same unchanged = record {
  change = None;
  answered = answered ∙ ap (λ (r : Reply). only r) (sym same);
  history = sym (append-nil h);
  changed = unchanged;
}

-- there is no message where there is no first one
none_first : (q : List Variant) → slice_get q 0 ≡ None → q ≡ []
none_first [] e = refl
none_first (m ∷ ms) e = absurd (no e)
  where
    no : Some m ≡ None → ⊥
    no e = cc

pub pop_nothing : (channel : ℕ) (by : Stamp) (depth : ℕ) (h : List Entry) → IsPlaced h by depth → front h ≡ None → answer (Asked (Pop channel)) by.state depth h ≡ only Nothing
pop_nothing channel by depth h placed none = answer-admitted (Asked (Pop channel)) by.state depth h (admitted h by depth placed) ∙ ap (λ (q : List Variant). popped h q) (none_first (queue h) none)

pub clear_nothing : (channel : ℕ) (by : Stamp) (depth : ℕ) (h : List Entry) → IsPlaced h by depth → front h ≡ None → answer (Asked (Clear channel)) by.state depth h ≡ only Done
clear_nothing channel by depth h placed none = answer-admitted (Asked (Clear channel)) by.state depth h (admitted h by depth placed) ∙ ap (λ (q : List Variant). cleared h q) (none_first (queue h) none)

-- what is answered inside, as the holder is this state
pub inside_same : (deed : Deed) (state depth : ℕ) (h : List Entry) → holder h ≡ Some state → answer deed state depth h ≡ answer_within deed true depth h
inside_same deed state depth h held =
    ap (λ (x : Option ℕ). cond (keeps_out x state) None (answer_within deed (holds x state) depth h)) held
    ∙ ap (λ (b : Bool). cond (not b) None (answer_within deed b depth h)) (eq-eqb state state refl)

pub enter_inside : (channel : ℕ) (state depth : ℕ) (h : List Entry) → holder h ≡ Some state → answer (Asked (Enter channel)) state depth h ≡ only Done
enter_inside channel state depth h held = inside_same (Asked (Enter channel)) state depth h held

pub supply_inside : (channel : ℕ) (value : Variant) (state depth : ℕ) (h : List Entry) → holder h ≡ Some state → answer (Asked (Supply channel value)) state depth h ≡ only (Refused WouldWaitInside)
supply_inside channel value state depth h held = inside_same (Asked (Supply channel value)) state depth h held

pub left_inner : (depth : ℕ) → 1 < depth → left depth ≡ only Done
left_inner zero deep = absurd (omega arith)
left_inner (suc zero) deep = absurd (omega arith)
left_inner (suc (suc outer)) deep = refl

pub leave_inner : (channel : ℕ) (state depth : ℕ) (h : List Entry) → holder h ≡ Some state → 1 < depth → answer (Asked (Leave channel)) state depth h ≡ only Done
leave_inner channel state depth h held deep = inside_same (Asked (Leave channel)) state depth h held ∙ left_inner depth deep

-- a message is supplied outside as it is pushed
supplied : (channel : ℕ) (value : Variant) (state depth : ℕ) (h : List Entry) → holder h ≡ None → answer (Asked (Supply channel value)) state depth h ≡ answer (Asked (Push channel value)) state depth h
supplied channel value state depth h none =
    ap (λ (x : Option ℕ). cond (keeps_out x state) None (answer_within (Asked (Supply channel value)) (holds x state) depth h)) none
    ∙ sym (ap (λ (x : Option ℕ). cond (keeps_out x state) None (answer_within (Asked (Push channel value)) (holds x state) depth h)) none)

pub supply_outcome : (channel : ℕ) (value : Variant) (by : Stamp) (depth : ℕ) (before after : List Entry) (r : Result Given Memory) → holder before ≡ None → Outcome (Push channel value) by depth before after r → Outcome (Supply channel value) by depth before after r
supply_outcome channel value by depth before after (Ok given) none came = record {
  change = came.change;
  answered = supplied channel value by.state depth before none ∙ came.answered;
  history = came.history;
  changed = came.changed;
}
supply_outcome channel value by depth before after (Err memory) none came = came

-- what the end of an outermost section comes to
pub comes_leave : (channel : ℕ) (by : Stamp) (depth : ℕ) (before after : List Entry) (given : Given) → depth ≡ 1 → answer (Asked (Leave channel)) by.state 1 before ≡ adds Done Leaving → after ≡ before ++ leave_by by ∷ [] → given.reply ≡ Done → given.changed ≡ true → Comes (Asked (Leave channel)) by depth before after given
comes_leave channel by depth before after given one answered entry reply changed = record {
  change = Some Leaving;
  answered = ap (λ (n : ℕ). answer (Asked (Leave channel)) by.state n before) one ∙ (answered ∙ ap (λ (r : Reply). adds r Leaving) (sym reply));
  history = entry;
  changed = changed;
}

-- the outcome of an ask, said of an equal one
pub outcome_same : (a b : Ask) (by : Stamp) (depth : ℕ) (before after : List Entry) (r : Result Given Memory) → a ≡ b → Outcome a by depth before after r → Outcome b by depth before after r
outcome_same a b by depth before after r e came = subst (λ (x : Ask). Outcome x by depth before after r) e came

-- the message that is handed in beside an ask is the one that it sends
pub push_sends : (ask : Ask) (message : Option Variant) (channel : ℕ) (sent value : Variant) → message ≡ message_of ask → ask ≡ Push channel sent → message ≡ Some value → Push channel value ≡ ask
push_sends ask message channel sent value is asked handed = let e : Some value ≡ Some sent = sym handed ∙ (is ∙ ap message_of asked) in cc

pub supply_sends : (ask : Ask) (message : Option Variant) (channel : ℕ) (sent value : Variant) → message ≡ message_of ask → ask ≡ Supply channel sent → message ≡ Some value → Supply channel value ≡ ask
supply_sends ask message channel sent value is asked handed = let e : Some value ≡ Some sent = sym handed ∙ (is ∙ ap message_of asked) in cc
