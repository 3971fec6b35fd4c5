-- Which replies of a Channel are messages, and that they are its first.
use Rattle.std.specs.Prelude.{nat_lt, nat_le, slice_get}
use Rattle.std.proofs.Common.{◌≡◌, ℕ, Bool, true, false, cond, zero, suc, List, [], ◌∷◌, length, Option, Some, None, Result, Ok, ap, subst}
use Rattle.love_base.specs.declared.memory.Memory.{Memory}
use Rattle.love_base.specs.declared.stamp.Stamp.{Stamp}
use Rattle.variant.specs.declared.message.Variant.{Variant}
use Rattle.variant.specs.declared.ask.Ask.{Ask}
use Rattle.variant.specs.declared.ask.Ask.TheVariants.{Push, Supply, Pop, Peek, Count, HasRead, Clear, Demand, Await, Enter, Leave}
use Rattle.variant.specs.declared.reply.Reply.{Reply}
use Rattle.variant.specs.declared.reply.Reply.TheVariants.{Done, Nothing, Flag, Id, Value, Refused}
use Rattle.variant.specs.declared.reply.Refusal.TheVariants.{Full}
use Rattle.variant.specs.declared.action.Deed.TheVariants.{Asked}
use Rattle.channel_core.specs.declared.entry.Entry.{Entry}
use Rattle.channel_core.specs.declared.entry.Change.{Change}
use Rattle.channel_core.specs.declared.entry.Change.TheVariants.{Put, Take, Clear as Cleared, Enter as Entering}
use Rattle.channel_core.specs.History.{holder, queue, front, received}
use Rattle.channel_core.specs.Lawful.{entry_limit}
use Rattle.channel_core.specs.Answers.{Answer, answer, answer_to, answer_within, only, adds, popped, peeked, cleared, demanded, left, holds, keeps_out}
use Rattle.channel_desk.specs.declared.given.Given.{Given}
use Rattle.channel_desk.specs.Deeds.{Comes}
use Rattle.lua_state.specs.Answered.{GivesAt, IsChannelAsk, IsFrontFor, IsRepeatable}

-- what an ask gives, said of an equal one
pub gives_same : (a b : Ask) (by : Stamp) (depth : ℕ) (before after : List Entry) (r : Result (Option Given) Memory) → a ≡ b → GivesAt a by depth before after r → GivesAt b by depth before after r
gives_same a b by depth before after r e gives = subst (λ (x : Ask). GivesAt x by depth before after r) e gives

abbrev reply_in : Option Answer → Reply
reply_in None = Done
reply_in (Some a) = a.reply

-- an answer is one that stands in the table, inside or outside
pub stands_within : (ask : Ask) (state depth : ℕ) (h : List Entry) (x : Answer) → answer (Asked ask) state depth h ≡ Some x → (inside : Bool) × (answer_to ask inside depth h ≡ Some x)
stands_within ask state depth h x e = (holds (holder h) state, on (keeps_out (holder h) state) e)
  where
    on : (b : Bool) → cond b None (answer_within (Asked ask) (holds (holder h) state) depth h) ≡ Some x → answer_to ask (holds (holder h) state) depth h ≡ Some x
    on true e = absurd (none e)
      where
        none : None ≡ Some x → ⊥
        none e = cc
    on false e = e

module _ (found : Option Variant) (x : Answer) where
  of_only : (reply : Reply) → IsRepeatable found reply → only reply ≡ Some x → IsRepeatable found x.reply
  of_only reply here e = subst (IsRepeatable found) (ap reply_in e) here

  of_room : (b : Bool) (reply : Reply) (change : Change) → IsRepeatable found reply → cond b (adds reply change) (only (Refused Full)) ≡ Some x → IsRepeatable found x.reply
  of_room true reply change here e = subst (IsRepeatable found) (ap reply_in e) here
  of_room false reply change here e = of_only (Refused Full) tt e

  of_popped : (h : List Entry) (q : List Variant) → found ≡ slice_get q 0 → popped h q ≡ Some x → IsRepeatable found x.reply
  of_popped h [] here e = of_only Nothing tt e
  of_popped h (m ∷ ms) here e = of_room (nat_lt (length h) entry_limit) (Value m) Take here e

  of_peeked : (q : List Variant) → found ≡ slice_get q 0 → peeked q ≡ Some x → IsRepeatable found x.reply
  of_peeked [] here e = of_only Nothing tt e
  of_peeked (m ∷ ms) here e = of_only (Value m) here e

  of_cleared : (h : List Entry) (q : List Variant) → cleared h q ≡ Some x → IsRepeatable found x.reply
  of_cleared h [] e = of_only Done tt e
  of_cleared h (m ∷ ms) e = of_room (nat_lt (length h) entry_limit) Done Cleared tt e

  of_demanded : (h : List Entry) (inside : Bool) (q : List Variant) → found ≡ slice_get q 0 → demanded h inside q ≡ Some x → IsRepeatable found x.reply
  of_demanded h true [] here e = of_only _ tt e
  of_demanded h false [] here e = absurd (none e)
    where
      none : None ≡ Some x → ⊥
      none e = cc
  of_demanded h inside (m ∷ ms) here e = of_room (nat_lt (length h) entry_limit) (Value m) Take here e

  of_await : (b : Bool) → cond b (only (Flag true)) None ≡ Some x → IsRepeatable found x.reply
  of_await true e = of_only (Flag true) tt e
  of_await false e = absurd (none e)
    where
      none : None ≡ Some x → ⊥
      none e = cc

  of_left : (depth : ℕ) → left depth ≡ Some x → IsRepeatable found x.reply
  of_left zero e = absurd (none e)
    where
      none : None ≡ Some x → ⊥
      none e = cc
  of_left (suc zero) e = subst (IsRepeatable found) (ap reply_in e) tt
  of_left (suc (suc depth)) e = of_only Done tt e

  of_ask : (ask : Ask) (inside : Bool) (depth : ℕ) (h : List Entry) → IsChannelAsk ask → IsFrontFor ask found (front h) → answer_to ask inside depth h ≡ Some x → IsRepeatable found x.reply
  of_ask (Push n m) inside depth h ask here e = of_room (nat_lt (length h) entry_limit) (Id _) (Put m) tt e
  of_ask (Supply n m) true depth h ask here e = of_only _ tt e
  of_ask (Supply n m) false depth h ask here e = of_room (nat_lt (length h) entry_limit) (Id _) (Put m) tt e
  of_ask (Pop n) inside depth h ask here e = of_popped h (queue h) here e
  of_ask (Peek n) inside depth h ask here e = of_peeked (queue h) here e
  of_ask (Count n) inside depth h ask here e = of_only _ tt e
  of_ask (HasRead n id) inside depth h ask here e = of_only _ tt e
  of_ask (Clear n) inside depth h ask here e = of_cleared h (queue h) e
  of_ask (Demand n limit) inside depth h ask here e = of_demanded h inside (queue h) here e
  of_ask (Await n id limit) inside depth h ask here e = of_await (nat_le id (received h)) e
  of_ask (Enter n) true depth h ask here e = of_only Done tt e
  of_ask (Enter n) false depth h ask here e = of_room (nat_lt (length h) entry_limit) Done Entering tt e
  of_ask (Leave n) inside depth h ask here e = of_left depth e
  of_ask ask inside depth h none here e = absurd none

-- what is given twice may be: its message, if it is one, is there already
pub repeatable : (ask : Ask) (by : Stamp) (depth : ℕ) (h after : List Entry) (r : Result (Option Given) Memory) (given : Given) (found : Option Variant) → IsChannelAsk ask → IsFrontFor ask found (front h) → GivesAt ask by depth h after r → r ≡ Ok (Some given) → IsRepeatable found given.reply
repeatable ask by depth h after r given found is here gives e =
    let came : Comes (Asked ask) by depth h after given = subst (GivesAt ask by depth h after) e gives in
    let stands = stands_within ask by.state depth h (record { reply = given.reply; change = came.change }) came.answered in
    of_ask found (record { reply = given.reply; change = came.change }) ask stands.0 depth h is here stands.1
