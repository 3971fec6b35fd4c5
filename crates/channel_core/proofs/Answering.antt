-- The table of answers, row by row.
use Rattle.std.proofs.Common.{◌≡◌, ℕ, ◌+◌, ◌-◌, ◌<◌, ◌≤◌, true, false, nat_lt, List, [], ◌∷◌, length, Option, Some, None, refl, sym, ap, ◌∙◌, arith}
use Rattle.std.specs.Prelude.{IfSome}
use Rattle.std.specs.List.{slice_get}
use Rattle.variant.specs.declared.message.Variant.{Variant}
use Rattle.variant.specs.declared.ask.Ask.TheVariants.{Push, Peek}
use Rattle.variant.specs.declared.reply.Reply.TheVariants.{Id, Refused}
use Rattle.variant.specs.declared.reply.Refusal.TheVariants.{Full}
use Rattle.variant.specs.declared.action.Deed.{Deed}
use Rattle.variant.specs.declared.action.Deed.TheVariants.{Asked}
use Rattle.channel_core.specs.declared.entry.Entry.{Entry}
use Rattle.channel_core.specs.declared.entry.Change.{Change}
use Rattle.channel_core.specs.declared.entry.Change.TheVariants.{Put}
use Rattle.variant.specs.declared.reply.Reply.{Reply}
use Rattle.channel_core.specs.History.{sent, queue, front, holder}
use Rattle.channel_core.specs.Lawful.{entry_limit, IsAdmitted}
use Rattle.channel_core.specs.Answers.{only, adds, with_room, peeked, answer, answer_within, holds, keeps_out}
use Rattle.channel_core.specs.Calls.{Answers, peek_answer}

-- who is admitted isn't kept out
let_in : (held : Option ℕ) (state : ℕ) → IfSome held (λ other. other ≡ state) → keeps_out held state ≡ false
let_in None state admitted = refl
let_in (Some other) state admitted = grind arith

pub answer-admitted : (deed : Deed) (state depth : ℕ) (h : List Entry) → IsAdmitted h state → answer deed state depth h ≡ answer_within deed (holds (holder h) state) depth h
answer-admitted deed state depth h admitted = rw (let_in (holder h) state admitted) refl

pub with_room-below : (h : List Entry) (reply : Reply) (change : Change) → length h < entry_limit → with_room h reply change ≡ adds reply change
with_room-below h reply change below = let test : nat_lt (length h) entry_limit ≡ true = grind arith in rw test refl

pub with_room-full : (h : List Entry) (reply : Reply) (change : Change) → entry_limit ≤ length h → with_room h reply change ≡ only (Refused Full)
with_room-full h reply change full = let test : nat_lt (length h) entry_limit ≡ false = grind arith in rw test refl

-- what waits, by what is in front
pub peeked-front : (h : List Entry) → peeked (queue h) ≡ peek_answer (front h)
peeked-front h = by_queue (queue h)
  where
    by_queue : (q : List Variant) → peeked q ≡ peek_answer (slice_get q 0)
    by_queue [] = refl
    by_queue (m ∷ ms) = refl

pub Answers-peek : (channel state : ℕ) (h : List Entry) (found : Option Variant) → IsAdmitted h state → found ≡ front h → Answers (Peek channel) state h (peek_answer found)
Answers-peek channel state h found admitted same = by_found found same
  where
    given : (depth : ℕ) → answer (Asked (Peek channel)) state depth h ≡ peek_answer (front h)
    given depth = answer-admitted (Asked (Peek channel)) state depth h admitted ∙ peeked-front h

    by_found : (found : Option Variant) → found ≡ front h → Answers (Peek channel) state h (peek_answer found)
    by_found None same = λ depth. given depth ∙ ap peek_answer (sym same)
    by_found (Some message) same = λ depth. given depth ∙ ap peek_answer (sym same)

pub answer-push : (channel : ℕ) (message : Variant) (state depth : ℕ) (h : List Entry) → IsAdmitted h state → length h < entry_limit → answer (Asked (Push channel message)) state depth h ≡ adds (Id (sent h + 1)) (Put message)
answer-push channel message state depth h admitted below = answer-admitted (Asked (Push channel message)) state depth h admitted ∙ with_room-below h (Id (sent h + 1)) (Put message) below
