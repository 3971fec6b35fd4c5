-- What the counts of a Channel tell.
use Rattle.std.proofs.Common.{◌≡◌, ◌∙◌, ℕ, ◌+◌, ◌-◌, ◌*◌, ◌/◌, ◌%◌, ◌^◌, ◌<◌, ◌≤◌, Bool, List, [], map, take, sym, ap, arith, length-drop}
use Rattle.std.specs.Prelude.{ℤ, pos, int_le, ◌&&◌}
use Rattle.std.proofs.lemmas.Bool.Decides.{nat_tests}
use Rattle.std.proofs.lemmas.List.{take-map, nil_from_length}
use mathlib.Core.Logic.{dite}
use native.Mathlib.Decide.{dec_le}
use Rattle.variant.specs.declared.message.Variant.{Variant}
use Rattle.variant.specs.declared.ask.Ask.TheVariants.{Pop, Peek, Count, HasRead, Clear}
use Rattle.variant.specs.declared.reply.Reply.TheVariants.{Done, Nothing, Flag, Number}
use Rattle.variant.specs.declared.action.Deed.TheVariants.{Asked}
use Rattle.channel_core.specs.declared.entry.Entry.{Entry}
use Rattle.channel_core.specs.Answers.{answer, only, popped, peeked, cleared}
use Rattle.channel_core.specs.History.{sent, received, queue, sent_messages}
use Rattle.channel_core.specs.Lawful.{IsAdmitted}
use Rattle.channel_core.proofs.Answering.{answer-admitted}
use Rattle.channel_core.proofs.Histories.{length-sent_messages}
use Rattle.channel_core.proofs.Lawfulness.{IsAdmitted-free}
use Rattle.turn_desk.specs.declared.view.Look.{Look}
use Rattle.turn_desk.specs.Notes.{IsShown}
use Rattle.channel_desk.specs.declared.shared.SharedEntry.TheVariants.{Channel as OnChannel}
use Rattle.channel_desk.specs.Shared.{packed, summary_of, rests}
use Rattle.channel_desk.specs.Looking.{AreCounts}
use Rattle.channel_desk.proofs.Objects.{packed_fits, rests_channel, summary_channel}
use Rattle.channel_desk.proofs.Acts.{none_of}

over : (s r : ℕ) → 2 ^ 21 ≤ r → packed s r ≡ 2 ^ 42
over s r le = grind (arith, nat_tests)

-- two counts that share a number are its parts
pub parted : (s r n : ℕ) → packed s r ≡ n → n < 2 ^ 42 → (s ≡ n / 2 ^ 21) × (r ≡ n % 2 ^ 21)
parted s r n e small = dite (dec_le (r + 1) (2 ^ 21))
    (λ lt. let p : packed s r ≡ s * 2 ^ 21 + r = packed_fits s r (omega arith) in (omega arith, omega arith))
    (λ no. let p = over s r (omega arith) in absurd (omega arith))

-- no message waits where as many were received as sent
pub none_waits : (h : List Entry) → sent h ≤ received h → queue h ≡ []
none_waits h le = nil_from_length (queue h) (let l = length-drop (received h) (sent_messages h) in let s = length-sent_messages h in omega arith)

pub count_reply : (channel : ℕ) (state depth : ℕ) (h : List Entry) (s r : ℕ) → AreCounts h s r → IsAdmitted h state → answer (Asked (Count channel)) state depth h ≡ only (Number (s - r))
count_reply channel state depth h s r counts admitted = answer-admitted (Asked (Count channel)) state depth h admitted ∙ (λ i. only (Number (counts.0 i - counts.1 i)))

pub read_reply : (channel : ℕ) (id : ℤ) (state depth : ℕ) (h : List Entry) (s r : ℕ) (read : Bool) → read ≡ (int_le (pos 1) id && int_le id (pos r)) → AreCounts h s r → IsAdmitted h state → answer (Asked (HasRead channel id)) state depth h ≡ only (Flag read)
read_reply channel id state depth h s r read is counts admitted = answer-admitted (Asked (HasRead channel id)) state depth h admitted ∙ (ap (λ (n : ℕ). only (Flag (int_le (pos 1) id && int_le id (pos n)))) counts.1 ∙ ap (λ (b : Bool). only (Flag b)) (sym is))

pub pop_reply : (channel : ℕ) (state depth : ℕ) (h : List Entry) (s r : ℕ) → s ≤ r → AreCounts h s r → IsAdmitted h state → answer (Asked (Pop channel)) state depth h ≡ only Nothing
pop_reply channel state depth h s r le counts admitted = answer-admitted (Asked (Pop channel)) state depth h admitted ∙ ap (λ (q : List Variant). popped h q) (none_waits h (let a = counts.0 in let b = counts.1 in omega arith))

pub peek_reply : (channel : ℕ) (state depth : ℕ) (h : List Entry) (s r : ℕ) → s ≤ r → AreCounts h s r → IsAdmitted h state → answer (Asked (Peek channel)) state depth h ≡ only Nothing
peek_reply channel state depth h s r le counts admitted = answer-admitted (Asked (Peek channel)) state depth h admitted ∙ ap (λ (q : List Variant). peeked q) (none_waits h (let a = counts.0 in let b = counts.1 in omega arith))

pub clear_reply : (channel : ℕ) (state depth : ℕ) (h : List Entry) (s r : ℕ) → s ≤ r → AreCounts h s r → IsAdmitted h state → answer (Asked (Clear channel)) state depth h ≡ only Done
clear_reply channel state depth h s r le counts admitted = answer-admitted (Asked (Clear channel)) state depth h admitted ∙ ap (λ (q : List Variant). cleared h q) (none_waits h (let a = counts.0 in let b = counts.1 in omega arith))

-- a history that has what a look showed has these counts there, and is nobody's
pub shown_packed : (h : List Entry) (l : Look) → IsShown summary_of rests (map OnChannel h) l → packed (sent (take l.place h)) (received (take l.place h)) ≡ l.summary
shown_packed h l shown = sym (summary_channel (take l.place h)) ∙ (ap summary_of (sym (take-map OnChannel l.place h)) ∙ shown.summary)

pub shown_admitted : (h : List Entry) (l : Look) (state : ℕ) → IsShown summary_of rests (map OnChannel h) l → IsAdmitted (take l.place h) state
shown_admitted h l state shown = IsAdmitted-free (take l.place h) state (none_of _ (sym (rests_channel (take l.place h)) ∙ (ap rests (sym (take-map OnChannel l.place h)) ∙ shown.rests)))
