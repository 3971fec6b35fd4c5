-- What a glance comes to, inside a section and by a look.
use Rattle.std.proofs.Common.{◌≡◌, ◌∙◌, ℕ, false, List, take, length, refl, sym, ap, subst}
use Rattle.love_base.specs.declared.stamp.Stamp.{Stamp}
use Rattle.variant.specs.declared.ask.Ask.{Ask}
use Rattle.variant.specs.declared.action.Action.{Action}
use Rattle.variant.specs.declared.action.Deed.TheVariants.{Asked}
use Rattle.variant.specs.declared.reply.Reply.{Reply}
use Rattle.channel_core.specs.declared.entry.Entry.{Entry}
use Rattle.channel_core.specs.Answers.{answer, only}
use Rattle.channel_core.specs.History.{sent, received}
use Rattle.channel_core.specs.Lawful.{IsAdmitted}
use Rattle.turn_desk.specs.declared.view.View.{View}
use Rattle.turn_desk.specs.Passes.{DeskId, Standing}
use Rattle.channel_desk.specs.declared.given.Given.{Given}
use Rattle.channel_desk.specs.declared.sections.Section.{Section}
use Rattle.channel_desk.specs.declared.shared.SharedEntry.{SharedEntry}
use Rattle.channel_desk.specs.Shared.{channel_in, history_of, packed}
use Rattle.channel_desk.specs.Deeds.{object_of}
use Rattle.channel_desk.specs.Holding.{IsHolding, IsOf, sections_on}
use Rattle.channel_desk.specs.Turns.{IsAt}
use Rattle.channel_desk.specs.Acting.{action_of}
use Rattle.channel_desk.specs.Looking.{AreCounts, Glanced, IsOpen, Looked, Unseen, at_look, inside, look_at, waits_at_look, waits_inside}
use Rattle.channel_desk.proofs.Acts.{length_channel, placed_inside}
use Rattle.channel_desk.proofs.Coming.{admitted}
use Rattle.channel_desk.proofs.Counts.{shown_admitted, shown_packed}
use Rattle.channel_desk.proofs.Holds.{section_at}

open_at : (ask : Ask) (h : List Entry) (s r : ℕ) → AreCounts h s r → IsOpen ask s r → IsOpen ask (sent h) (received h)
open_at ask h s r counts waits = subst (λ (n : ℕ). IsOpen ask (sent h) n) (sym counts.1) (subst (λ (n : ℕ). IsOpen ask n r) (sym counts.0) waits)

-- a look showed that a message waits
pub unseen_look : (by : Stamp) (ask : Ask) (v w : View SharedEntry) (held : List Section) (o place summary s r : ℕ) → o ≡ object_of ask → sections_on o held ≡ 0 → Looked v w o place summary → ((h : List Entry) → packed (sent h) (received h) ≡ summary → AreCounts h s r) → IsOpen ask s r → Unseen by ask v w held
unseen_look by ask v w held o place summary s r on none looked counts waits =
    waits_at_look place summary (subst (λ (n : ℕ). sections_on n held ≡ 0) on none) (subst (λ (n : ℕ). Looked v w n place summary) on looked)
    (λ h shown. open_at ask (take place h) s r (counts (take place h) (shown_packed h (look_at v (object_of ask) place summary) shown)) waits)

-- and a look that answers
pub glanced_look : (by stamp : Stamp) (ask : Ask) (v w : View SharedEntry) (held : List Section) (o place summary s r : ℕ) (reply : Reply) (given : Given) (a : Action) → stamp ≡ by → given.reply ≡ reply → given.changed ≡ false → a ≡ action_of stamp o place ask given → o ≡ object_of ask → sections_on o held ≡ 0 → Looked v w o place summary
    → ((h : List Entry) → packed (sent h) (received h) ≡ summary → AreCounts h s r) → ((h : List Entry) (state depth : ℕ) → AreCounts h s r → IsAdmitted h state → answer (Asked ask) state depth h ≡ only reply) → Glanced by v w held ask a
glanced_look by stamp ask v w held o place summary s r reply given a same replied unchanged acts on none looked counts replies =
    subst (Glanced by v w held ask) (sym acts) (record {
      number = ap (λ (b : Stamp). b.number) same;
      object = on;
      changed = unchanged;
      deed = refl;
      readings = refl;
      found = at_look summary none looked (λ h shown. replies (take place h) by.state 0 (counts (take place h) (shown_packed h (look_at v o place summary) shown)) (shown_admitted h (look_at v o place summary) by.state shown) ∙ ap (λ (x : Reply). only x) (sym replied));
    })

-- a held Channel in which a message waits
pub unseen_inside : (by : Stamp) (ask : Ask) (v : View SharedEntry) (held : List Section) (o k s r : ℕ) (here : Section) → o ≡ object_of ask → IsAt held o k here → AreCounts (channel_in here.held.value) s r → IsOpen ask s r → Unseen by ask v v held
unseen_inside by ask v held o k s r here on at counts waits = waits_inside k here (subst (λ (n : ℕ). IsAt held n k here) on at) refl (open_at ask (channel_in here.held.value) s r counts waits)

-- and one that answers
pub glanced_inside : (desk : DeskId) (state next : ℕ) (p : Standing SharedEntry) (stamp : Stamp) (ask : Ask) (held : List Section) (o k place s r : ℕ) (here : Section) (reply : Reply) (given : Given) (a : Action) → IsHolding desk state next p held → stamp ≡ record { state = state; number = next } → given.reply ≡ reply → given.changed ≡ false → a ≡ action_of stamp o place ask given → o ≡ object_of ask → IsAt held o k here → place ≡ length (history_of here.held.value)
    → AreCounts (channel_in here.held.value) s r → ((h : List Entry) (state depth : ℕ) → AreCounts h s r → IsAdmitted h state → answer (Asked ask) state depth h ≡ only reply) → Glanced (record { state = state; number = next }) p.view p.view held ask a
glanced_inside desk state next p stamp ask held o k place s r here reply given a h same replied unchanged acts on at long counts replies =
    let by : Stamp = record { state = state; number = next } in let i : IsOf state next p.view here = section_at desk state next p held o k here h at in
    subst (Glanced by p.view p.view held ask) (sym acts) (record {
      number = ap (λ (b : Stamp). b.number) same;
      object = on;
      changed = unchanged;
      deed = refl;
      readings = refl;
      found = inside k here at refl (long ∙ length_channel here.held.value i.kind) (replies (channel_in here.held.value) state here.depth counts (admitted (channel_in here.held.value) by here.depth (placed_inside state next p.view here i)) ∙ ap (λ (x : Reply). only x) (sym replied));
    })
