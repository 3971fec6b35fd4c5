-- What a state sees of a Channel while it waits.
use Rattle.std.proofs.Common.{◌≡◌, ◌≢◌, ◌∙◌, ℕ, ◌<◌, ◌≤◌, List, map, take, length, Option, Some, None, sym, ap, subst, arith}
use Rattle.std.specs.Prelude.{IfSome}
use Rattle.std.proofs.lemmas.List.{take-map}
use Rattle.love_base.specs.declared.stamp.Stamp.{Stamp}
use Rattle.channel_core.specs.declared.entry.Entry.{Entry}
use Rattle.channel_core.specs.History.{sent, received, holder}
use Rattle.turn_desk.specs.declared.view.Look.{Look}
use Rattle.turn_desk.specs.declared.view.Spot.{Spot}
use Rattle.turn_desk.specs.declared.view.View.{View}
use Rattle.turn_desk.specs.Notes.{IsShown}
use Rattle.turn_desk.specs.Passes.{DeskId, Standing}
use Rattle.channel_desk.specs.declared.sections.Section.{Section}
use Rattle.channel_desk.specs.declared.shared.SharedEntry.{SharedEntry}
use Rattle.channel_desk.specs.declared.shared.SharedEntry.TheVariants.{Channel as OnChannel}
use Rattle.thread_board.specs.Register.{register}
use Rattle.channel_desk.specs.Shared.{board_entries, channel_in, history_of, packed, summary_of, rests}
use Rattle.channel_desk.specs.Acting.{IsEnded}
use Rattle.channel_desk.specs.Awaiting.{IsStanding, Seen, inside, at_look}
use Rattle.channel_desk.specs.Holding.{IsHolding, IsOf, sections_on}
use Rattle.channel_desk.specs.Looking.{AreCounts, Looked, look_at}
use Rattle.channel_desk.specs.Turns.{IsAt, Waited}
use Rattle.channel_desk.proofs.Acts.{length_channel, none_of}
use Rattle.channel_desk.proofs.Counts.{shown_packed}
use Rattle.channel_desk.proofs.Holds.{section_at}
use Rattle.channel_desk.proofs.Objects.{rests_channel}
use Rattle.channel_desk.proofs.Waiting.{looked_else, waited_further, waited_same}

-- nobody is inside a Channel that a look showed
pub shown_free : (h : List Entry) (l : Look) → IsShown summary_of rests (map OnChannel h) l → holder (take l.place h) ≡ None
shown_free h l shown = none_of _ (sym (rests_channel (take l.place h)) ∙ (ap rests (sym (take-map OnChannel l.place h)) ∙ shown.rests))

standing_free : (state : ℕ) (h : List Entry) → holder h ≡ None → IsStanding state 0 h
standing_free state h none = record { outside = λ e. none; inside = λ deep. absurd (omega arith) }

standing_mine : (state next : ℕ) (v : View SharedEntry) (s : Section) → IsOf state next v s → IsStanding state s.depth (channel_in s.held.value)
standing_mine state next v s i = record { outside = λ e. let deep = i.depth in absurd (omega arith); inside = λ deep. i.mine }

pub seen_inside : (desk : DeskId) (state next : ℕ) (p : Standing SharedEntry) (held : List Section) (o k place s r : ℕ) (here : Section) → IsHolding desk state next p held → IsAt held o k here → place ≡ length (history_of here.held.value) → AreCounts (channel_in here.held.value) s r
    → Seen (λ depth h. AreCounts h s r × IsStanding state depth h) p.view p.view held o place
seen_inside desk state next p held o k place s r here h at long counts =
    let i : IsOf state next p.view here = section_at desk state next p held o k here h at in
    inside k here at i.depth (waited_same p.view) (long ∙ length_channel here.held.value i.kind) (counts, standing_mine state next p.view here i)

pub seen_look : (state : ℕ) (v w : View SharedEntry) (held : List Section) (o place summary s r : ℕ) → sections_on o held ≡ 0 → Looked v w o place summary → ((h : List Entry) → packed (sent h) (received h) ≡ summary → AreCounts h s r)
    → Seen (λ depth h. AreCounts h s r × IsStanding state depth h) v w held o place
seen_look state v w held o place summary s r none looked counts =
    at_look v summary none (waited_same v) looked (λ h shown. let l = look_at v o place summary in (counts (take place h) (shown_packed h l shown), standing_free state (take place h) (shown_free h l shown)))

-- a look at a Channel tells nothing of the board
pub ended_looked : (v w : View SharedEntry) (o place summary board_place main_end : ℕ) → 0 < o → Looked v w o place summary → IsEnded v board_place main_end → IsEnded w board_place main_end
ended_looked v w o place summary board_place main_end real looked ended =
    let same = looked_else v w o place summary 0 looked.looked (λ e. absurd (omega arith)) in record {
      ended = subst (λ (x : Spot SharedEntry). (register (board_entries x.known)).main_end ≡ Some main_end) (sym same) ended.ended;
      place = subst (λ (x : Spot SharedEntry). board_place ≡ length x.known) (sym same) ended.place;
    }

-- what was seen after some more waiting
pub seen_later : (P : ℕ → List Entry → Type 0) (u v w : View SharedEntry) (held : List Section) (o place : ℕ) → Waited u v → Seen P v w held o place → Seen P u w held o place
seen_later P u v w held o place a (inside k s at deep waited long p) = inside k s at deep (waited_further u v w a waited) long p
seen_later P u v w held o place a (at_look x summary none waited looked p) = at_look x summary none (waited_further u v x a waited) looked p

-- and what follows from it
pub seen_so : (P Q : ℕ → List Entry → Type 0) (v w : View SharedEntry) (held : List Section) (o place : ℕ) → ((depth : ℕ) (h : List Entry) → P depth h → Q depth h) → Seen P v w held o place → Seen Q v w held o place
seen_so P Q v w held o place so (inside k s at deep waited long p) = inside k s at deep waited long (so s.depth (channel_in s.held.value) p)
seen_so P Q v w held o place so (at_look x summary none waited looked p) = at_look x summary none waited looked (λ h shown. so 0 (take place h) (p h shown))

-- what was seen by a state after it looked at the board
pub seen_from : (u v w : View SharedEntry) (held held' : List Section) (state state' o place s r : ℕ) → Waited u v → state' ≡ state → held' ≡ held → Seen (λ depth h. AreCounts h s r × IsStanding state' depth h) v w held' o place → Seen (λ depth h. AreCounts h s r × IsStanding state depth h) u w held o place
seen_from u v w held held' state state' o place s r waited same items seen = seen_later (λ depth h. AreCounts h s r × IsStanding state depth h) u v w held o place waited
    (subst (λ (n : ℕ). Seen (λ depth h. AreCounts h s r × IsStanding n depth h) v w held o place) same (subst (λ (l : List Section). Seen (λ depth h. AreCounts h s r × IsStanding state' depth h) v w l o place) items seen))

pub ended_through : (ended : Option (ℕ × ℕ)) (state : ℕ) (v w : View SharedEntry) → IfSome ended (λ known. (state ≢ 0) × IsEnded v known.0 known.1) → ((place main_end : ℕ) → IsEnded v place main_end → IsEnded w place main_end) → IfSome ended (λ known. (state ≢ 0) × IsEnded w known.0 known.1)
ended_through None state v w known more = tt
ended_through (Some x) state v w known more = (known.0, more x.0 x.1 known.1)

pub same_stamp : (by : Stamp) (s n s' n' : ℕ) → by ≡ record { state = s; number = n } → s ≡ s' → n ≡ n' → by ≡ record { state = s'; number = n' }
same_stamp by s n s' n' is p q = is ∙ (λ i. record { state = p i; number = q i })
