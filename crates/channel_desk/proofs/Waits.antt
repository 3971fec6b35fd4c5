-- What waits come to, by what was seen.
use Rattle.std.proofs.Common.{◌≡◌, ◌≢◌, ◌∙◌, ℕ, zero, suc, ◌+◌, ◌*◌, ◌<◌, ◌≤◌, nat_le, Bool, true, false, cond, List, [], ◌∷◌, ◌++◌, map, take, length, get_or, length-append, Option, Some, None, refl, sym, ap, subst, arith, inl, inr}
use Rattle.std.specs.Prelude.{IfSome}
use Rattle.std.proofs.lemmas.Bool.Decides.{nat_tests}
use Rattle.std.proofs.lemmas.List.{get_or_push}
use Rattle.love_base.specs.declared.stamp.Stamp.{Stamp}
use Rattle.love_base.proofs.Prefixes.{longer}
use Rattle.variant.specs.declared.message.Variant.{Variant}
use Rattle.variant.specs.declared.ask.Ask.{Ask}
use Rattle.variant.specs.declared.ask.Ask.TheVariants.{Demand, Await}
use Rattle.variant.specs.declared.reply.Reply.{Reply}
use Rattle.variant.specs.declared.reply.Reply.TheVariants.{Nothing, Flag}
use Rattle.variant.specs.declared.action.Action.{Action}
use Rattle.variant.specs.declared.action.Deed.{Deed}
use Rattle.variant.specs.declared.action.Deed.TheVariants.{Asked}
use Rattle.variant.specs.declared.action.Stop.{Stop}
use Rattle.channel_core.specs.declared.entry.Entry.{Entry}
use Rattle.channel_core.specs.History.{sent, received, queue, holder}
use Rattle.channel_core.specs.Lawful.{IsAdmitted}
use Rattle.channel_core.specs.Answers.{IsAnswer, RanOut, answer, demanded, limit_of, only, run_out}
use Rattle.channel_core.proofs.Answering.{answer-admitted}
use Rattle.channel_core.proofs.Lawfulness.{IsAdmitted-free}
use Rattle.turn_desk.specs.declared.view.View.{View}
use Rattle.channel_desk.specs.declared.sections.Section.{Section}
use Rattle.channel_desk.specs.declared.given.Given.{Given}
use Rattle.channel_desk.specs.declared.shared.SharedEntry.{SharedEntry}
use Rattle.channel_desk.specs.Acting.{Acted, IsEnded, IsStopped, action_of}
use Rattle.channel_desk.specs.Awaiting.{Awaited, Demanded, HaveRunOut, IsGivenUp, IsLate, IsStanding, IsStoppedAwaiting, Seen, IsStoppedDemanding, answered, at_look, at_turn, at_wait, late_action}
use Rattle.channel_desk.specs.Awaiting.{inside as seen_in, ran_out as ran_late}
use Rattle.channel_desk.specs.Deeds.{object_of}
use Rattle.channel_desk.specs.Holding.{sections_on}
use Rattle.channel_desk.specs.Looking.{AreCounts}
use Rattle.channel_desk.specs.Turns.{IsAt, Step, Waited, in_turn, inside, entering, leaving}
use Rattle.channel_desk.specs.declared.shared.SharedEntry.TheVariants.{Channel as OnChannel}
use Rattle.channel_desk.proofs.Waiting.{took_later}
use Rattle.channel_desk.proofs.Counts.{none_waits}
use Rattle.channel_desk.proofs.Holds.{none_at}
use Rattle.channel_desk.proofs.Sights.{seen_later, seen_so}
use Rattle.channel_desk.proofs.Sectioned.{outside_same}

standing_admitted : (state depth : ℕ) (h : List Entry) → IsStanding state depth h → IsAdmitted h state
standing_admitted state zero h standing = IsAdmitted-free h state (standing.outside refl)
standing_admitted state (suc depth) h standing = subst (λ (x : Option ℕ). IfSome x (λ (held : ℕ). held ≡ state)) (sym (standing.inside (omega arith))) refl

-- a wait whose limit ran out at a place where it has no answer
ran_out : (shows : ℕ → Type 0) (deed : Deed) (state depth : ℕ) (h : List Entry) (limit : Option ℕ) (readings : ℕ × ℕ) → HaveRunOut shows limit readings → limit_of deed ≡ limit → IsAdmitted h state → answer deed state depth h ≡ None
    → IsAnswer shows deed state depth h (record { reply = run_out deed; change = None }) (Some readings)
ran_out shows deed state depth h limit readings out same admitted none = inr (record {
  limit = out.seconds;
  first = readings.0;
  last = readings.1;
  limited = same ∙ out.limited;
  admitted = admitted;
  unanswered = none;
  read = refl;
  shown = out.shown;
  passed = out.passed;
  nothing = refl;
})

module _ (channel id : ℕ) (limit : Option ℕ) (state depth : ℕ) (h : List Entry) (s r : ℕ) where
  -- the message was received
  pub await_answer : AreCounts h s r → IsStanding state depth h → id ≤ r → answer (Asked (Await channel id limit)) state depth h ≡ only (Flag true)
  await_answer counts standing le =
      let read : nat_le id (received h) ≡ true = (let c = counts.1 in grind (arith, nat_tests)) in
      answer-admitted (Asked (Await channel id limit)) state depth h (standing_admitted state depth h standing) ∙ ap (λ (b : Bool). cond b (only (Flag true)) None) read

  -- it wasn't yet
  pub await_none : AreCounts h s r → IsStanding state depth h → r < id → (answer (Asked (Await channel id limit)) state depth h ≡ None)
  await_none counts standing below =
      let unread : nat_le id (received h) ≡ false = (let c = counts.1 in grind (arith, nat_tests)) in
      answer-admitted (Asked (Await channel id limit)) state depth h (standing_admitted state depth h standing) ∙ ap (λ (b : Bool). cond b (only (Flag true)) None) unread

-- what an await sees at a place where it has no answer
pub await_open : (channel id : ℕ) (limit : Option ℕ) (state : ℕ) (v w : View SharedEntry) (held : List Section) (o place s r : ℕ) → r < id → Seen (λ depth h. AreCounts h s r × IsStanding state depth h) v w held o place
    → Seen (λ depth h. IsAdmitted h state × (answer (Asked (Await channel id limit)) state depth h ≡ None)) v w held o place
await_open channel id limit state v w held o place s r below seen =
    seen_so (λ depth h. AreCounts h s r × IsStanding state depth h) (λ depth h. IsAdmitted h state × (answer (Asked (Await channel id limit)) state depth h ≡ None)) v w held o place
    (λ depth h p. (standing_admitted state depth h p.1, await_none channel id limit state depth h s r p.0 p.1 below)) seen

-- a wait that has no answer where it looked, and whose limit ran out
pub awaited_late : (shows : ℕ → Type 0) (made by : Stamp) (v w : View SharedEntry) (held : List Section) (ask : Ask) (o place : ℕ) (limit : Option ℕ) (late : Option (ℕ × ℕ)) (a : Action) → made ≡ by → o ≡ object_of ask → limit_of (Asked ask) ≡ limit → IfSome late (λ readings. HaveRunOut shows limit readings) → IsLate made o place ask late a
    → Seen (λ depth h. IsAdmitted h by.state × (answer (Asked ask) by.state depth h ≡ None)) v w held o place → Awaited shows by v w held ask a
awaited_late shows made by v w held ask o place limit late a stamp on same out is seen =
    let readings : ℕ × ℕ = is.readings in
    let passed : HaveRunOut shows limit readings = subst (λ (l : Option (ℕ × ℕ)). IfSome l (λ x. HaveRunOut shows limit x)) is.passed out in
    subst (Awaited shows by v w held ask) (sym (is.action ∙ ap (λ (b : Stamp). late_action b o place ask readings) stamp)) (record {
      number = refl;
      object = on;
      changed = refl;
      deed = refl;
      seen = seen_so (λ depth h. IsAdmitted h by.state × (answer (Asked ask) by.state depth h ≡ None)) (λ depth h. IsAnswer shows (Asked ask) by.state depth h (record { reply = run_out (Asked ask); change = None }) (Some readings)) v w held o place
          (λ depth h p. ran_out shows (Asked ask) by.state depth h limit readings passed same p.0 p.1) seen;
    })

-- and one that is given up
pub stopped_waiting : (state : ℕ) (v w : View SharedEntry) (held : List Section) (ask : Ask) (o place : ℕ) (ended : Option (ℕ × ℕ)) (stop : Stop) → o ≡ object_of ask → IfSome ended (λ known. (state ≢ 0) × IsEnded w known.0 known.1) → IsGivenUp o place ask ended stop
    → Seen (λ depth h. IsAdmitted h state × (answer (Asked ask) state depth h ≡ None)) v w held o place → IsStoppedAwaiting state v w held ask stop
stopped_waiting state v w held ask o place ended stop on known up seen =
    let here = subst (λ (l : Option (ℕ × ℕ)). IfSome l (λ x. (state ≢ 0) × IsEnded w x.0 x.1)) up.ended known in record {
      not_main = here.0;
      asked = up.asked;
      object = up.object ∙ on;
      busy = up.busy;
      ended = here.1;
      seen = subst (λ (n : ℕ). Seen (λ depth h. IsAdmitted h state × (answer (Asked ask) state depth h ≡ None)) v w held n stop.place) (sym up.object)
          (subst (λ (n : ℕ). Seen (λ depth h. IsAdmitted h state × (answer (Asked ask) state depth h ≡ None)) v w held o n) (sym up.place) seen);
    }

-- a message that was received
pub awaited_read : (shows : ℕ → Type 0) (made by : Stamp) (v w : View SharedEntry) (held : List Section) (channel id : ℕ) (limit : Option ℕ) (o place s r : ℕ) (given : Given) (a : Action) → made ≡ by → o ≡ channel → id ≤ r → given.reply ≡ Flag true → given.changed ≡ false → a ≡ action_of made o place (Await channel id limit) given
    → Seen (λ depth h. AreCounts h s r × IsStanding by.state depth h) v w held o place → Awaited shows by v w held (Await channel id limit) a
awaited_read shows made by v w held channel id limit o place s r given a stamp on le reply unchanged is seen = subst (Awaited shows by v w held (Await channel id limit)) (sym (is ∙ ap (λ (b : Stamp). action_of b o place (Await channel id limit) given) stamp)) (record {
  number = refl;
  object = on;
  changed = unchanged;
  deed = refl;
  seen = seen_so (λ depth h. AreCounts h s r × IsStanding by.state depth h) (λ depth h. IsAnswer shows (Asked (Await channel id limit)) by.state depth h (record { reply = given.reply; change = None }) None) v w held o place
      (λ depth h p. inl (await_answer channel id limit by.state depth h s r p.0 p.1 le ∙ ap (λ (x : Reply). only x) (sym reply), refl)) seen;
})

-- the same after some more waiting
pub awaited_later : (shows : ℕ → Type 0) (by : Stamp) (u v w : View SharedEntry) (held : List Section) (ask : Ask) (a : Action) → Waited u v → Awaited shows by v w held ask a → Awaited shows by u w held ask a
awaited_later shows by u v w held ask a waited awaited = record {
  number = awaited.number;
  object = awaited.object;
  changed = awaited.changed;
  deed = awaited.deed;
  seen = seen_later (λ depth h. IsAnswer shows (Asked ask) by.state depth h (record { reply = a.reply; change = None }) a.readings) u v w held a.object a.place waited awaited.seen;
}

pub stopped_later : (state : ℕ) (u v w : View SharedEntry) (held : List Section) (ask : Ask) (stop : Stop) → Waited u v → IsStoppedAwaiting state v w held ask stop → IsStoppedAwaiting state u w held ask stop
stopped_later state u v w held ask stop waited s = record {
  not_main = s.not_main;
  asked = s.asked;
  object = s.object;
  busy = s.busy;
  ended = s.ended;
  seen = seen_later (λ depth h. IsAdmitted h state × (answer (Asked ask) state depth h ≡ None)) u v w held stop.object stop.place waited s.seen;
}

-- what is said of a value that is there
pub if_some : {X : Type 0} (o : Option X) (x : X) (P : X → Type 0) → o ≡ Some x → IfSome o P → P x
if_some {X} o x P is p = subst (λ (y : Option X). IfSome y P) is p

-- what stands where a wait found another pass at the Channel's turn, after some more waiting
pub halted_later : (state : ℕ) (u v w : View SharedEntry) (held : List Section) (ask : Ask) (stop : Stop) → Waited u v → IsStopped state v w held ask stop → IsStopped state u w held ask stop
halted_later state u v w held ask stop waited s = record {
  not_main = s.not_main;
  inside = s.inside;
  asked = s.asked;
  object = s.object;
  place = s.place;
  ended = s.ended;
  seat = s.seat;
  busy = s.busy;
  refused = record {
    at = s.refused.at;
    since = let l = longer u.refused v.refused waited.grew.refused in let m = s.refused.since in omega arith;
    note = s.refused.note;
    other = s.refused.other;
  };
}

-- the action of an ask in a turn, after some more waiting
pub acted_later : (by : Stamp) (u v w : View SharedEntry) (held held' : List Section) (ask : Ask) (a : Action) → sections_on (object_of ask) held ≡ 0 → Waited u v → Acted by v w held held' ask a → Acted by u w held held' ask a
acted_later by u v w held held' ask a none waited acted = record {
  number = acted.number;
  object = acted.object;
  deed = acted.deed;
  readings = acted.readings;
  depth = acted.depth;
  before = acted.before;
  after = acted.after;
  comes = acted.comes;
  place = acted.place;
  step = on acted.step;
}
  where
    here : sections_on a.object held ≡ 0
    here = ap (λ (n : ℕ). sections_on n held) acted.object ∙ none

    outside : (k : ℕ) (s : Section) → IsAt held a.object k s → ⊥
    outside k s at = none_at held a.object here k s at.within (ap (λ (x : Section). x.held.object) (at.item s) ∙ at.object)

    on : Step ask v w held held' a.object acted.depth (map OnChannel acted.before) (map OnChannel acted.after) → Step ask u w held held' a.object acted.depth (map OnChannel acted.before) (map OnChannel acted.after)
    on (in_turn flat t same) = in_turn flat (record { taken = t.taken; took = took_later u v t.taken a.object _ waited t.took; gave = t.gave }) same
    on (inside deep same x) = absurd (outside x.place x.section x.at)
    on (entering flat e) = entering flat (record { took = took_later u v w a.object _ waited e.took; section = e.section; object = e.object; deep = e.deep; after = e.after; items = e.items })
    on (leaving deep l) = absurd (outside (length held') l.section (record {
      within = let n = ap length l.items ∙ length-append held' (l.section ∷ []) in omega arith;
      item = λ d. ap (λ (x : List Section). get_or x (length held') d) l.items ∙ get_or_push held' l.section d (length held') (omega arith);
      object = l.object;
    }))

-- a demand, after some more waiting
pub demanded_later : (shows : ℕ → Type 0) (by : Stamp) (u v w : View SharedEntry) (held held' : List Section) (ask : Ask) (a : Action) → sections_on (object_of ask) held ≡ 0 → Waited u v → Demanded shows by v w held held' ask a → Demanded shows by u w held held' ask a
demanded_later shows by u v w held held' ask a none waited (answered acted) = answered (acted_later by u v w held held' ask a none waited acted)
demanded_later shows by u v w held held' ask a none waited (ran_late same awaited) = ran_late same (awaited_later shows by u v w held ask a waited awaited)

pub demand_stopped_later : (state : ℕ) (u v w : View SharedEntry) (held : List Section) (ask : Ask) (stop : Stop) → Waited u v → IsStoppedDemanding state v w held ask stop → IsStoppedDemanding state u w held ask stop
demand_stopped_later state u v w held ask stop waited (at_turn s) = at_turn (halted_later state u v w held ask stop waited s)
demand_stopped_later state u v w held ask stop waited (at_wait s) = at_wait (stopped_later state u v w held ask stop waited s)

-- what a demand outside of all sections on its Channel sees at a place where it has no answer
pub demand_open : (channel : ℕ) (limit : Option ℕ) (state : ℕ) (v w : View SharedEntry) (held : List Section) (o place s r : ℕ) → sections_on channel held ≡ 0 → o ≡ channel → s ≤ r → Seen (λ depth h. AreCounts h s r × IsStanding state depth h) v w held o place
    → Seen (λ depth h. IsAdmitted h state × (answer (Asked (Demand channel limit)) state depth h ≡ None)) v w held o place
demand_open channel limit state v w held o place s r none same le (seen_in k x at deep waited long p) = absurd (none_at held channel none k x at.within (ap (λ (y : Section). y.held.object) (at.item x) ∙ (at.object ∙ same)))
demand_open channel limit state v w held o place s r none same le (at_look u summary out waited looked p) = at_look u summary out waited looked
    (λ h shown. let q = p h shown in (standing_admitted state 0 (take place h) q.1, demand_none (take place h) q.0 q.1))
  where
    demand_none : (h : List Entry) → AreCounts h s r → IsStanding state 0 h → answer (Asked (Demand channel limit)) state 0 h ≡ None
    demand_none h counts standing = outside_same (Asked (Demand channel limit)) state 0 h (standing.outside refl) ∙ ap (λ (q : List Variant). demanded h false q) (none_waits h (let a = counts.0 in let b = counts.1 in omega arith))
