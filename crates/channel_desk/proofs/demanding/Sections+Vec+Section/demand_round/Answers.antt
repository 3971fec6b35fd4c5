use Rattle.std.proofs.Common.{◌∙◌, ◌≤◌, ℕ, refl, arith}
use Rattle.variant.specs.declared.ask.Ask.TheVariants.{Demand}
use Rattle.channel_desk.specs.Awaiting.{IsLate, ran_out, at_turn, at_wait}
use Rattle.channel_desk.proofs.Holds.{holds_on}
use Rattle.channel_desk.proofs.Rounds.{demanded_now, halted_from, keeps_from, kept_so, unfound_so}
use Rattle.channel_desk.proofs.Sights.{ended_through, same_stamp, seen_from}
use Rattle.channel_desk.proofs.Waiting.{waited_further}
use Rattle.channel_desk.proofs.Waits.{awaited_late, demand_open, if_some, stopped_waiting}
use Rattle.channel_desk.proofs.demanding.Sections+Vec+Section.demand_round.Goals as goal

pub returns-then-sight-clause-acted : goal.returns-then-sight-clause-acted
returns-then-sight-clause-acted g c = let e = c.end_seen-ended.ensures in let s = c.sight-sight.ensures in
    demanded_now (g.P.Pacer.shows c.args.pacer.now) _ _ _ _ _ _ _ _ _ _ (Demand c.args.channel c.args.limit) c.demand_now.result c.requires.outside (s.state ∙ e.state) (s.next ∙ e.next) (s.items ∙ e.items) (waited_further _ _ _ e.waited s.waited) c.demand_now.ensures.acted

pub returns-then-sight-clause-unfound : goal.returns-then-sight-clause-unfound
returns-then-sight-clause-unfound g c = let e = c.end_seen-ended.ensures in let s = c.sight-sight.ensures in
    unfound_so c.demand_now.result _ _ (keeps_from _ _ _ _ _ _ _ _ _ (s.next ∙ e.next) (s.items ∙ e.items) (waited_further _ _ _ e.waited s.waited)) c.demand_now.ensures.unfound

pub returns-then-sight-clause-kept : goal.returns-then-sight-clause-kept
returns-then-sight-clause-kept g c = let e = c.end_seen-ended.ensures in let s = c.sight-sight.ensures in
    kept_so c.demand_now.result _ _ (keeps_from _ _ _ _ _ _ _ _ _ (s.next ∙ e.next) (s.items ∙ e.items) (waited_further _ _ _ e.waited s.waited)) c.demand_now.ensures.kept

pub returns-then-sight-clause-stopped : goal.returns-then-sight-clause-stopped
returns-then-sight-clause-stopped g c = λ stop is. let e = c.end_seen-ended.ensures in let s = c.sight-sight.ensures in
    at_turn (halted_from _ _ _ _ _ _ _ (Demand c.args.channel c.args.limit) stop (s.state ∙ e.state) (s.items ∙ e.items) (waited_further _ _ _ e.waited s.waited) (c.demand_now.ensures.stopped stop is))

pub returns-in-Ok-Some-clause-holding : goal.returns-in-Ok-Some-clause-holding
returns-in-Ok-Some-clause-holding g c = holds_on _ _ _ _ _ c.sight-sight.ensures.holding

pub returns-in-Ok-Some-clause-acted : goal.returns-in-Ok-Some-clause-acted
returns-in-Ok-Some-clause-acted g c =
    let e = c.end_seen-ended.ensures in let s = c.sight-sight.ensures in
    ran_out (s.items ∙ e.items) (awaited_late (g.P.Pacer.shows c.args.pacer.now) c.stamp-by.result _ _ _ _ (Demand c.args.channel c.args.limit) c.get-object.result c.sight-sight.result.place c.args.limit c.readings_past-late.result _
    (same_stamp c.stamp-by.result _ _ _ _ c.stamp-by.ensures (s.state ∙ e.state) (s.next ∙ e.next)) c.get-object.ensures.number refl c.readings_past-late.ensures.passed
    (if_some c.in-Ok-Some.field-0 c.in-Ok-Some.action (IsLate c.stamp-by.result c.get-object.result c.sight-sight.result.place (Demand c.args.channel c.args.limit) c.readings_past-late.result) c.in-Ok-Some.field-0-is c.in-Ok-Some.ensures.late)
    (demand_open c.args.channel c.args.limit _ _ _ _ c.get-object.result c.sight-sight.result.place c.sight-sight.result.sent c.sight-sight.result.received c.requires.outside c.get-object.ensures.number c.if-sight.false
    (seen_from _ _ _ _ _ _ _ c.get-object.result c.sight-sight.result.place _ _ e.waited e.state e.items s.seen)))

pub returns-in-Ok-None-clause-unfound : goal.returns-in-Ok-None-clause-unfound
returns-in-Ok-None-clause-unfound g c = let e = c.end_seen-ended.ensures in let s = c.sight-sight.ensures in
    (s.next ∙ e.next, s.items ∙ e.items, waited_further _ _ _ e.waited s.waited)

pub returns-in-Err-clause-kept : goal.returns-in-Err-clause-kept
returns-in-Err-clause-kept g c = let e = c.end_seen-ended.ensures in let s = c.sight-sight.ensures in
    (s.next ∙ e.next, s.items ∙ e.items, waited_further _ _ _ e.waited s.waited)

pub returns-in-Err-clause-stopped : goal.returns-in-Err-clause-stopped
returns-in-Err-clause-stopped g c = λ stop is.
    let e = c.end_seen-ended.ensures in let s = c.sight-sight.ensures in
    at_wait (stopped_waiting c.args.self.now.state _ _ _ (Demand c.args.channel c.args.limit) c.get-object.result c.sight-sight.result.place c.end_seen-ended.result stop c.get-object.ensures.number
    (ended_through c.end_seen-ended.result _ _ _ e.ended s.board) (c.unanswered.ensures.stopped stop (c.in-Err.is ∙ is))
    (demand_open c.args.channel c.args.limit _ _ _ _ c.get-object.result c.sight-sight.result.place c.sight-sight.result.sent c.sight-sight.result.received c.requires.outside c.get-object.ensures.number c.if-sight.false
    (seen_from _ _ _ _ _ _ _ c.get-object.result c.sight-sight.result.place _ _ e.waited e.state e.items s.seen)))
