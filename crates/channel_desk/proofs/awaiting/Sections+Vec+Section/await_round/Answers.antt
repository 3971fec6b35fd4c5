use Rattle.std.proofs.Common.{◌∙◌, ◌<◌, ℕ, refl, arith}
use Rattle.variant.specs.declared.ask.Ask.TheVariants.{Await}
use Rattle.channel_desk.specs.Awaiting.{IsLate}
use Rattle.channel_desk.proofs.Holds.{holds_on}
use Rattle.channel_desk.proofs.Sights.{ended_through, same_stamp, seen_from}
use Rattle.channel_desk.proofs.Waiting.{waited_further}
use Rattle.channel_desk.proofs.Waits.{await_open, awaited_late, awaited_read, if_some, stopped_waiting}
use Rattle.channel_desk.proofs.awaiting.Sections+Vec+Section.await_round.Goals as goal

pub returns-then-id-sight-clause-holding : goal.returns-then-id-sight-clause-holding
returns-then-id-sight-clause-holding g c = holds_on _ _ _ _ _ c.sight-sight.ensures.holding

pub returns-then-id-sight-clause-waited : goal.returns-then-id-sight-clause-waited
returns-then-id-sight-clause-waited g c = waited_further _ _ _ c.end_seen-ended.ensures.waited c.sight-sight.ensures.waited

pub returns-then-id-sight-clause-awaited : goal.returns-then-id-sight-clause-awaited
returns-then-id-sight-clause-awaited g c =
    let e = c.end_seen-ended.ensures in let s = c.sight-sight.ensures in
    awaited_read (g.P.Pacer.shows c.args.pacer.now) c.stamp-by.result _ _ _ _ c.args.channel c.args.id c.args.limit c.get-object.result c.sight-sight.result.place _ c.sight-sight.result.received c.only-given.result _
    (same_stamp c.stamp-by.result _ _ _ _ c.stamp-by.ensures (s.state ∙ e.state) (s.next ∙ e.next)) c.get-object.ensures.number c.if-id-sight.true c.only-given.ensures.0 c.only-given.ensures.1 c.asked.ensures
    (seen_from _ _ _ _ _ _ _ c.get-object.result c.sight-sight.result.place _ _ e.waited e.state e.items s.seen)

pub returns-in-Ok-Some-clause-holding : goal.returns-in-Ok-Some-clause-holding
returns-in-Ok-Some-clause-holding g c = holds_on _ _ _ _ _ c.sight-sight.ensures.holding

pub returns-in-Ok-Some-clause-waited : goal.returns-in-Ok-Some-clause-waited
returns-in-Ok-Some-clause-waited g c = waited_further _ _ _ c.end_seen-ended.ensures.waited c.sight-sight.ensures.waited

pub returns-in-Ok-Some-clause-awaited : goal.returns-in-Ok-Some-clause-awaited
returns-in-Ok-Some-clause-awaited g c =
    let e = c.end_seen-ended.ensures in let s = c.sight-sight.ensures in
    awaited_late (g.P.Pacer.shows c.args.pacer.now) c.stamp-by.result _ _ _ _ (Await c.args.channel c.args.id c.args.limit) c.get-object.result c.sight-sight.result.place c.args.limit c.readings_past-late.result _
    (same_stamp c.stamp-by.result _ _ _ _ c.stamp-by.ensures (s.state ∙ e.state) (s.next ∙ e.next)) c.get-object.ensures.number refl c.readings_past-late.ensures.passed
    (if_some c.in-Ok-Some.field-0 c.in-Ok-Some.action (IsLate c.stamp-by.result c.get-object.result c.sight-sight.result.place (Await c.args.channel c.args.id c.args.limit) c.readings_past-late.result) c.in-Ok-Some.field-0-is c.in-Ok-Some.ensures.late)
    (await_open c.args.channel c.args.id c.args.limit _ _ _ _ c.get-object.result c.sight-sight.result.place _ c.sight-sight.result.received c.if-id-sight.false
    (seen_from _ _ _ _ _ _ _ c.get-object.result c.sight-sight.result.place _ _ e.waited e.state e.items s.seen))

pub returns-in-Ok-None-clause-waited : goal.returns-in-Ok-None-clause-waited
returns-in-Ok-None-clause-waited g c = waited_further _ _ _ c.end_seen-ended.ensures.waited c.sight-sight.ensures.waited

pub returns-in-Err-clause-waited : goal.returns-in-Err-clause-waited
returns-in-Err-clause-waited g c = waited_further _ _ _ c.end_seen-ended.ensures.waited c.sight-sight.ensures.waited

pub returns-in-Err-clause-stopped : goal.returns-in-Err-clause-stopped
returns-in-Err-clause-stopped g c = λ stop is.
    let e = c.end_seen-ended.ensures in let s = c.sight-sight.ensures in
    stopped_waiting c.args.self.now.state _ _ _ (Await c.args.channel c.args.id c.args.limit) c.get-object.result c.sight-sight.result.place c.end_seen-ended.result stop c.get-object.ensures.number
    (ended_through c.end_seen-ended.result _ _ _ e.ended s.board) (c.unanswered.ensures.stopped stop (c.in-Err.is ∙ is))
    (await_open c.args.channel c.args.id c.args.limit _ _ _ _ c.get-object.result c.sight-sight.result.place _ c.sight-sight.result.received c.if-id-sight.false
    (seen_from _ _ _ _ _ _ _ c.get-object.result c.sight-sight.result.place _ _ e.waited e.state e.items s.seen))
