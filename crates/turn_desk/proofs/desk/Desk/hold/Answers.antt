use Rattle.std.proofs.Common.{refl, ◌∙◌}
use Rattle.turn_desk.proofs.Callers.{takes_grew}
use Rattle.turn_desk.proofs.Views.{continues_noted, member_noted, noted_none, noted_more, takes_more}
use Rattle.turn_desk.proofs.desk.Desk.hold.Goals as goal

pub loop-init : goal.loop-init
loop-init g c = (refl, noted_none c.args.pass.now.view c.args.object)

pub loop-preserved : goal.loop-preserved
loop-preserved g c = let so_far = c.loop.invariant in let busy = c.in-Err.ensures in
    (busy.own ∙ so_far.0, noted_more c.args.pass.now.view c.loop.pass.view c.try_hold.new.pass.view c.args.object c.in-Err.busy.seat so_far.1 busy.busy busy.other)

pub returns-in-Ok-clause-taken : goal.returns-in-Ok-clause-taken
returns-in-Ok-clause-taken g c = takes_more c.args.pass.now.view c.loop.pass.view c.try_hold.new.pass.view c.args.object _ c.loop.invariant.1 c.in-Ok.ensures.taken

pub returns-in-Ok-clause-seen : goal.returns-in-Ok-clause-seen
returns-in-Ok-clause-seen g c = let l = g.O.Logged in continues_noted l.summed l.between c.args.pass.now.view c.loop.pass.view c.args.object _ c.loop.invariant.1 c.in-Ok.ensures.seen

pub returns-in-Ok-clause-was_member : goal.returns-in-Ok-clause-was_member
returns-in-Ok-clause-was_member g c = member_noted _ _ _ _ c.loop.invariant.0 c.loop.invariant.1 c.in-Ok.ensures.was_member

pub returns-in-Ok-clause-grew : goal.returns-in-Ok-clause-grew
returns-in-Ok-clause-grew g c = let l = g.O.Logged in takes_grew l.summed l.between c.args.pass.now.view c.try_hold.new.pass.view c.args.object _ (returns-in-Ok-clause-taken g c) c.in-Ok.ensures.kept (returns-in-Ok-clause-seen g c)
