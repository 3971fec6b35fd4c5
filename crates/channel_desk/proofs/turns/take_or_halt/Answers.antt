use Rattle.std.proofs.Common.{◌∙◌, refl}
use Rattle.channel_desk.proofs.Waiting.{waited_same, waited_further, waited_refused, took_at_once, took_later, was_refused}
use Rattle.channel_desk.proofs.turns.take_or_halt.Goals as goal

pub loop-init : goal.loop-init
loop-init g c = (refl, waited_same _)

-- src/turns.rt:108:25
pub returns-in-Ok-clause-took : goal.returns-in-Ok-clause-took
returns-in-Ok-clause-took g c =
    let before = waited_further _ _ _ c.loop.invariant.1 c.main_end-ended.ensures.waited in
    took_later _ _ _ _ _ before (took_at_once _ _ _ _ (before.phases c.args.object ∙ c.requires.free) c.in-Ok.ensures.taken c.in-Ok.ensures.kept c.in-Ok.ensures.seen)

-- src/turns.rt:111:21
pub returns-in-Some-ended-clause-waited : goal.returns-in-Some-ended-clause-waited
returns-in-Some-ended-clause-waited g c =
    waited_further _ _ _ (waited_further _ _ _ c.loop.invariant.1 c.main_end-ended.ensures.waited) (waited_refused _ _ c.args.object c.in-Err.busy.seat c.in-Err.ensures.busy)

-- src/turns.rt:111:21
pub returns-in-Some-ended-clause-refused : goal.returns-in-Some-ended-clause-refused
returns-in-Some-ended-clause-refused g c =
    was_refused _ _ _ _ _ (waited_further _ _ _ c.loop.invariant.1 c.main_end-ended.ensures.waited) c.in-Err.ensures.busy c.in-Err.ensures.other

-- src/turns.rt:104:5
pub loop-preserved : goal.loop-preserved
loop-preserved g c = (
  c.try_hold.ensures.own ∙ (c.main_end-ended.ensures.own ∙ c.loop.invariant.0),
  waited_further _ _ _ (waited_further _ _ _ c.loop.invariant.1 c.main_end-ended.ensures.waited) (waited_refused _ _ c.args.object c.in-Err.busy.seat c.in-Err.ensures.busy),
)
