use Rattle.std.proofs.Common.{subst, ap, ◌∙◌}
use Rattle.crossbeam_queue.specs.SegTies.{IsSegPassOf}
use Rattle.event_queue.proofs.Dealing.{deal_one, makes_more}
use Rattle.event_queue.proofs.Rule.{can_make}
use Rattle.event_queue.proofs.event_queue.EventQueue.deal.Goals as goal

pub another-seat-requires-clause-rule : goal.another-seat-requires-clause-rule
another-seat-requires-clause-rule c = can_make _ _ (ap (λ v. v.number) c.loop-others.invariant.1)

pub loop-others-preserved : goal.loop-others-preserved
loop-others-preserved c = let so_far = c.loop-others.invariant in let made = c.another-seat.ensures in let others = c.loop-others.others in (
  subst (λ q. IsSegPassOf q c.another-seat.new.pass) (ap (λ q. q.ruled) c.self.view_is) made.queue.0,
  made.rule.0 ∙ makes_more others _ so_far.1,
  deal_one c.args.self.now others c.pass-pass.result _ _ c.pass-pass.ensures so_far.2 c.in_ok-push.ensures.items,
)
