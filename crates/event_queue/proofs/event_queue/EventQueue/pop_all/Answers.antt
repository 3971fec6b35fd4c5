use Rattle.std.proofs.Common.{ap, ◌∙◌}
use Rattle.event_queue.proofs.Rule.{can_pop, learns}
use Rattle.event_queue.proofs.event_queue.EventQueue.pop_all.Goals as goal

pub pop_as-requires-clause-rule : goal.pop_as-requires-clause-rule
pop_as-requires-clause-rule g c = (can_pop _ _ (ap (λ v. v.number) c.loop.invariant.3 ∙ c.requires.first), learns _ _)
