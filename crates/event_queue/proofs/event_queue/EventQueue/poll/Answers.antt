use Rattle.std.proofs.Common.{ap, ◌∙◌}
use Rattle.event_queue.proofs.Rule.{can_pop, learns}
use Rattle.event_queue.proofs.event_queue.EventQueue.poll.Goals as goal

pub pop_as-requires-clause-rule : goal.pop_as-requires-clause-rule
pop_as-requires-clause-rule g c = (can_pop _ _ (c.pass.invariant.0.named ∙ (ap (λ p. p.number) c.pass.view_is ∙ c.requires.first)), learns _ _)
