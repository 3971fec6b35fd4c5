use Rattle.event_queue.proofs.Rule.{can_give}
use Rattle.event_queue.proofs.event_queue.EventQueue.note_given.Goals as goal

pub another-requires-clause-rule : goal.another-requires-clause-rule
another-requires-clause-rule g c = can_give _ _ _ c.requires.first
