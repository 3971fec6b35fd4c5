use Rattle.event_queue.proofs.Rule.{opens}
use Rattle.event_queue.proofs.event_queue.EventQueue.new.Goals as goal

pub with_rule-requires : goal.with_rule-requires
with_rule-requires c = opens
