use Rattle.std.proofs.Common.{◌≡◌, ◌++◌, length}
use Rattle.event_queue.proofs.closing.put_all.Given as goal

abbrev pub invariant-loop-event : goal.invariant-loop-event
invariant-loop-event l = l.into.items ++ l.events.items ≡ l.fn.into.items ++ l.fn.events.items

abbrev pub decreases-loop-event : goal.decreases-loop-event
decreases-loop-event l = length l.events.items
