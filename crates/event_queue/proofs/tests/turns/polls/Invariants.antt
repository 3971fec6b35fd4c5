use Rattle.std.proofs.Common.{◌≡◌}
use Rattle.event_queue.proofs.tests.turns.polls.Given as goal

abbrev pub invariant-loop : goal.invariant-loop
invariant-loop g l = (l.first.queue ≡ l.queue) × (l.first.number ≡ 1)
