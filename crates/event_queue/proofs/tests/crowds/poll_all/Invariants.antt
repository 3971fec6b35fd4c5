use Rattle.std.proofs.Common.{◌≡◌, ◌≤◌}
use Rattle.event_queue.proofs.tests.crowds.poll_all.Given as goal

abbrev pub invariant-loop : goal.invariant-loop
invariant-loop g l = (l.pass.queue ≡ l.queue) × (l.pass.number ≡ 1) × (l.count ≤ l.plan.polled)
