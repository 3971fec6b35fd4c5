use Rattle.std.proofs.Common.{◌≡◌}
use Rattle.event_queue.proofs.tests.posts.send_all.Given as goal

abbrev pub invariant-loop-number : goal.invariant-loop-number
invariant-loop-number g l = (l.pass.queue ≡ l.queue) × (l.pass.number ≡ l.fn.pass.number)
