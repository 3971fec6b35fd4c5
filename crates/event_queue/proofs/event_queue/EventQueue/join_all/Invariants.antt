use Rattle.std.proofs.Common.{vec_len}
use Rattle.crossbeam_queue.specs.SegTies.{IsSegPassOf}
use Rattle.event_queue.proofs.Joining.{Gathers}
use Rattle.event_queue.proofs.event_queue.EventQueue.join_all.Given as goal

abbrev pub invariant-loop-pass : goal.invariant-loop-pass
invariant-loop-pass l = IsSegPassOf l.self.ruled l.seat × Gathers l.fn.passes.items l.passes.items l.self l.kept.items l.seat.me.view.client

abbrev pub decreases-loop-pass : goal.decreases-loop-pass
decreases-loop-pass l = vec_len l.passes
