use Rattle.std.proofs.Common.{◌≡◌, ◌++◌, List}
use Rattle.crossbeam_queue.specs.SegTies.{IsSegPassOf}
use Rattle.variant.specs.declared.event.Sent.{Sent}
use Rattle.event_queue.specs.Closing.{all_popped}
use Rattle.event_queue.proofs.event_queue.EventQueue.pop_all.Given as goal

abbrev pub invariant-loop : goal.invariant-loop
invariant-loop g l =
    IsSegPassOf l.self.ruled l.seat
    × (popped : List Sent)
    × (l.into.items ≡ l.fn.into.items ++ popped)
    × (l.seat.me.view.client ≡ all_popped popped l.fn.seat.me.view.client)
