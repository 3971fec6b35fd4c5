use Rattle.std.proofs.Common.{◌≡◌, map}
use Rattle.std.specs.List.{range_with_len}
use Rattle.crossbeam_queue.specs.SegTies.{IsSegPassOf}
use Rattle.event_queue.specs.Passes.{new_pass}
use Rattle.event_queue.proofs.Dealing.{maker}
use Rattle.event_queue.proofs.event_queue.EventQueue.deal.Given as goal

abbrev pub invariant-loop-others : goal.invariant-loop-others
invariant-loop-others l =
    IsSegPassOf l.self.ruled l.first
    × (l.first.me.view.client ≡ maker l.others)
    × (l.passes.items ≡ map (new_pass l.self) (range_with_len 2 l.others))
