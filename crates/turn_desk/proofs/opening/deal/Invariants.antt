use Rattle.std.proofs.Common.{◌≡◌, ◌+◌, [], map}
use Rattle.std.specs.List.{range_with_len}
use Rattle.turn_desk.specs.Opening.{opening_pass}
use Rattle.turn_desk.specs.View.{opening}
use Rattle.turn_desk.proofs.opening.deal.Given as goal

abbrev pub invariant-loop-others : goal.invariant-loop-others
invariant-loop-others g l =
    (l.seat.table_id ≡ l.fn.seat.table_id)
    × (l.seat.me ≡ (opening 1 (l.others + 2) l.seats 0 l.fn.seat.me.0.fixed, []))
    × (l.passes.items ≡ map (opening_pass (record { table = l.fn.seat.table_id; seats = l.seats }) l.fn.seat.me.0.fixed) (range_with_len 2 l.others))
