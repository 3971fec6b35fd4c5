use Rattle.std.proofs.Common.{◌≡◌, ◌++◌, take, drop}
use Rattle.turn_desk.proofs.kept.turn_by.Given as goal

abbrev pub invariant-loop : goal.invariant-loop
invariant-loop g l = (l.seat.table_id ≡ l.fn.seat.table_id) × (l.seat.id ≡ l.fn.seat.id) × (l.seat.me.0 ≡ l.fn.seat.me.0) × (l.seat.me.1 ≡ drop l.counter l.fn.seat.me.1 ++ take l.counter l.fn.seat.me.1)
