use Rattle.std.proofs.Common.{◌≡◌, All, map, vec_len}
use Rattle.turn_desk.specs.Closing.{HoldsNothing, Gathers, views_of}
use Rattle.turn_desk.proofs.closing.join_all.Given as goal

abbrev pub invariant-loop-pass : goal.invariant-loop-pass
invariant-loop-pass g l = record {
  own : l.seat.table_id ≡ l.table.shared.table_id;
  desk : All (λ p. p.desk ≡ record { table = l.table.shared.table_id; seats = vec_len l.fn.rows }) l.passes.items;
  free : All (λ p. HoldsNothing p.view) l.passes.items;
  rows : vec_len l.rows ≡ vec_len l.fn.rows;
  gathered : Gathers (vec_len l.fn.rows) l.table.shared.table_id.slots (views_of l.fn.passes.items) (views_of l.passes.items) (map (λ r. r.items) l.fn.rows.items) (map (λ r. r.items) l.rows.items) l.seat.me;
}

abbrev pub decreases-loop-pass : goal.decreases-loop-pass
decreases-loop-pass g l = vec_len l.passes
