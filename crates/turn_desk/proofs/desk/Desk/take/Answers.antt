use Rattle.std.proofs.Common.{rules, ap, arith}
use Rattle.turn_desk.proofs.Takes.{can_take}
use Rattle.turn_desk.proofs.desk.Desk.take.Goals as goal

pub compare_exchange-requires : goal.compare_exchange-requires
compare_exchange-requires g c = let l = g.O.Logged in let seat = c.args.seat.now in let q = c.requires in (
  search rules,
  (let e = c.turn_word-word.ensures in let words = c.self.invariant.0 in let inside = q.object in let slots = ap (λ d. d.table.slots) c.self.view_is in omega arith),
  rw c.turn_word-word.ensures (can_take l.history l.fixed_number l.summed l.between c.self.inside.table.shared.table_id.slots c.args.number c.args.object seat.id seat.me
      (search rules) q.number.0 q.number.1 q.ready.0 q.ready.1 q.free),
)

pub returns-clause-took : goal.returns-clause-took
returns-clause-took g c = c.compare_exchange.ensures.2 c.args.object c.turn_word-word.ensures
