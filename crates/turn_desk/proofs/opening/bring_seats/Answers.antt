use Rattle.turn_desk.proofs.SetUp.{can_bring_seats}
use Rattle.turn_desk.proofs.opening.bring_seats.Goals as goal

pub load-requires : goal.load-requires
load-requires g c = let l = g.O.Logged in let seat = c.args.seat.now in let q = c.requires in
    (q.own, q.word, rw q.said (can_bring_seats l.history l.fixed_number l.summed l.between _ c.args._seats seat.id seat.me q.few.0 q.few.1 q.first.0 q.first.1 q.first.2))
