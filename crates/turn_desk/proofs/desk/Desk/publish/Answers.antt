use Rattle.std.proofs.Common.{rules, ◌+◌, ◌≤◌, length, subst, ap, ◌∙◌, arith}
use Rattle.turn_desk.specs.View.{spot, published}
use Rattle.turn_desk.proofs.Gives.{can_publish}
use Rattle.turn_desk.proofs.desk.Desk.publish.Goals as goal

pub swap-requires : goal.swap-requires
swap-requires g c = let l = g.O.Logged in let seat = c.args.seat.now in let log = l.history c.args.value.now in (
  search rules,
  (let e = c.turn_word-word.ensures in let words = c.self.invariant.0 in let inside = c.requires.object in let slots = ap (λ d. d.table.slots) c.self.view_is in omega arith),
  rw (c.requires.said, c.turn_word-word.ensures) (can_publish l.history l.fixed_number l.summed l.between c.self.inside.table.shared.table_id.slots c.args.object seat.id _ log seat.me
      (search rules) c.requires.taken c.requires.ready c.requires.grown c.requires.between (omega arith) (omega arith) (omega arith)),
)

pub returns-clause-published : goal.returns-clause-published
returns-clause-published g c = (c.swap.ensures.2 c.args.object (ap (λ n. n + 1) c.turn_word-word.ensures)).0
    ∙ ap (λ log. (published c.args.object log c.args.seat.now.me.0, c.args.seat.now.me.1)) c.requires.said

pub returns-clause-front : goal.returns-clause-front
returns-clause-front g c = subst (λ log. (spot c.args.seat.now.me.0 c.args.object).front ≤ length log) c.requires.said (c.swap.ensures.2 c.args.object (ap (λ n. n + 1) c.turn_word-word.ensures)).1
