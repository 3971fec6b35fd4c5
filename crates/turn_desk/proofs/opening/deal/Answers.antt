use Rattle.std.proofs.Common.{◌≡◌, ◌<◌, ◌≤◌, ◌+◌, [], sym, subst, ap, ◌∙◌, arith}
use Rattle.turn_desk.specs.View.{makes_one, newcomer, opening}
use Rattle.turn_desk.proofs.Dealing.{deal_one, deal_all}
use Rattle.turn_desk.proofs.Seats.{can_split}
use Rattle.turn_desk.proofs.opening.deal.Goals as goal

pub split_seat-other-requires : goal.split_seat-other-requires
split_seat-other-requires g c = let l = g.O.Logged in let seat = c.loop-others.seat in let so_far = c.loop-others.invariant in let view = ap (λ m. m.0) so_far.1 in (
  so_far.0 ∙ c.requires.own.0,
  c.requires.own.1,
  can_split l.history l.fixed_number l.summed l.between seat.id seat.me.0
      (subst (λ v. 0 < v.next) (sym view) (omega arith)) (subst (λ v. 0 < v.number) (sym view) (omega arith)) (subst (λ v. v.next ≤ v.seats) (sym view) (omega arith)),
)

pub loop-others-preserved : goal.loop-others-preserved
loop-others-preserved g c = let so_far = c.loop-others.invariant in let others = c.loop-others.others in let seats = c.args.seats in let fixed = c.args.seat.me.0.fixed in let split = c.split_seat-other.ensures in
    let number : others + 2 + 1 ≡ others + 1 + 2 = omega arith in (
      split.0 ∙ so_far.0,
      split.2 ∙ (ap (λ m. (makes_one m.0, m.1)) so_far.1 ∙ ap (λ n. (opening 1 n seats 0 fixed, [])) number),
      deal_one c.args.seat.table_id others seats fixed c.split_seat-other.result.table_id c.split_seat-other.result.me.0 c.in_ok-pass.pass _ _
          (split.3 ∙ so_far.0) (ap (λ m. m.0) split.4 ∙ ap (λ m. newcomer m.0) so_far.1) c.in_ok-pass.ensures so_far.2 c.in_ok-push.ensures.items,
    )

pub returns : goal.returns
returns g c = let so_far = c.loop-others.invariant in let others = c.loop-others.others in let seats = c.args.seats in let fixed = c.args.seat.me.0.fixed in
    deal_all c.args.seat.table_id others seats fixed c.loop-others.seat.table_id c.loop-others.seat.me.0 c.in_ok-first.first _ _ (omega arith) so_far.0 (ap (λ m. m.0) so_far.1) c.in_ok-first.ensures so_far.2 c.in_ok-insert.ensures.items
