use Rattle.std.proofs.Common.{rules, ◌≡◌, replicate, ap, ◌∙◌, arith}
use Rattle.turn_desk.proofs.Keeping.{keeps_new}
use Rattle.turn_desk.proofs.opening.make_pass.Goals as goal

pub invariant_of-result : goal.invariant_of-result
invariant_of-result g c = let fronts : c.in_ok-fronts.fronts.items ≡ replicate c.args.objects 0 = search rules in
    keeps_new c.args.number c.in_ok-fronts.fronts.items c.in_ok-kept.kept.items _ c.args.seat.table_id c.args.seat.me c.requires.made (fronts ∙ ap (λ n. replicate n 0) c.requires.objects) c.in_ok-kept.ensures.items (omega (arith, c.in_ok-kept.ensures.exact))
