use Rattle.std.proofs.Common.{append-nil, sym, refl, ap, ◌∙◌, arith}
use Rattle.atomic_table.specs.Table.{turned}
use Rattle.turn_desk.proofs.Rows.{turned_once}
use Rattle.turn_desk.proofs.kept.turn_by.Goals as goal

pub loop-init : goal.loop-init
loop-init g c = (refl, refl, refl, sym (append-nil c.args.seat.now.me.1))

pub loop-preserved : goal.loop-preserved
loop-preserved g c = let e = c.turn.ensures in let kept = c.loop.invariant in
    (e.0 ∙ kept.0, e.1 ∙ kept.1, ap (λ m. m.0) e.2 ∙ kept.2, ap (λ m. m.1) e.2 ∙ (ap turned kept.3 ∙ turned_once c.args.seat.now.me.1 c.loop.counter (omega arith)))
