use Rattle.std.proofs.Common.{◌≤◌, ap, sym, ◌∙◌, arith, length-append, vec_capacity}
use Rattle.std.proofs.lemmas.Grind.{common_steps}
use Rattle.thread_board.specs.View.{BoardView}
use Rattle.thread_board.specs.Register.{Register, register}
use Rattle.thread_board.specs.Sound.{owed}
use Rattle.thread_board.specs.Lawful.{IsLater}
use Rattle.thread_board.proofs.Soundness.{IsSound-new_channel}
use Rattle.thread_board.proofs.board.Board.new_channel.Goals as goal

pub invariant_of-self-2 : goal.invariant_of-self-2
invariant_of-self-2 c =
    let history = ap (λ (v : BoardView). v.history) c.self.view_is in
    let stands = c.self.invariant.same ∙ ap (λ (v : BoardView). register v.history) c.self.view_is in
    let later : IsLater c.self.inside.history.items c.args.by = rw history c.requires.later in
    let begun : c.args.by.state ≤ c.self.inside.begun = omega (arith, ap (λ (r : Register). r.begun) stands, c.requires.begun) in
    let owes = c.owed-owed.ensures ∙ ap (λ (v : BoardView). owed v.workers (register v.history)) (sym c.self.view_is) ∙ ap (λ (r : Register). owed c.self.inside.workers r) (sym c.self.invariant.same) in
    rw (c.append-place.ensures.items, c.in_ok-reserve.ensures.items, length-append)
    (IsSound-new_channel _ _ _ _ _ (vec_capacity c.append-place.new.history) c.args.by c.self.invariant (omega arith) begun later (grind (arith, common_steps)))
