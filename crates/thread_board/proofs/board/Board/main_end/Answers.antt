use Rattle.std.proofs.Common.{◌<◌, ap, ◌∙◌, length-append, vec_capacity}
use Rattle.thread_board.specs.View.{BoardView}
use Rattle.thread_board.specs.Register.{Register, register}
use Rattle.thread_board.specs.Lawful.{IsLater}
use Rattle.thread_board.proofs.Soundness.{IsSound-main_end}
use Rattle.thread_board.proofs.board.Board.main_end.Goals as goal

pub invariant_of-self : goal.invariant_of-self
invariant_of-self c =
    let history = ap (λ (v : BoardView). v.history) c.self.view_is in
    let stands = c.self.invariant.same ∙ ap (λ (v : BoardView). register v.history) c.self.view_is in
    let later : IsLater c.self.inside.history.items c.args.by = rw history c.requires.later in
    let open' = ap (λ (r : Register). r.main_end) stands ∙ c.requires.open_until_now in
    let some : 0 < c.self.inside.workers = rw (ap (λ (v : BoardView). v.workers) c.self.view_is) c.requires.workers in
    rw (c.append-place.ensures.place, c.append-place.ensures.items, length-append)
    (IsSound-main_end _ _ _ _ _ (vec_capacity c.append-place.new.history) c.args.by c.self.invariant c.requires.main open' some later c.append-place.ensures.capacity)
