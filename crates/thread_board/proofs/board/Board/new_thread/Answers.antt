use Rattle.std.proofs.Common.{◌+◌, ◌<◌, ◌≤◌, ◌≡◌, ap, sym, ◌∙◌, arith, length, length-append, vec_capacity}
use Rattle.std.proofs.lemmas.Grind.{common_steps}
use Rattle.thread_board.specs.View.{BoardView}
use Rattle.thread_board.specs.Register.{Register, register}
use Rattle.thread_board.specs.Sound.{owed}
use Rattle.thread_board.specs.Lawful.{IsLater}
use Rattle.thread_board.specs.Answers.{thread_limit}
use Rattle.thread_board.proofs.Soundness.{IsSound-new_thread}
use Rattle.thread_board.proofs.board.Board.new_thread.Goals as goal

pub invariant_of-self-2 : goal.invariant_of-self-2
invariant_of-self-2 c =
    let history = ap (λ (v : BoardView). v.history) c.self.view_is in
    let stands = c.self.invariant.same ∙ ap (λ (v : BoardView). register v.history) c.self.view_is in
    let later : IsLater c.self.inside.history.items c.args.by = rw history c.requires.later in
    let begun : c.args.by.state ≤ c.self.inside.begun = omega (arith, ap (λ (r : Register). r.begun) stands, c.requires.begun) in
    let owes = c.owed-owed.ensures ∙ ap (λ (v : BoardView). owed v.workers (register v.history)) (sym c.self.view_is) ∙ ap (λ (r : Register). owed c.self.inside.workers r) (sym c.self.invariant.same) in
    let number : c.len-thread.result ≡ length c.self.inside.threads.items + 1 = omega (arith, c.in_ok-push.ensures.len, c.len-thread.ensures, c.self.inside.threads.ok.0) in
    let few : length c.self.inside.threads.items < thread_limit = omega (arith, c.len.ensures, c.self.inside.threads.ok.0) in
    rw (c.append-place.ensures.items, c.in_ok-reserve.ensures.items, c.in_ok-push.ensures.items, c.in_ok-copy.ensures, number, length-append)
    (IsSound-new_thread _ _ _ _ _ (vec_capacity c.append-place.new.history) c.args.by c.args.source c.self.invariant few begun later (grind (arith, common_steps)))
