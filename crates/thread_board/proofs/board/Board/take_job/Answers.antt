use Rattle.std.proofs.Common.{◌≤◌, ◌≡◌, ap, ◌∷◌, length-append, vec_capacity}
use Rattle.thread_board.specs.View.{BoardView}
use Rattle.thread_board.proofs.Soundness.{IsSound-begin}
use Rattle.thread_board.proofs.board.Board.take_job.Goals as goal

pub invariant_of-self-2 : goal.invariant_of-self-2
invariant_of-self-2 c =
    let taken : c.self.inside.jobs.items ≡ c.in_ok-job.job ∷ c.pop_front.new.self.items = c.in_ok-job.ensures.items in
    let within : (1 ≤ c.args.worker) × (c.args.worker ≤ c.self.inside.workers) = rw (ap (λ (v : BoardView). v.workers) c.self.view_is) c.requires in
    rw (c.append.ensures.items, length-append, c.pop_front.ensures.rest)
    (IsSound-begin _ _ _ _ _ (vec_capacity c.append.new.history) c.args.worker c.in_ok-job.job c.pop_front.new.self.items c.self.invariant taken within c.append.ensures.capacity)
