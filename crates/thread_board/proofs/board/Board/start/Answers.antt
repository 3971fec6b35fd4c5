use Rattle.std.proofs.Common.{◌≤◌, ◌≡◌, ap, sym, subst, ◌∙◌, Some, None, arith, length-append, vec_capacity}
use Rattle.std.proofs.lemmas.Grind.{common_steps}
use Rattle.thread_board.specs.View.{BoardView}
use Rattle.thread_board.specs.Register.{Register, register, change_thread}
use Rattle.thread_board.specs.Sound.{owed, MayStart}
use Rattle.thread_board.specs.Lawful.{IsLater}
use Rattle.thread_board.proofs.Soundness.{IsSound-start_as, thread-may_start, state-may_start}
use Rattle.thread_board.proofs.board.Board.start.Goals as goal

pub set_thread-requires : goal.set_thread-requires
set_thread-requires c =
    let may : MayStart c.self.inside.workers (register c.self.inside.history.items) c.args.thread c.args.args c.in-Ok.job = subst (λ (v : BoardView). MayStart v.workers (register v.history) c.args.thread c.args.args c.in-Ok.job) (sym c.self.view_is) c.in-Ok.ensures.job in
    let may' = subst (λ (r : Register). MayStart c.self.inside.workers r c.args.thread c.args.args c.in-Ok.job) (sym c.self.invariant.same) may in
    record { made = thread-may_start _ _ _ _ _ may' }

pub invariant_of-self-2 : goal.invariant_of-self-2
invariant_of-self-2 c =
    let history = ap (λ (v : BoardView). v.history) c.self.view_is in
    let stands = c.self.invariant.same ∙ ap (λ (v : BoardView). register v.history) c.self.view_is in
    let later : IsLater c.self.inside.history.items c.args.by = rw history c.requires.later in
    let begun : c.args.by.state ≤ c.self.inside.begun = omega (arith, ap (λ (r : Register). r.begun) stands, c.requires.begun) in
    let owes = c.owed-owed.ensures ∙ ap (λ (v : BoardView). owed v.workers (register v.history)) (sym c.self.view_is) ∙ ap (λ (r : Register). owed c.self.inside.workers r) (sym c.self.invariant.same) in
    let may : MayStart c.self.inside.workers (register c.self.inside.history.items) c.args.thread c.args.args c.in-Ok.job = subst (λ (v : BoardView). MayStart v.workers (register v.history) c.args.thread c.args.args c.in-Ok.job) (sym c.self.view_is) c.in-Ok.ensures.job in
    let may' = subst (λ (r : Register). MayStart c.self.inside.workers r c.args.thread c.args.args c.in-Ok.job) (sym c.self.invariant.same) may in
    let pushed = rw c.unwrap.ensures at c.push.ensures.items in
    let number = state-may_start _ _ _ _ _ may' in
    let threads : c.set_thread.new.threads.items ≡ change_thread c.self.inside.threads.items c.args.thread (Some c.in-Ok.job.state) None = c.set_thread.ensures in
    rw (c.append-place.ensures.items, c.in_ok-reserve.ensures.items, threads, pushed, c.in_ok-reserve-2.ensures.items, c.in_ok-push_back.ensures.items, length-append)
    (IsSound-start_as _ _ _ _ _ (vec_capacity c.append-place.new.history) c.args.by c.in-Ok.job.state c.args.thread c.args.args c.in-Ok.job c.self.invariant may' number begun later (grind (arith, common_steps)))

pub returns-in-Err-clause-closed : goal.returns-in-Err-clause-closed
returns-in-Err-clause-closed c = λ place.
    let says = c.in-Err.ensures.closed place in
    (λ e. says.0 (cc), λ ended. let same = says.1 ended in cc)

pub returns-in-Err-clause-already : goal.returns-in-Err-clause-already
returns-in-Err-clause-already c = λ state.
    let says = c.in-Err.ensures.already state in
    (λ e. says.0 (cc), λ runs. let same = says.1 runs in cc)

pub returns-in-Err-clause-answer : goal.returns-in-Err-clause-answer
returns-in-Err-clause-answer c = c.in-Err.ensures.refused c.args.by.state

pub returns-in-Err-clause-many_running : goal.returns-in-Err-clause-many_running
returns-in-Err-clause-many_running c = λ count.
    let says = c.in-Err.ensures.many_running count in
    (λ e. says.0 (cc), λ busy. let same = says.1 busy in cc)
