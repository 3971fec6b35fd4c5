use Rattle.std.proofs.Common.{◌+◌, ◌*◌, ◌^◌, ◌<◌, ◌≤◌, ℕ, List, Option, Some, None, length, ap, subst, arith}
use Rattle.thread_board.specs.declared.entry.BoardEntry.{BoardEntry}
use Rattle.thread_board.specs.Register.{Register}
use Rattle.thread_board.specs.Sound.{IsSound, ended_count}
use Rattle.thread_board.specs.View.{BoardView}
use Rattle.thread_board.proofs.board.Board.history.Goals as goal

ended_count-le : (place : Option ℕ) → ended_count place ≤ 1
ended_count-le None = omega arith
ended_count-le (Some place) = omega arith

-- a board's history is short
length-sound : (workers : ℕ) (h : List BoardEntry) (r : Register) (count room : ℕ) → IsSound workers h r count room → length h < 2 ^ 16
length-sound workers h r count room sound =
    let one = ended_count-le r.main_end in let total = sound.total in let channels = sound.channels in let threads = sound.threads in let states = sound.states in let begun = sound.begun in omega arith

pub returns-clause-few : goal.returns-clause-few
returns-clause-few c =
    subst (λ (h : List BoardEntry). length h < 2 ^ 16) (ap (λ (v : BoardView). v.history) c.self.view_is) (length-sound _ _ _ _ _ c.self.invariant)
