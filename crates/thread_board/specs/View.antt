-- The board as contracts see it.
use Rattle.std.specs.Prelude.{ℕ, List, [], ◌∷◌, ◌++◌}
use Rattle.love_base.specs.declared.stamp.Stamp.{Stamp}
use Rattle.thread_board.specs.declared.entry.BoardEntry.{BoardEntry}
use Rattle.thread_board.specs.declared.entry.BoardChange.{BoardChange}

-- the number of its workers, and its history, the oldest entry first
pub record BoardView : Type 0 where
  pub workers : ℕ
  pub history : List BoardEntry

-- a board with one entry more
abbrev pub with_entry : BoardView → Stamp → BoardChange → BoardView
with_entry board by change = record { workers = board.workers; history = board.history ++ record { by = by; what = change } ∷ [] }
