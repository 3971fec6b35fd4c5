-- Which histories a board can have.
use Rattle.std.specs.Prelude.{◌≡◌, ℕ, ◌<◌, List, Some, All}
use Rattle.love_base.specs.declared.stamp.Stamp.{Stamp}
use Rattle.variant.specs.Histories.{AtEach}
use Rattle.variant.specs.declared.action.Deed.{Deed}
use Rattle.thread_board.specs.declared.entry.BoardEntry.{BoardEntry}
use Rattle.thread_board.specs.Answers.{Answer, IsAnswer}

-- a stamp whose number is greater than each number of its state in these entries
abbrev pub IsLater : List BoardEntry → Stamp → Type 0
IsLater before by = All (λ e. e.by.state ≡ by.state → e.by.number < by.number) before

-- entries whose numbers are all below n, whatever their states
abbrev pub NumbersBelow : ℕ → List BoardEntry → Type 0
NumbersBelow n h = All (λ e. e.by.number < n) h

-- an entry that may follow these ones: that of some deed of its state
pub record MayFollow (workers : ℕ) (before : List BoardEntry) (e : BoardEntry) : Type 0 where
  pub deed : Deed
  pub given : Answer
  pub answered : IsAnswer workers deed e.by.state before given
  pub adds : given.change ≡ Some e.what
  pub number : IsLater before e.by

-- a history in which each entry may follow the ones before it
abbrev pub IsLawful : ℕ → List BoardEntry → Type 0
IsLawful workers h = AtEach (MayFollow workers) h
