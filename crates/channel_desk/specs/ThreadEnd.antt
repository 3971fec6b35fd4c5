-- What a wait for the end of a Thread comes to.
use Rattle.std.specs.Prelude.{◌≡◌, ◌≢◌, ℕ, Bool, List, is_some, Option, None}
use Rattle.variant.specs.declared.ask.Ask.TheVariants.{WaitFor}
use Rattle.variant.specs.declared.action.Deed.{Deed}
use Rattle.variant.specs.declared.action.Deed.TheVariants.{Asked}
use Rattle.variant.specs.declared.action.Stop.{Stop}
use Rattle.thread_board.specs.declared.entry.BoardEntry.{BoardEntry}
use Rattle.thread_board.specs.Answers.{answer}
use Rattle.thread_board.specs.Register.{register, state_of}
use Rattle.turn_desk.specs.declared.view.View.{View}
use Rattle.turn_desk.specs.View.{spot}
use Rattle.channel_desk.specs.declared.shared.SharedEntry.{SharedEntry}
use Rattle.channel_desk.specs.Shared.{board_entries}
use Rattle.channel_desk.specs.Acting.{IsEnded}

-- the deed
abbrev pub waits_for : ℕ → Deed
waits_for thread = Asked (WaitFor thread)

-- what a board with this history tells of a Thread, and of state 0's end
pub record IsRunningAt (h : List BoardEntry) (thread : ℕ) (live : Bool) (main_end : Option ℕ) : Type 0 where
  pub runs : is_some (state_of (register h) thread) ≡ live
  pub ended : (register h).main_end ≡ main_end

-- a state other than 0 was stopped at a wait for a Thread: the board was taken after state 0's end, and the
-- Thread ran then
pub record IsStoppedWaiting (state : ℕ) (w : View SharedEntry) (thread : ℕ) (stop : Stop) : Type 0 where
  pub not_main : state ≢ 0
  pub asked : stop.ask ≡ WaitFor thread
  pub object : stop.object ≡ 0
  pub place : stop.place ≡ stop.board_place
  pub busy : stop.busy ≡ None
  pub ended : IsEnded w stop.board_place stop.main_end
  pub unanswered : (workers worker : ℕ) → answer workers worker (waits_for thread) state (board_entries (spot w 0).known) ≡ None
