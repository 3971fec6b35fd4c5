-- What a report says of a game.
use Rattle.std.specs.Prelude.{◌≡◌, ℕ, List, [], ◌∷◌, IfSome, Option}
use Rattle.std.specs.Option.{option_map_or}
use Rattle.love_base.specs.Folder.{File}
use Rattle.variant.specs.Histories.{AtEach}
use Rattle.variant.specs.declared.ask.Ask.{Ask}
use Rattle.channel_core.specs.declared.entry.Entry.{Entry}
use Rattle.thread_board.specs.View.{BoardView}
use Rattle.lua_meaning.specs.Run.{Start}
use Rattle.lua_state.specs.Solo.{IsDone, board_after, held_after}
use Rattle.lua_state.specs.Cuts.{CutsFollow, asked_in}
use Rattle.lua_state.specs.Runs.{AreChannels, AreFree, HoldsAt, IsMainRecord, IsMainStart, Ran}
use Rattle.lua_state.specs.declared.record.StateRecord.{StateRecord}
use Rattle.love_run.specs.Command.{Word, settings}
use Rattle.love_run.specs.Game.{GameFile, IsGame}

-- the folder that the words name
abbrev pub folder_named : List Word → Word
folder_named words = option_map_or (λ line. line.folder) (settings words) []

-- the ticks of each state that they give
abbrev pub steps_given : List Word → ℕ
steps_given words = option_map_or (λ line. line.steps) (settings words) 0

-- a board without workers on which nothing was done
abbrev pub empty_board : BoardView
empty_board = record { workers = 0; history = [] }

-- nothing ran
pub record IsUnbegun (records : List StateRecord) (histories : List (List Entry)) (view : BoardView) : Type 0 where
  pub states : records ≡ []
  pub channels : histories ≡ []
  pub board : view ≡ empty_board

-- A lawful record of state 0, with the Channels and the board that its actions made: each action is what its
-- deed comes to behind the ones before it, and what it printed, its asks and its end are those of the run
-- that `main.lua` means under the replies of these actions.
pub record IsLawful (game : List GameFile) (steps : ℕ) (ran : StateRecord) (histories : List (List Entry)) (view : BoardView) : Type 0 where
  pub is_main : IsMainRecord ran
  pub actions : AtEach IsDone ran.trace.actions
  pub cuts : CutsFollow ran.trace.actions
  pub whole : HoldsAt ran.end (held_after (asked_in ran.trace.actions))
  pub waiting : Option Ask
  pub run : (start : Start) × IsMainStart game steps start
      × Ran start ran.trace.actions ran.out ran.end waiting
  pub board : view ≡ record { workers = 0; history = board_after ran.trace.actions }
  pub channels : AreChannels ran.trace.actions histories
  pub free : AreFree histories

-- the game ran, with state 0 alone
pub record RanOn (game : List GameFile) (steps : ℕ) (records : List StateRecord) (histories : List (List Entry)) (view : BoardView) : Type 0 where
  pub ran : StateRecord
  pub states : records ≡ ran ∷ []
  pub lawful : IsLawful game steps ran histories view

-- the game of the folder ran, with the ticks that the words give
abbrev pub HasRun : Option (List File) → List Word → List StateRecord → List (List Entry) → BoardView → Type 0
HasRun told words records histories view =
    (game : List GameFile) × IfSome told (λ files. IsGame files game)
    × RanOn game (steps_given words) records histories view
