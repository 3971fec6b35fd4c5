-- That the game of the words ran.
use Rattle.std.proofs.Common.{◌≡◌, ℕ, List, [], Option, Some, IfSome, subst}
use Rattle.std.specs.Option.{option_map_or}
use Rattle.love_base.specs.Folder.{File}
use Rattle.channel_core.specs.declared.entry.Entry.{Entry}
use Rattle.thread_board.specs.View.{BoardView}
use Rattle.lua_state.specs.declared.record.StateRecord.{StateRecord}
use Rattle.love_run.specs.Command.{Line, Word, settings}
use Rattle.love_run.specs.Game.{GameFile, IsGame}
use Rattle.love_run.specs.Outcome.{HasRun, RanOn, folder_named}

-- what ran with the folder and the ticks of a line ran with those of its words
pub has_run : (files : List ℕ → Option (List File)) (words : List Word) (line : Line) (game : List GameFile) (states : List StateRecord) (channels : List (List Entry)) (board : BoardView) → Some line ≡ settings words → IfSome (files line.folder) (λ told. IsGame told game) → RanOn game line.steps states channels board → HasRun (files (folder_named words)) words states channels board
has_run files words line game states channels board is read ran =
    let Ran : Option Line → Type 0 = λ said.
    (g : List GameFile) × IfSome (files (option_map_or (λ l. l.folder) said [])) (λ told. IsGame told g)
    × RanOn g (option_map_or (λ l. l.steps) said 0) states channels board in
    subst Ran is (game, read, ran)
