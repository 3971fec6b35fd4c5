use Rattle.lua_meaning.proofs.of_rows.Games.{rows_of_games as proved}
use Rattle.lua_meaning.proofs.rows.rows_of_games.Goals as goal

pub returns : goal.returns
returns c = proved
