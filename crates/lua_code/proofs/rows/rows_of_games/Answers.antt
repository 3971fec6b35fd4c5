use Rattle.lua_code.proofs.of_rows.Games.{rows_of_games as proved}
use Rattle.lua_code.proofs.rows.rows_of_games.Goals as goal

pub returns : goal.returns
returns c = proved
