use Rattle.lua_meaning.proofs.of_rows.Ticks.{rows_of_ticks as proved}
use Rattle.lua_meaning.proofs.rows.rows_of_ticks.Goals as goal

pub returns : goal.returns
returns c = proved
