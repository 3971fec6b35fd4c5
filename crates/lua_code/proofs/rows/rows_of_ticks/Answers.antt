use Rattle.lua_code.proofs.of_rows.Ticks.{rows_of_ticks as proved}
use Rattle.lua_code.proofs.rows.rows_of_ticks.Goals as goal

pub returns : goal.returns
returns c = proved
