use Rattle.lua_code.proofs.of_rows.Handlers.{rows_of_handlers as proved}
use Rattle.lua_code.proofs.rows.rows_of_handlers.Goals as goal

pub returns : goal.returns
returns c = proved
