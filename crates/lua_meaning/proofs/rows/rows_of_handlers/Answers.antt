use Rattle.lua_meaning.proofs.of_rows.Handlers.{rows_of_handlers as proved}
use Rattle.lua_meaning.proofs.rows.rows_of_handlers.Goals as goal

pub returns : goal.returns
returns c = proved
