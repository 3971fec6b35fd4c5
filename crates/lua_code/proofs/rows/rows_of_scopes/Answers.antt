use Rattle.lua_code.proofs.of_rows.Scopes.{rows_of_scopes as proved}
use Rattle.lua_code.proofs.rows.rows_of_scopes.Goals as goal

pub returns : goal.returns
returns c = proved
