use Rattle.lua_meaning.proofs.of_rows.Scopes.{rows_of_scopes as proved}
use Rattle.lua_meaning.proofs.rows.rows_of_scopes.Goals as goal

pub returns : goal.returns
returns c = proved
