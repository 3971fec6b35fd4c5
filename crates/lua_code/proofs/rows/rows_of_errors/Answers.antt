use Rattle.lua_code.proofs.of_rows.Errors.{rows_of_errors as proved}
use Rattle.lua_code.proofs.rows.rows_of_errors.Goals as goal

pub returns : goal.returns
returns c = proved
