use Rattle.lua_code.proofs.of_rows.Library.{rows_of_library as proved}
use Rattle.lua_code.proofs.rows.rows_of_library.Goals as goal

pub returns : goal.returns
returns c = proved
