use Rattle.lua_meaning.proofs.of_rows.Library.{rows_of_library as proved}
use Rattle.lua_meaning.proofs.rows.rows_of_library.Goals as goal

pub returns : goal.returns
returns c = proved
