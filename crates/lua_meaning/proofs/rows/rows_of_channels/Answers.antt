use Rattle.lua_meaning.proofs.of_rows.Channels.{rows_of_channels as proved}
use Rattle.lua_meaning.proofs.rows.rows_of_channels.Goals as goal

pub returns : goal.returns
returns c = proved
