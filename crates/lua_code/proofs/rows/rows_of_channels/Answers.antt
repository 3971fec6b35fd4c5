use Rattle.lua_code.proofs.of_rows.Channels.{rows_of_channels as proved}
use Rattle.lua_code.proofs.rows.rows_of_channels.Goals as goal

pub returns : goal.returns
returns c = proved
