use Rattle.lua_token.proofs.Values.{whole_run as proved}
use Rattle.lua_token.proofs.laws.whole_run.Goals as goal

pub returns : goal.returns
returns c = proved
