use Rattle.lua_code.proofs.Talking.{talk as proved}
use Rattle.lua_code.proofs.laws.talks.Goals as goal

pub returns : goal.returns
returns c = proved
