use Rattle.lua_code.proofs.Advancing.{growing as proved}
use Rattle.lua_code.proofs.laws.grows.Goals as goal

pub returns : goal.returns
returns c = proved
