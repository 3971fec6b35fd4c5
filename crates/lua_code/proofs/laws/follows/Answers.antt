use Rattle.lua_code.proofs.Following.{follows as proved}
use Rattle.lua_code.proofs.laws.follows.Goals as goal

pub returns : goal.returns
returns c = proved
