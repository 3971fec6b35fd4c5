use Rattle.lua_code.proofs.Stepping.{keeping as proved}
use Rattle.lua_code.proofs.laws.keeps.Goals as goal

pub returns : goal.returns
returns c = proved
