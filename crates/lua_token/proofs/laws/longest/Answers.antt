use Rattle.lua_token.proofs.Spellings.{longest as proved}
use Rattle.lua_token.proofs.laws.longest.Goals as goal

pub returns : goal.returns
returns c = proved
