use Rattle.lua_token.proofs.Once.{one_list as proved}
use Rattle.lua_token.proofs.laws.one_list.Goals as goal

pub returns : goal.returns
returns c = proved
