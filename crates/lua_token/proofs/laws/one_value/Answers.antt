use Rattle.lua_token.proofs.Values.{one_value as proved}
use Rattle.lua_token.proofs.laws.one_value.Goals as goal

pub returns : goal.returns
returns c = proved
