use Rattle.lua_token.proofs.Values.{some_value as proved}
use Rattle.lua_token.proofs.laws.some_value.Goals as goal

pub returns : goal.returns
returns c = proved
