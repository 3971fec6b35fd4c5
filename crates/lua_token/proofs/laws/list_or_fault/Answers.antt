use Rattle.lua_token.proofs.Once.{list_or_fault as proved}
use Rattle.lua_token.proofs.laws.list_or_fault.Goals as goal

pub returns : goal.returns
returns c = proved
