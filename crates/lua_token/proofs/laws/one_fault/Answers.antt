use Rattle.lua_token.proofs.Once.{one_fault as proved}
use Rattle.lua_token.proofs.laws.one_fault.Goals as goal

pub returns : goal.returns
returns c = proved
