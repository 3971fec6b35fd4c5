use Rattle.lua_meaning.proofs.Runs.{replies_extend as proved}
use Rattle.lua_meaning.proofs.laws.replies_extend.Goals as goal

pub returns : goal.returns
returns c = proved
