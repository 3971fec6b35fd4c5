use Rattle.lua_tree.proofs.Exactly.{one_answer as proved}
use Rattle.lua_tree.proofs.laws.one_answer.Goals as goal

pub returns : goal.returns
returns c = proved
