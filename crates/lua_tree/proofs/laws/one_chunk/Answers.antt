use Rattle.lua_tree.proofs.Exactly.{one_chunk as proved}
use Rattle.lua_tree.proofs.laws.one_chunk.Goals as goal

pub returns : goal.returns
returns c = proved
