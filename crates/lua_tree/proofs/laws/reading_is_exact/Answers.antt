use Rattle.lua_tree.proofs.Exactly.{exact as proved}
use Rattle.lua_tree.proofs.laws.reading_is_exact.Goals as goal

pub returns : goal.returns
returns c = proved
