use Rattle.lua_code.proofs.Trees.{all_sound as proved}
use Rattle.lua_code.proofs.laws.valid_is_sound.Goals as goal

pub returns : goal.returns
returns c = proved
