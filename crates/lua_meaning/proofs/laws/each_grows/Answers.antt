use Rattle.lua_meaning.proofs.Runs.{each_grows as proved}
use Rattle.lua_meaning.proofs.laws.each_grows.Goals as goal

pub returns : goal.returns
returns c = proved
