use Rattle.lua_meaning.proofs.Runs.{asks_are_few as proved}
use Rattle.lua_meaning.proofs.laws.asks_are_few.Goals as goal

pub returns : goal.returns
returns c = proved
