use Rattle.lua_meaning.proofs.Runs.{ends_stay as proved}
use Rattle.lua_meaning.proofs.laws.ends_stay.Goals as goal

pub returns : goal.returns
returns c = proved
