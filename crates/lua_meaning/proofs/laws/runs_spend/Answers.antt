use Rattle.lua_meaning.proofs.Runs.{runs_spend as proved}
use Rattle.lua_meaning.proofs.laws.runs_spend.Goals as goal

pub returns : goal.returns
returns c = proved
