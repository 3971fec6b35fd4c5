use Rattle.lua_value.proofs.Ranges.{neg-neg}
use Rattle.lua_value.proofs.laws.negation_undoes_itself.Goals as goal

pub returns : goal.returns
returns c = neg-neg
