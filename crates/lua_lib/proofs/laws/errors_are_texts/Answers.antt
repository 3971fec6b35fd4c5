use Rattle.lua_lib.proofs.Texts.{error-value}
use Rattle.lua_lib.proofs.laws.errors_are_texts.Goals as goal

pub returns : goal.returns
returns c = error-value
