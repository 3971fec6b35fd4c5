use Rattle.lua_lib.proofs.ReadsBack.{read-some, read-only}
use Rattle.lua_lib.proofs.laws.texts_are_read.Goals as goal

pub returns : goal.returns
returns c = λ text z. (read-only text z, λ h. read-some text z h.0 h.1)
