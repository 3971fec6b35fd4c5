use Rattle.lua_lib.proofs.Running.{runs-ok}
use Rattle.lua_lib.proofs.call.answers.nothing.Goals as goal

pub returns-in-Ok-clause-calls : goal.returns-in-Ok-clause-calls
returns-in-Ok-clause-calls c = λ before after part runs. c.some.ensures.calls before after part (runs-ok _ before after part _ _ c.in-Ok.is runs)
