use Rattle.std.proofs.Common.{rules, None, Some}
use Rattle.lua_lib.specs.Runs.{value_or_none}
use Rattle.lua_lib.proofs.Running.{runs-ok}
use Rattle.lua_lib.proofs.call.answers.one_or_none.Goals as goal

pub returns-in-Ok-Some-clause-calls : goal.returns-in-Ok-Some-clause-calls
returns-in-Ok-Some-clause-calls c = λ before after part runs.
    c.some.ensures.calls before after part
    (runs-ok (value_or_none after.texts) before after part c.args.given (Some c.in-Ok-Some.value) (search rules) runs)

pub returns-in-Ok-None-clause-calls : goal.returns-in-Ok-None-clause-calls
returns-in-Ok-None-clause-calls c = λ before after part runs.
    c.some-in-Ok-None.ensures.calls before after part
    (runs-ok (value_or_none after.texts) before after part c.args.given None (search rules) runs)
