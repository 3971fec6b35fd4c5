use Rattle.std.proofs.Common.{rules}
use Rattle.lua_lib.proofs.Reading.{argument-there, argument-absent, argument-made}
use Rattle.lua_lib.proofs.call.arguments.argument.Goals as goal

pub returns-in-Some-clause-value : goal.returns-in-Some-clause-value
returns-in-Some-clause-value c = λ texts. argument-there texts c.args.args.now c.args.n c.in-Some.value.now (search rules) (search rules)

pub returns-in-Some-clause-made : goal.returns-in-Some-clause-made
returns-in-Some-clause-made c = λ h made. argument-made h c.args.args.now c.args.n c.in-Some.value.now (search rules) (search rules) made

pub returns-in-None-clause-value : goal.returns-in-None-clause-value
returns-in-None-clause-value c = λ texts. argument-absent texts c.args.args.now c.args.n (search rules)
