use Rattle.lua_token.proofs.Once.{all_stand, gives_only, outcome_fault, outcome_found}
use Rattle.lua_token.proofs.lexer.tokens.Goals as goal

pub returns-clause-found : goal.returns-clause-found
returns-clause-found c = outcome_found c.args.source.now c.cut.result c.cut.ensures

pub returns-clause-fault : goal.returns-clause-fault
returns-clause-fault c = outcome_fault c.args.source.now c.cut.result c.cut.ensures

pub returns-clause-only : goal.returns-clause-only
returns-clause-only c = λ answer h. gives_only c.args.source.now c.cut.result answer c.cut.ensures h

pub returns-clause-each : goal.returns-clause-each
returns-clause-each c = all_stand c.args.source.now c.cut.result c.cut.ensures
