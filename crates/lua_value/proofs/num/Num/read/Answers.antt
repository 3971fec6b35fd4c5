use Rattle.lua_value.proofs.Words.{read_some, read_none}
use Rattle.lua_value.proofs.num.Num.read.Goals as goal

pub returns-clause-some : goal.returns-clause-some
returns-clause-some c = read_some c.args.text.now _ c.number.ensures

pub returns-clause-none : goal.returns-clause-none
returns-clause-none c = read_none c.args.text.now _ c.number.ensures
