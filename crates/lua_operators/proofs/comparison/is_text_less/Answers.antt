use Rattle.lua_operators.proofs.Ordered.{text_less}
use Rattle.lua_operators.proofs.comparison.is_text_less.Goals as goal

pub returns : goal.returns
returns c = text_less c.args.a.now c.args.b.now c.lt.result c.lt.ensures
