use Rattle.lua_operators.proofs.Reading.{same_reading}
use Rattle.lua_operators.proofs.numbers.read.Goals as goal

pub returns : goal.returns
returns c = same_reading c.args.text.now c.read.result c.read.ensures.some c.read.ensures.none c.texts_are_read.ensures
