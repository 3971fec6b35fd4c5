use Rattle.lua_lib.proofs.ReadsBack.{read-answer}
use Rattle.lua_lib.proofs.basic.read.Goals as goal

pub returns : goal.returns
returns c = read-answer c.args.text.now c.read.result c.read.ensures.some c.read.ensures.none
