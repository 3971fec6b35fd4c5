use Rattle.lua_token.proofs.Values.{long_value_is}
use Rattle.lua_token.proofs.value.long_value.Goals as goal

pub returns : goal.returns
returns c = long_value_is c.args.opened c.args.size c.args.text.now c.long_bytes.result c.requires.stands c.long_bytes.ensures
