use Rattle.lua_table.proofs.KeysLemmas.{index_of-bound}
use Rattle.lua_table.proofs.keys.Keys.find.Goals as goal

pub returns-clause-within : goal.returns-clause-within
returns-clause-within g c = index_of-bound g.K.PartialEq.eq c.args.key.now c.args.self.now c.looked_up.result c.looked_up.ensures
