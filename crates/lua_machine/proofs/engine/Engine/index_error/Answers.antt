use Rattle.lua_machine.proofs.Settings.{raised_unindexed}
use Rattle.lua_machine.proofs.engine.Engine.index_error.Goals as goal

pub returns : goal.returns
returns c = raised_unindexed c.fault.result c.args.self.now c.fault.new.self c.args.value c.of.result c.of.ensures c.fault.ensures
