use Rattle.lua_machine.proofs.Settings.{sets_found}
use Rattle.lua_machine.proofs.engine.Engine.set.Goals as goal

pub returns : goal.returns
returns c = sets_found c.store.result _ c.args.self.now c.store.new.self c.self.view_is c.args.base c.args.key.now c.args.value c.new_index-found.result c.new_index-found.ensures.setting c.store.ensures
