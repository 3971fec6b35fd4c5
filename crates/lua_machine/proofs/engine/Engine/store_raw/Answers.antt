use Rattle.lua_machine.proofs.Doing.{later_at}
use Rattle.lua_machine.proofs.Filling.{raw_stored}
use Rattle.lua_machine.proofs.engine.Engine.store_raw.Goals as goal

pub invariant_of-self-2 : goal.invariant_of-self-2
invariant_of-self-2 c = later_at _ c.set_raw.new.self _ c.set_raw.ensures.extends c.self.invariant

pub returns : goal.returns
returns c = raw_stored _ c.args.self.now c.self.view_is c.set_raw.new.self c.args.id c.args.key c.args.value c.in_ok-set_raw.ensures.store c.set_raw.ensures.extends
