use Rattle.lua_machine.proofs.Failing.{lua_caller, library_caller, no_caller}
use Rattle.lua_machine.proofs.engine.Engine.caller.Goals as goal

pub returns-in-Waits : goal.returns-in-Waits
returns-in-Waits c = lua_caller c.args.self.now c.in_ok-frame.frame c.in-Waits.field-0 c.requires.fit c.in_ok-frame.ensures c.in-Waits.is
