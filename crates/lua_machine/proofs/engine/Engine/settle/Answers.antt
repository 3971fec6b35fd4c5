use Rattle.lua_machine.proofs.Settling.{settles_gives, settles_fails}
use Rattle.lua_machine.proofs.engine.Engine.settle.Goals as goal

pub returns-in-Gives : goal.returns-in-Gives
returns-in-Gives c = settles_gives c.args.self.now c.put.new.self c.args.to c.args.doing c.in-Gives.value c.in-Gives.is c.put.ensures c.requires.ready c.requires.leads c.requires.slot

pub returns-in_ok-error-in-Fails : goal.returns-in_ok-error-in-Fails
returns-in_ok-error-in-Fails c = settles_fails c.args.self.now c.fault.new.self c.args.to c.args.doing c.in-Fails.fault c.in_ok-error-in-Fails.error c.in-Fails.is c.in_ok-error-in-Fails.ensures
