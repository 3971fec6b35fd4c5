use Rattle.lua_machine.proofs.Fetching.{steps_of}
use Rattle.lua_machine.proofs.engine.Engine.step.Goals as goal

pub returns : goal.returns
returns c = steps_of c.args.self.now c.act.new.self c.requires.ready c.fetch-instr.result c.fetch-instr.ensures c.act.result c.act.ensures
