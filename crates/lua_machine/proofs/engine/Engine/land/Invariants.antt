use Rattle.lua_machine.specs.Serving.{frames_left}
use Rattle.lua_machine.proofs.Delivered.{Landing}
use Rattle.lua_machine.proofs.engine.Engine.land.Given as goal

abbrev pub invariant-loop-status : goal.invariant-loop-status
invariant-loop-status l = Landing l.fn.from l.fn.self l.status l.self

abbrev pub decreases-loop-status : goal.decreases-loop-status
decreases-loop-status l = frames_left l.status l.self
