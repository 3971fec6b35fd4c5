use Rattle.lua_code.specs.Held.{program_view}
use Rattle.lua_machine.proofs.Running.{Running, left_at}
use Rattle.lua_machine.proofs.engine.Engine.run.Given as goal

abbrev pub invariant-loop-turn : goal.invariant-loop-turn
invariant-loop-turn l = Running (program_view l.fn.program l.fn.state) l.fn.from l.fn.self l.turn l.self

abbrev pub decreases-loop-turn : goal.decreases-loop-turn
decreases-loop-turn l = left_at l.turn l.self
