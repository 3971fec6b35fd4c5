use Rattle.std.proofs.Common.{◌≡◌}
use Rattle.lua_code.specs.Held.{program_view}
use Rattle.lua_code.specs.Sound.{IsSoundProgram}
use Rattle.lua_machine.specs.Does.{step_as}
use Rattle.lua_machine.proofs.Sessions.{HasCome}
use Rattle.lua_machine.proofs.session.Session.run.Given as goal

abbrev pub invariant-loop : goal.invariant-loop
invariant-loop l =
    HasCome (program_view l.fn.self.program.now l.fn.self.state) (λ past. step_as l.fn.from past l.fn.self.engine) l.fn.self.output.items l.from l.self.engine l.self.output.items
    × (l.self.program.now ≡ l.fn.self.program.now)
    × (l.self.state ≡ l.fn.self.state)
