use Rattle.std.proofs.Common.{◌+◌, sym, ◌∙◌, subst}
use Rattle.lua_code.specs.declared.instr.Instr.TheVariants.{ForNext}
use Rattle.lua_machine.specs.declared.status.Status.TheVariants.{Goes}
use Rattle.lua_machine.specs.View.{EngineView}
use Rattle.lua_machine.specs.Does.{at_pc, Takes}
use Rattle.lua_machine.proofs.Turning.{next_passes}
use Rattle.lua_machine.proofs.Taking.{takes_jump}
use Rattle.lua_machine.proofs.engine.Engine.for_next.Goals as goal

-- it goes on where its slots don't hold numbers
pub returns-in-None : goal.returns-in-None
returns-in-None c =
    let m = c.args.self.now in
    subst (λ (v : EngineView). Takes (ForNext c.args.at c.args.count) Goes m (at_pc v (v.pc + 1))) (sym c.self.view_is)
    (takes_jump (ForNext c.args.at c.args.count) m c.requires.ready (m.pc + 1) m.ticks c.requires.ready.leads.0
    (next_passes m c.args.at c.args.count (sym c.three_numbers.ensures ∙ c.in-None.is)))
