use Rattle.std.proofs.Common.{◌+◌, sym, ◌∙◌, subst}
use Rattle.lua_code.specs.declared.instr.Instr.TheVariants.{NewCell}
use Rattle.lua_machine.specs.declared.status.Status.TheVariants.{Goes}
use Rattle.lua_machine.specs.View.{EngineView}
use Rattle.lua_machine.specs.Does.{at_pc, Takes}
use Rattle.lua_machine.proofs.Doing.{later_at}
use Rattle.lua_machine.proofs.NewCells.{takes_new_cell_of}
use Rattle.lua_machine.proofs.engine.Engine.new_cell.Goals as goal

pub invariant_of-self-2 : goal.invariant_of-self-2
invariant_of-self-2 c = later_at _ c.new_cell.new.self _ c.new_cell.ensures.extends c.self.invariant

pub returns : goal.returns
returns c =
    let m = c.args.self.now in
    subst (λ (y : EngineView). Takes (NewCell c.args.cell c.args.from) Goes m (at_pc y (y.pc + 1))) (sym (c.self-2.view_is ∙ c.in_ok-put_cell.ensures))
    (takes_new_cell_of _ m c.self.view_is c.new_cell.new.self c.args.cell c.args.from c.in_ok-id.id c.at-value.result c.requires.ready c.at-value.ensures.value c.in_ok-id.ensures.id c.in_ok-id.ensures.store)
