use Rattle.std.proofs.Common.{sym, subst}
use Rattle.lua_code.specs.declared.instr.Instr.TheVariants.{NewTable}
use Rattle.lua_machine.specs.declared.status.Status.TheVariants.{Goes}
use Rattle.lua_machine.specs.Does.{Takes}
use Rattle.lua_machine.proofs.Doing.{later_at}
use Rattle.lua_machine.proofs.Taking.{takes_table_of}
use Rattle.lua_machine.proofs.engine.Engine.new_table.Goals as goal

pub invariant_of-self-2 : goal.invariant_of-self-2
invariant_of-self-2 c = later_at _ c.new_table.new.self _ c.new_table.ensures.extends c.self.invariant

pub returns : goal.returns
returns c =
    subst (Takes (NewTable c.args.to) Goes c.args.self.now) (sym c.put.ensures)
    (takes_table_of _ c.args.self.now c.self.view_is c.new_table.new.self c.args.to c.in_ok-id.id c.self.invariant c.requires.ready c.in_ok-id.ensures.id c.in_ok-id.ensures.store c.new_table.ensures.extends)
