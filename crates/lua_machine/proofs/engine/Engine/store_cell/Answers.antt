use Rattle.lua_machine.proofs.Doing.{later_at}
use Rattle.lua_machine.proofs.Storing.{cell_stored}
use Rattle.lua_machine.proofs.engine.Engine.store_cell.Goals as goal

pub invariant_of-self : goal.invariant_of-self
invariant_of-self c = later_at _ c.set_cell.new.self _ c.set_cell.ensures.extends c.self.invariant

pub returns : goal.returns
returns c =
    cell_stored _ c.args.self.now c.self.view_is c.set_cell.new.self c.args.cell c.cell-id.result c.args.value c.cell-id.ensures.id c.set_cell.ensures.store c.set_cell.ensures.extends
