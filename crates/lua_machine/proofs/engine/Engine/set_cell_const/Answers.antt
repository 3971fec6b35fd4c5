use Rattle.std.proofs.Common.{◌+◌, sym, ap, ◌∙◌}
use Rattle.lua_meaning.specs.Value as meant
use Rattle.lua_meaning.specs.Store.{set_cell}
use Rattle.lua_heap.specs.Value.{value_view}
use Rattle.lua_heap.specs.Heap.{store_of}
use Rattle.lua_code.specs.declared.instr.Instr.TheVariants.{SetCellConst}
use Rattle.lua_code.specs.State.{on}
use Rattle.lua_machine.specs.View.{cell_at, config_in}
use Rattle.lua_machine.specs.Does.{at_pc}
use Rattle.lua_machine.specs.Changes.{cell_change}
use Rattle.lua_machine.proofs.Constants.{has_constant, constant_is}
use Rattle.lua_machine.proofs.Storing.{takes_stored}
use Rattle.lua_machine.proofs.engine.Engine.set_cell_const.Goals as goal

pub constant-value-requires : goal.constant-value-requires
constant-value-requires c = record { constant = has_constant c.args.self.now c.requires.ready.ready c.args.n c.requires.ready.known }

pub returns : goal.returns
returns c =
    let m = c.args.self.now in
    takes_stored (SetCellConst c.args.cell c.args.n) m c.requires.ready c.store_cell.new.self (cell_change c.args.cell (value_view m.heap.texts c.constant-value.result) m) c.store_cell.ensures c.requires.ready.leads
    (λ past. ap (λ (w : meant.Value). on (config_in m.heap.texts m.heap.functions (set_cell (store_of m.heap) (cell_at m.cells (m.cell_base + c.args.cell)) w) past (at_pc m (m.pc + 1))))
    (sym (constant_is m c.requires.ready.ready c.args.n) ∙ ap (value_view m.heap.texts) (sym c.constant-value.ensures.value)))
