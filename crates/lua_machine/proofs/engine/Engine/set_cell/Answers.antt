use Rattle.std.proofs.Common.{◌+◌, sym, ap}
use Rattle.lua_meaning.specs.Store.{set_cell}
use Rattle.lua_heap.specs.declared.value.Value.{Value}
use Rattle.lua_heap.specs.Value.{value_view}
use Rattle.lua_heap.specs.Heap.{store_of}
use Rattle.lua_code.specs.declared.instr.Instr.TheVariants.{SetCell}
use Rattle.lua_code.specs.State.{on}
use Rattle.lua_machine.specs.View.{cell_at, config_in}
use Rattle.lua_machine.specs.Does.{at_pc}
use Rattle.lua_machine.specs.Changes.{cell_change}
use Rattle.lua_machine.proofs.Storing.{takes_stored}
use Rattle.lua_machine.proofs.engine.Engine.set_cell.Goals as goal

pub returns : goal.returns
returns c =
    let m = c.args.self.now in
    takes_stored (SetCell c.args.cell c.args.from) m c.requires.ready c.store_cell.new.self (cell_change c.args.cell (value_view m.heap.texts c.at-value.result) m) c.store_cell.ensures c.requires.ready.leads
    (λ past. ap (λ (w : Value). on (config_in m.heap.texts m.heap.functions (set_cell (store_of m.heap) (cell_at m.cells (m.cell_base + c.args.cell)) (value_view m.heap.texts w)) past (at_pc m (m.pc + 1)))) (sym c.at-value.ensures.value))
