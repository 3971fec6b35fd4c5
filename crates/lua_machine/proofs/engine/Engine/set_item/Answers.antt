use Rattle.std.proofs.Common.{◌+◌, [], ◌∷◌, sym, ap}
use Rattle.lua_meaning.specs.Value as meant
use Rattle.lua_heap.specs.Value.{value_view}
use Rattle.lua_heap.specs.Heap.{store_of}
use Rattle.lua_code.specs.declared.instr.Instr.TheVariants.{SetItem}
use Rattle.lua_code.specs.State.{on}
use Rattle.lua_machine.specs.View.{config_in}
use Rattle.lua_machine.specs.Does.{at_pc}
use Rattle.lua_machine.specs.Changes.{items_change}
use Rattle.lua_machine.proofs.Storing.{takes_stored}
use Rattle.lua_machine.proofs.engine.Engine.set_item.Goals as goal

pub returns : goal.returns
returns c =
    let m = c.args.self.now in
    let r = c.requires.ready in
    takes_stored (SetItem c.args.table c.args.number c.args.from) m r c.store_item.new.self (items_change c.args.table c.args.number (value_view m.heap.texts c.at-value.result ∷ []) m) c.in_ok-store_item.ensures r.leads
    (λ past. ap (λ (w : meant.Value). on (config_in m.heap.texts m.heap.functions (items_change c.args.table c.args.number (w ∷ []) m (store_of m.heap)) past (at_pc m (m.pc + 1)))) (ap (value_view m.heap.texts) (sym c.at-value.ensures.value)))
