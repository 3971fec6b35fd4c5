use Rattle.std.proofs.Common.{◌+◌, [], ◌∷◌, sym, ap, ◌∙◌}
use Rattle.lua_meaning.specs.Value as meant
use Rattle.lua_heap.specs.Value.{value_view}
use Rattle.lua_heap.specs.Heap.{store_of}
use Rattle.lua_code.specs.declared.instr.Instr.TheVariants.{SetItemConst}
use Rattle.lua_code.specs.State.{on}
use Rattle.lua_machine.specs.View.{config_in}
use Rattle.lua_machine.specs.Does.{at_pc}
use Rattle.lua_machine.specs.Changes.{items_change}
use Rattle.lua_machine.proofs.Constants.{has_constant, constant_is}
use Rattle.lua_machine.proofs.Storing.{takes_stored}
use Rattle.lua_machine.proofs.engine.Engine.set_item_const.Goals as goal

pub constant-value-requires : goal.constant-value-requires
constant-value-requires c = record { constant = has_constant c.args.self.now c.requires.ready.ready c.args.n c.requires.ready.known }

pub returns : goal.returns
returns c =
    let m = c.args.self.now in
    let r = c.requires.ready in
    takes_stored (SetItemConst c.args.table c.args.number c.args.n) m r c.store_item.new.self (items_change c.args.table c.args.number (value_view m.heap.texts c.constant-value.result ∷ []) m) c.in_ok-store_item.ensures r.leads
    (λ past. ap (λ (w : meant.Value). on (config_in m.heap.texts m.heap.functions (items_change c.args.table c.args.number (w ∷ []) m (store_of m.heap)) past (at_pc m (m.pc + 1)))) (sym (constant_is m r.ready c.args.n) ∙ ap (value_view m.heap.texts) (sym c.constant-value.ensures.value)))
