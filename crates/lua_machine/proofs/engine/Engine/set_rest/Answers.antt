use Rattle.std.proofs.Common.{refl}
use Rattle.std.specs.Prelude.{map}
use Rattle.lua_heap.specs.Value.{value_view}
use Rattle.lua_code.specs.declared.instr.Instr.TheVariants.{SetRest}
use Rattle.lua_machine.specs.Changes.{items_change}
use Rattle.lua_machine.proofs.Storing.{takes_stored}
use Rattle.lua_machine.proofs.engine.Engine.set_rest.Goals as goal

pub returns : goal.returns
returns c =
    let m = c.args.self.now in
    takes_stored (SetRest c.args.table c.args.number) m c.requires.ready c.store_rest.new.self (items_change c.args.table c.args.number (map (value_view m.heap.texts) m.tail) m) c.in_ok-store_rest.ensures c.requires.ready.leads (λ past. refl)
