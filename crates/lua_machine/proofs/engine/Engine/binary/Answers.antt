use Rattle.std.proofs.Common.{refl, ap}
use Rattle.lua_heap.specs.Value.{value_view}
use Rattle.lua_code.specs.declared.instr.Instr.TheVariants.{Binary}
use Rattle.lua_machine.specs.Does.{slot_of}
use Rattle.lua_machine.proofs.Settling.{takes_operated}
use Rattle.lua_machine.proofs.engine.Engine.binary.Goals as goal

pub returns : goal.returns
returns c =
    let m = c.args.self.now in
    takes_operated c.operate.result (Binary c.args.op c.args.to c.args.left c.args.right) m c.operate.new.self c.args.to c.args.op c.at-left.result c.at-right.result (slot_of m c.args.left) (slot_of m c.args.right)
    (ap (value_view m.heap.texts) c.at-left.ensures.value)
    (ap (value_view m.heap.texts) c.at-right.ensures.value) (λ past. refl) c.operate.ensures
