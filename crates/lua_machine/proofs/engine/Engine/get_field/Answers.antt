use Rattle.std.proofs.Common.{refl, ap}
use Rattle.lua_heap.specs.Value.{value_view}
use Rattle.lua_code.specs.declared.instr.Instr.TheVariants.{GetField}
use Rattle.lua_machine.specs.Does.{slot_of}
use Rattle.lua_machine.proofs.Settling.{takes_read}
use Rattle.lua_machine.proofs.engine.Engine.get_field.Goals as goal

pub returns : goal.returns
returns c =
    let m = c.args.self.now in
    takes_read c.settle.result (GetField c.args.to c.args.base c.args.key) m c.settle.new.self c.args.to _ c.self.view_is c.field-doing.result c.at-base.result c.at-key.result (slot_of m c.args.base) (slot_of m c.args.key) c.field-doing.ensures.doing
    (ap (value_view m.heap.texts) c.at-base.ensures.value)
    (ap (value_view m.heap.texts) c.at-key.ensures.value) (λ past. refl) c.settle.ensures
