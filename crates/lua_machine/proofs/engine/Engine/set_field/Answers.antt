use Rattle.std.proofs.Common.{refl, ap}
use Rattle.lua_heap.specs.Value.{value_view}
use Rattle.lua_code.specs.declared.instr.Instr.TheVariants.{SetField}
use Rattle.lua_machine.specs.Does.{slot_of}
use Rattle.lua_machine.proofs.Settings.{takes_set}
use Rattle.lua_machine.proofs.engine.Engine.set_field.Goals as goal

pub returns : goal.returns
returns c =
    let m = c.args.self.now in
    let r = c.requires.ready in
    takes_set c.set.result (SetField c.args.base c.args.key c.args.from) m c.set.new.self r r.leads c.at-base.result c.at-key.result c.at-value.result (slot_of m c.args.base) (slot_of m c.args.key) (slot_of m c.args.from)
    (ap (value_view m.heap.texts) c.at-base.ensures.value)
    (ap (value_view m.heap.texts) c.at-key.ensures.value)
    (ap (value_view m.heap.texts) c.at-value.ensures.value)
    (λ past. refl) c.set.ensures
