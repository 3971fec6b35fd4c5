use Rattle.std.proofs.Common.{refl, ap, ◌∙◌}
use Rattle.lua_heap.specs.Value.{value_view}
use Rattle.lua_code.specs.declared.instr.Instr.TheVariants.{SetFieldConst}
use Rattle.lua_machine.specs.Does.{slot_of, constant_of}
use Rattle.lua_machine.proofs.Constants.{has_constant, constant_is}
use Rattle.lua_machine.proofs.Settings.{takes_set}
use Rattle.lua_machine.proofs.engine.Engine.set_field_const.Goals as goal

pub constant-value-requires : goal.constant-value-requires
constant-value-requires c = record { constant = has_constant c.args.self.now c.requires.ready.ready c.args.n c.requires.ready.known }

pub returns : goal.returns
returns c =
    let m = c.args.self.now in
    let r = c.requires.ready in
    takes_set c.set.result (SetFieldConst c.args.base c.args.key c.args.n) m c.set.new.self r r.leads c.at-base.result c.at-key.result c.constant-value.result (slot_of m c.args.base) (slot_of m c.args.key) (constant_of m c.args.n)
    (ap (value_view m.heap.texts) c.at-base.ensures.value)
    (ap (value_view m.heap.texts) c.at-key.ensures.value)
    (ap (value_view m.heap.texts) c.constant-value.ensures.value ∙ constant_is m r.ready c.args.n)
    (λ past. refl) c.set.ensures
