use Rattle.std.proofs.Common.{refl, ap, ◌∙◌}
use Rattle.lua_heap.specs.Value.{value_view}
use Rattle.lua_code.specs.declared.instr.Instr.TheVariants.{BinaryConst}
use Rattle.lua_machine.specs.Does.{slot_of, constant_of}
use Rattle.lua_machine.proofs.Constants.{has_constant, constant_is}
use Rattle.lua_machine.proofs.Settling.{takes_operated}
use Rattle.lua_machine.proofs.engine.Engine.binary_const.Goals as goal

pub constant-right-requires : goal.constant-right-requires
constant-right-requires c = record { constant = has_constant c.args.self.now c.requires.ready.ready c.args.n c.requires.ready.known }

pub returns : goal.returns
returns c =
    let m = c.args.self.now in
    takes_operated c.operate.result (BinaryConst c.args.op c.args.to c.args.left c.args.n) m c.operate.new.self c.args.to c.args.op c.at-left.result c.constant-right.result (slot_of m c.args.left) (constant_of m c.args.n)
    (ap (value_view m.heap.texts) c.at-left.ensures.value)
    (ap (value_view m.heap.texts) c.constant-right.ensures.value ∙ constant_is m c.requires.ready.ready c.args.n) (λ past. refl) c.operate.ensures
