use Rattle.std.proofs.Common.{refl, ap}
use Rattle.lua_tree.specs.View.{unary_view}
use Rattle.lua_heap.specs.Value.{value_view}
use Rattle.lua_code.specs.declared.instr.Instr.TheVariants.{Unary}
use Rattle.lua_machine.specs.Does.{slot_of}
use Rattle.lua_machine.proofs.Settling.{takes_unary}
use Rattle.lua_machine.proofs.engine.Engine.unary.Goals as goal

pub returns : goal.returns
returns c =
    let m = c.args.self.now in
    takes_unary c.settle.result (Unary c.args.op c.args.to c.args.from) m c.settle.new.self c.args.to _ c.self.view_is (unary_view c.args.op) c.in_ok-doing.doing c.at-value.result (slot_of m c.args.from) c.in_ok-doing.ensures.doing
    (ap (value_view m.heap.texts) c.at-value.ensures.value) (λ past. refl) c.settle.ensures
