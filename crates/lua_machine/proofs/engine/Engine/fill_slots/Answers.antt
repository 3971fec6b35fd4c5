use Rattle.std.proofs.Common.{[], List, ap, ◌∙◌}
use Rattle.lua_heap.specs.declared.value.Value.{Value}
use Rattle.lua_machine.specs.Arguments.{filled}
use Rattle.lua_machine.proofs.InSlots.{fills_is}
use Rattle.lua_machine.proofs.engine.Engine.fill_slots.Goals as goal

pub invariant_of-self : goal.invariant_of-self
invariant_of-self c = fills_is _ c.self.invariant c.fill.new.values.items c.args.at c.args.count [] tt c.fill.ensures

pub invariant_of-self-in-Tail : goal.invariant_of-self-in-Tail
invariant_of-self-in-Tail c =
    fills_is _ c.self.invariant c.fill-in-Tail.new.values.items c.args.at c.args.count c.self.inside.tail.items c.self.invariant.tail
    (c.fill-in-Tail.ensures ∙ ap (λ (vs : List Value). filled c.self.inside.values.items c.args.at c.args.count vs) c.as_slice.ensures.value)

pub invariant_of-self-in-Args : goal.invariant_of-self-in-Args
invariant_of-self-in-Args c =
    fills_is _ c.self.invariant c.fill-in-Args.new.values.items c.args.at c.args.count c.self.inside.args.items c.self.invariant.args
    (c.fill-in-Args.ensures ∙ ap (λ (vs : List Value). filled c.self.inside.values.items c.args.at c.args.count vs) c.as_slice-in-Args.ensures.value)
