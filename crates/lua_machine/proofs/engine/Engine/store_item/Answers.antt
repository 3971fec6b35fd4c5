use Rattle.std.proofs.Common.{[], ◌∷◌}
use Rattle.lua_machine.proofs.Doing.{later_at}
use Rattle.lua_machine.proofs.Filling.{filled_so}
use Rattle.lua_machine.proofs.engine.Engine.store_item.Goals as goal

pub invariant_of-self : goal.invariant_of-self
invariant_of-self c = later_at _ c.fill.new.heap _ c.fill.ensures.extends c.self.invariant

pub invariant_of-self-2 : goal.invariant_of-self-2
invariant_of-self-2 c = later_at _ c.fill.new.heap _ c.fill.ensures.extends c.self.invariant

pub returns : goal.returns
returns c =
    filled_so _ c.args.self.now c.self.view_is c.fill.new.heap c.args.table c.args.number c.at-table.result (c.args.value ∷ []) c.at-table.ensures.value c.in_ok-fill.ensures.store c.fill.ensures.extends
