use Rattle.std.proofs.Common.{ap, ◌∙◌}
use Rattle.lua_machine.specs.View.{EngineView}
use Rattle.lua_machine.proofs.Doing.{later_at}
use Rattle.lua_machine.proofs.Filling.{rest_filled}
use Rattle.lua_machine.proofs.engine.Engine.store_rest.Goals as goal

pub invariant_of-self : goal.invariant_of-self
invariant_of-self c = later_at _ c.fill.new.heap _ c.fill.ensures.extends c.self.invariant

pub invariant_of-self-2 : goal.invariant_of-self-2
invariant_of-self-2 c = later_at _ c.fill.new.heap _ c.fill.ensures.extends c.self.invariant

pub returns : goal.returns
returns c =
    rest_filled _ c.args.self.now c.self.view_is c.fill.new.heap c.args.table c.args.number c.at-table.result c.as_slice.result.now (c.as_slice.ensures.value ∙ ap (λ (v : EngineView). v.tail) c.self.view_is) c.at-table.ensures.value c.in_ok-fill.ensures.store c.fill.ensures.extends
