use Rattle.std.proofs.Common.{◌+◌, ap}
use Rattle.lua_machine.specs.View.{EngineView}
use Rattle.lua_machine.proofs.Invoking.{takes_invoke}
use Rattle.lua_machine.proofs.engine.Engine.invoke.Goals as goal

pub returns : goal.returns
returns c =
    let m = c.args.self.now in
    let first = ap (λ (v : EngineView). v.base + c.args.at + 1) c.self.view_is in
    takes_invoke m c.call.new.self c.args.at c.args.count c.args.tailed c.call.result c.at-value.result (c.self.inside.base + c.args.at + 1) c.behind_where.result c.at-value.ensures.value first c.behind_where.ensures c.args.to c.call.ensures
