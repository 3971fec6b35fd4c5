use Rattle.std.proofs.Common.{◌≡◌, ◌+◌, sym, ap, ◌∙◌, subst}
use Rattle.lua_code.specs.declared.instr.Instr.TheVariants.{Spread}
use Rattle.lua_machine.specs.declared.status.Status.TheVariants.{Goes}
use Rattle.lua_machine.specs.View.{EngineView}
use Rattle.lua_machine.specs.Does.{at_pc, Takes}
use Rattle.lua_machine.specs.Arguments.{filled, behind_of}
use Rattle.lua_machine.proofs.Invoking.{takes_spread}
use Rattle.lua_machine.proofs.engine.Engine.spread.Goals as goal

pub returns : goal.returns
returns c =
    let m = c.args.self.now in
    let behind = c.behind_where-behind.result in
    let base : c.fill_slots.inside.base ≡ m.base = ap (λ (v : EngineView). v.base) c.fill_slots.view_is in
    let slots = subst (λ b. c.fill_slots-2.new.self ≡ record m { values = filled m.values (b + c.args.from) c.args.count (behind_of behind m) }) base c.fill_slots-2.ensures in
    subst (Takes (Spread c.args.from c.args.count c.args.tailed) Goes m) (sym (c.pass.ensures ∙ ap (λ (y : EngineView). at_pc y (y.pc + 1)) slots))
    (takes_spread m c.args.from c.args.count c.args.tailed behind c.requires.ready c.behind_where-behind.ensures)
