use Rattle.std.proofs.Common.{◌+◌, ◌-◌, ◌<◌, set, sym, subst, arith}
use Rattle.lua_code.specs.declared.instr.Instr.TheVariants.{EachNext}
use Rattle.lua_machine.specs.declared.status.Status.TheVariants.{Goes}
use Rattle.lua_machine.specs.View.{EngineView}
use Rattle.lua_machine.specs.Does.{Takes}
use Rattle.lua_machine.proofs.Invoking.{each_goes}
use Rattle.lua_machine.proofs.engine.Engine.each_next.Goals as goal

pub returns : goal.returns
returns c =
    let m = c.args.self.now in
    let v = c.each_value-value.result in
    let left : 0 < c.self.inside.ticks = omega (arith, c.if-self-eq0.false) in
    subst (λ (y : EngineView). Takes (EachNext c.args.at c.args.count) Goes m (record y { values = set y.values (y.base + c.args.at + 2) v; pc = y.pc - c.args.count; ticks = y.ticks - 1 })) (sym c.self.view_is)
    (each_goes m c.args.at c.args.count c.requires.ready v c.each_value-value.ensures.value c.in_default.not-Nil (subst (λ (y : EngineView). 0 < y.ticks) c.self.view_is left))
