use Rattle.std.proofs.Common.{◌+◌, ◌≤◌, suc, length, refl, sym, subst, arith}
use Rattle.lua_code.specs.declared.instr.Instr.TheVariants.{FirstExtra}
use Rattle.lua_machine.specs.declared.status.Status.TheVariants.{Goes}
use Rattle.lua_machine.specs.Does.{Takes}
use Rattle.lua_machine.proofs.Taking.{takes_put}
use Rattle.lua_machine.proofs.engine.Engine.first_extra.Goals as goal

pub returns : goal.returns
returns c =
    let m = c.args.self.now in
    let r = c.requires.ready in
    let slots : m.base + suc c.args.to ≤ length m.values = r.slots in
    subst (Takes (FirstExtra c.args.to) Goes m) (sym c.put.ensures)
    (takes_put (FirstExtra c.args.to) m r c.args.to c.extra-value.result _ r.leads (omega (arith, slots)) (sym c.extra-value.ensures.value) (λ past. refl))
