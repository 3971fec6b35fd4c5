use Rattle.std.proofs.Common.{◌+◌, ◌≤◌, suc, length, refl, sym, subst, arith}
use Rattle.lua_code.specs.declared.instr.Instr.TheVariants.{GetCell}
use Rattle.lua_machine.specs.declared.status.Status.TheVariants.{Goes}
use Rattle.lua_machine.specs.Does.{Takes}
use Rattle.lua_machine.proofs.Taking.{takes_put}
use Rattle.lua_machine.proofs.engine.Engine.get_cell.Goals as goal

pub returns : goal.returns
returns c =
    let m = c.args.self.now in
    let r = c.requires.ready in
    let slots : m.base + suc c.args.to ≤ length m.values = r.slots in
    subst (Takes (GetCell c.args.to c.args.cell) Goes m) (sym c.put.ensures)
    (takes_put (GetCell c.args.to c.args.cell) m r c.args.to c.held-value.result _ r.leads (omega (arith, slots)) (sym c.held-value.ensures.value) (λ past. refl))
