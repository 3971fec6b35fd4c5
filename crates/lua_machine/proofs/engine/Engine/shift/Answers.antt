use Rattle.std.proofs.Common.{◌+◌, ◌≤◌, suc, length, refl, sym, ap, subst, arith}
use Rattle.std.specs.Prelude.{max}
use Rattle.lua_heap.specs.Value.{value_view}
use Rattle.lua_code.specs.declared.instr.Instr.TheVariants.{Move}
use Rattle.lua_machine.specs.declared.status.Status.TheVariants.{Goes}
use Rattle.lua_machine.specs.Does.{Takes}
use Rattle.lua_machine.proofs.Taking.{takes_put}
use Rattle.lua_machine.proofs.engine.Engine.shift.Goals as goal

pub returns : goal.returns
returns c =
    let m = c.args.self.now in
    let r = c.requires.ready in
    let slots : m.base + max (suc c.args.to) (suc c.args.from) ≤ length m.values = r.slots in
    subst (Takes (Move c.args.to c.args.from) Goes m) (sym c.put.ensures)
    (takes_put (Move c.args.to c.args.from) m r c.args.to c.at-value.result _ r.leads (omega (arith, slots)) (ap (value_view m.heap.texts) (sym c.at-value.ensures.value)) (λ past. refl))
