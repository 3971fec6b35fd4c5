use Rattle.std.proofs.Common.{◌+◌, ◌≤◌, suc, length, refl, sym, ap, ◌∙◌, subst, arith}
use Rattle.lua_heap.specs.Value.{value_view}
use Rattle.lua_code.specs.declared.instr.Instr.TheVariants.{Const}
use Rattle.lua_machine.specs.declared.status.Status.TheVariants.{Goes}
use Rattle.lua_machine.specs.Does.{Takes}
use Rattle.lua_machine.proofs.Constants.{has_constant, constant_is}
use Rattle.lua_machine.proofs.Taking.{takes_put}
use Rattle.lua_machine.proofs.engine.Engine.load_constant.Goals as goal

pub constant-value-requires : goal.constant-value-requires
constant-value-requires c = record { constant = has_constant c.args.self.now c.requires.ready.ready c.args.n c.requires.ready.known }

pub returns : goal.returns
returns c =
    let m = c.args.self.now in
    let r = c.requires.ready in
    let slots : m.base + suc c.args.to ≤ length m.values = r.slots in
    subst (Takes (Const c.args.to c.args.n) Goes m) (sym c.put.ensures)
    (takes_put (Const c.args.to c.args.n) m r c.args.to c.constant-value.result _ r.leads (omega (arith, slots))
    (sym (constant_is m r.ready c.args.n) ∙ ap (value_view m.heap.texts) (sym c.constant-value.ensures.value)) (λ past. refl))
