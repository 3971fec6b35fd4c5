use Rattle.std.proofs.Common.{◌+◌, List, ℕ, sym, ap, ◌∙◌, subst}
use Rattle.std.specs.Prelude.{map}
use Rattle.lua_code.specs.declared.instr.Instr.TheVariants.{Close}
use Rattle.lua_machine.specs.declared.status.Status.TheVariants.{Goes}
use Rattle.lua_machine.specs.View.{cell_at}
use Rattle.lua_machine.specs.Does.{Takes}
use Rattle.lua_machine.proofs.Doing.{later_at}
use Rattle.lua_machine.proofs.Closing.{takes_close_of}
use Rattle.lua_machine.proofs.engine.Engine.close.Goals as goal

pub invariant_of-self-2 : goal.invariant_of-self-2
invariant_of-self-2 c = later_at _ c.new_func.new.self _ c.new_func.ensures.extends c.self.invariant

pub returns : goal.returns
returns c =
    let m = c.args.self.now in
    let held = c.as_slice.ensures.value ∙ c.in_ok-held.ensures.cells ∙ ap (λ (cs : List ℕ). map (λ k. cell_at m.cells (m.cell_base + k)) cs) c.captures-2.ensures in
    subst (Takes (Close c.args.to c.args.proto) Goes m) (sym c.put.ensures)
    (takes_close_of _ m c.self.view_is c.args.to c.args.proto c.requires.ready c.new_func.new.self c.in_ok-id.id _ held c.in_ok-id.ensures.id c.in_ok-id.ensures.function c.in_ok-id.ensures.texts c.in_ok-id.ensures.store)
