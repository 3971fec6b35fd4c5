use Rattle.std.proofs.Common.{◌∙◌, subst}
use Rattle.std.specs.Prelude.{IfOk}
use Rattle.lua_tree.specs.Tree.{Bytes}
use Rattle.lua_machine.specs.Errors.{Raised}
use Rattle.lua_machine.proofs.engine.Engine.call_error.Goals as goal

pub returns : goal.returns
returns c =
    let m = c.args.self.now in
    subst (λ (t : Bytes). IfOk c.error.result (λ error. Raised t error m c.error.new.self)) (c.as_slice.ensures.value ∙ c.in_ok-text.ensures m.heap.texts) c.error.ensures
