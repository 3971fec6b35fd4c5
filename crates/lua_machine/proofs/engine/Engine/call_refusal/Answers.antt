use Rattle.std.proofs.Common.{◌∙◌, subst}
use Rattle.std.specs.Prelude.{IfOk}
use Rattle.lua_tree.specs.Tree.{Bytes}
use Rattle.lua_machine.specs.Serving.{IsRefusal}
use Rattle.lua_machine.proofs.engine.Engine.call_refusal.Goals as goal

pub returns : goal.returns
returns c =
    let m = c.args.self.now in
    subst (λ (t : Bytes). IfOk c.refusal.result (λ error. IsRefusal t error m c.refusal.new.self)) (c.as_slice.ensures.value ∙ c.in_ok-text.ensures m.heap.texts) c.refusal.ensures
