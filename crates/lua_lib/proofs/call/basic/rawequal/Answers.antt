use Rattle.std.proofs.Common.{Bool, [], ◌∷◌, ap, sym, ◌∙◌}
use Rattle.lua_meaning.specs.Value.{flag, same}
use Rattle.lua_meaning.specs.Arguments.{answers, argument}
use Rattle.lua_heap.specs.Value.{value_view}
use Rattle.lua_lib.specs.Causes.{values_of}
use Rattle.lua_lib.proofs.call.basic.rawequal.Goals as goal

pub returns : goal.returns
returns c = λ s.
    let texts = c.args.heap.now.texts in
    let values = values_of c.args.heap.now c.args.args.now in
    ap (λ (b : Bool). answers (flag b ∷ []) s) (sym (c.is_same.ensures
    ∙ (ap (λ v. same v (value_view texts c.argument-b.result)) (c.argument-a.ensures.value texts)
    ∙ ap (λ v. same (argument 0 values) v) (c.argument-b.ensures.value texts))))

pub is_same-requires-clause-a : goal.is_same-requires-clause-a
is_same-requires-clause-a c = c.argument-a.ensures.made c.args.heap.now c.requires

pub is_same-requires-clause-b : goal.is_same-requires-clause-b
is_same-requires-clause-b c = c.argument-b.ensures.made c.args.heap.now c.requires
