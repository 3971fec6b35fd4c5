use Rattle.std.proofs.Common.{ap, ◌∙◌}
use Rattle.love_base.specs.Data.{Contents}
use Rattle.lua_meaning.specs.Handlers.{method_named, methods_of_data}
use Rattle.lua_heap.specs.Value.{value_view}
use Rattle.lua_heap.proofs.heap.Heap.data_method.Goals as goal

pub returns-in-Some-clause-method : goal.returns-in-Some-clause-method
returns-in-Some-clause-method c =
    c.method.ensures.method
    ∙ ap (λ name. method_named (methods_of_data name) (value_view c.args.self.now.texts c.args.key)) (c.in-Some.ensures ∙ ap (λ (d : Contents). d.name) (c.data_of.ensures.contents))

pub returns-in-None-clause-method : goal.returns-in-None-clause-method
returns-in-None-clause-method c =
    c.method-in-None.ensures.method
    ∙ ap (λ name. method_named (methods_of_data name) (value_view c.args.self.now.texts c.args.key)) (c.in-None.ensures ∙ ap (λ (d : Contents). d.name) (c.data_of.ensures.contents))
