use Rattle.std.proofs.Common.{sym, ap, ◌∙◌}
use Rattle.lua_meaning.specs.Handlers.{set_by_handler}
use Rattle.lua_heap.specs.Value.{value_view}
use Rattle.lua_heap.proofs.heap.Heap.look_for_set.Goals as goal

pub returns-in-Some-clause-step : goal.returns-in-Some-clause-step
returns-in-Some-clause-step c = λ next. sym (c.in-Some.ensures.own next)

pub returns-in-None-clause-step : goal.returns-in-None-clause-step
returns-in-None-clause-step c = λ next.
    c.set_by_handler_of.ensures.step c.args.self.now.texts next
    ∙ ap (λ h. set_by_handler (value_view c.args.self.now.texts c.args.base.now) h next) (c.newindex_handler.ensures.handler)
    ∙ sym (c.in-None.ensures.own next)

pub returns-in-None-clause-made : goal.returns-in-None-clause-made
returns-in-None-clause-made c = c.set_by_handler_of.ensures.made c.args.self.now c.requires.base c.newindex_handler.ensures.made
