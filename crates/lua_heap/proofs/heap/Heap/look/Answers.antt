use Rattle.std.proofs.Common.{ap, ◌∙◌}
use Rattle.lua_meaning.specs.Handlers.{by_own, by_handler}
use Rattle.lua_heap.specs.Value.{value_view}
use Rattle.lua_heap.specs.Heap.{store_of}
use Rattle.lua_heap.proofs.heap.Heap.look.Goals as goal

pub returns-in-Some-clause-step : goal.returns-in-Some-clause-step
returns-in-Some-clause-step c = λ next.
    ap (λ own. by_own (store_of c.args.self.now) (value_view c.args.self.now.texts c.args.base.now) own next) (c.in-Some.ensures.own)

pub returns-in-None-clause-step : goal.returns-in-None-clause-step
returns-in-None-clause-step c = λ next.
    c.look_by.ensures.step c.args.self.now.texts next
    ∙ ap (λ h. by_handler (value_view c.args.self.now.texts c.args.base.now) h next) (c.index_handler.ensures.handler)
    ∙ ap (λ own. by_own (store_of c.args.self.now) (value_view c.args.self.now.texts c.args.base.now) own next) (c.in-None.ensures.own)

pub returns-in-None-clause-made : goal.returns-in-None-clause-made
returns-in-None-clause-made c = c.look_by.ensures.made c.args.self.now c.requires.base c.index_handler.ensures.made
