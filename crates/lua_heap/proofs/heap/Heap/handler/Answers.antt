use Rattle.std.proofs.Common.{sym, ap, ◌∙◌}
use Rattle.lua_meaning.specs.Store.{handler_in}
use Rattle.lua_heap.specs.Value.{text_at}
use Rattle.lua_heap.specs.Heap.{store_of}
use Rattle.lua_heap.proofs.heap.Heap.handler.Goals as goal

pub returns-in-Some-clause-handler : goal.returns-in-Some-clause-handler
returns-in-Some-clause-handler c =
    c.get_raw.ensures.value
    ∙ ap (λ meta. handler_in (store_of c.args.self.now) meta (text_at c.args.self.now.texts c.args.event)) (sym c.in-Some.is ∙ c.metatable.ensures.meta)

pub returns-in-None-clause-handler : goal.returns-in-None-clause-handler
returns-in-None-clause-handler c =
    ap (λ meta. handler_in (store_of c.args.self.now) meta (text_at c.args.self.now.texts c.args.event)) (sym c.in-None.is ∙ c.metatable.ensures.meta)
