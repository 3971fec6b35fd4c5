use Rattle.std.proofs.Common.{◌≡◌, [], sym, ap, ◌∙◌}
use Rattle.std.specs.Prelude.{codes, unwrap_or}
use Rattle.lua_meaning.specs.Store.{handler}
use Rattle.lua_heap.specs.Value.{text_at, value_view}
use Rattle.lua_heap.specs.Heap.{HeapView, store_of}
use Rattle.lua_heap.proofs.heap.Heap.index_handler.Goals as goal

pub returns-clause-handler : goal.returns-clause-handler
returns-clause-handler c =
    let name : text_at c.args.self.now.texts c.at.result ≡ codes "__index" =
    ap (λ n. text_at c.args.self.now.texts n) c.at.ensures ∙ ap (λ (h : HeapView). text_at h.texts 0) (sym c.self.view_is) ∙ ap (λ text. unwrap_or text []) c.self.invariant.index_name in
    c.handler.ensures.handler ∙ ap (λ text. handler (store_of c.args.self.now) (value_view c.args.self.now.texts c.args.base) text) name
