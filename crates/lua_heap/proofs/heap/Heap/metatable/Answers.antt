use Rattle.std.proofs.Common.{sym, ap, ◌∙◌}
use Rattle.lua_meaning.specs.Store.{metatable}
use Rattle.lua_heap.specs.Value.{value_view}
use Rattle.lua_heap.specs.Heap.{store_of}
use Rattle.lua_heap.proofs.heap.Heap.metatable.Goals as goal

pub returns-in-Table-clause-meta : goal.returns-in-Table-clause-meta
returns-in-Table-clause-meta c =
    c.meta.ensures.meta ∙ ap (λ v. metatable (store_of c.args.self.now) (value_view c.args.self.now.texts v)) (sym c.in-Table.is)
