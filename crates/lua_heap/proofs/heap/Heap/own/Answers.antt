use Rattle.std.proofs.Common.{sym, ap, ◌∙◌, Some, None, cond}
use Rattle.lua_meaning.specs.Value.{is_nil}
use Rattle.lua_meaning.specs.Handlers.{own_value}
use Rattle.lua_heap.specs.Value.{value_view}
use Rattle.lua_heap.specs.Heap.{store_of}
use Rattle.lua_heap.proofs.heap.Heap.own.Goals as goal

pub returns-in-Table-clause-own : goal.returns-in-Table-clause-own
returns-in-Table-clause-own c =
    c.unless_nil.ensures.value c.args.self.now.texts ∙ ap (λ v. cond (is_nil v) None (Some v)) (c.get_raw.ensures.value)
    ∙ ap (λ v. own_value (store_of c.args.self.now) (value_view c.args.self.now.texts v) (value_view c.args.self.now.texts c.args.key)) (sym c.in-Table.is)

pub returns-in-Data-clause-own : goal.returns-in-Data-clause-own
returns-in-Data-clause-own c =
    ap (λ v. Some v) (c.data_method.ensures.method)
    ∙ ap (λ v. own_value (store_of c.args.self.now) (value_view c.args.self.now.texts v) (value_view c.args.self.now.texts c.args.key)) (sym c.in-Data.is)
