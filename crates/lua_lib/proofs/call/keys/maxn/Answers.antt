use Rattle.std.proofs.Common.{pos, ap, sym, ◌∙◌}
use Rattle.std.proofs.lemmas.Result.{err_from_is_err_and}
use Rattle.lua_meaning.specs.Arguments.{answers}
use Rattle.lua_meaning.specs.Tables.{greatest_key}
use Rattle.lua_heap.specs.Heap.{store_of}
use Rattle.lua_lib.specs.Causes.{one_number}
use Rattle.lua_lib.proofs.Binding.{raises-first}
use Rattle.lua_lib.proofs.Running.{refuses-raised, then-at}
use Rattle.lua_lib.proofs.call.keys.maxn.Goals as goal

pub returns-in_err-table : goal.returns-in_err-table
returns-in_err-table c =
    let p = err_from_is_err_and c.from_residual.result c.from_residual.ensures.1 in
    rw (p.1, p.2) (refuses-raised c.args.heap.now _ _ (raises-first _ _ _ c.in_err-table.ensures.taken))

pub returns : goal.returns
returns c =
    let h = c.args.heap.now in
    let s = store_of h in
    then-at _ _ s c.in_ok-table.table _ (c.in_ok-table.ensures.taken s)
    (ap (λ n. answers (one_number n) s) (sym (c.greatest_key-n.ensures h.texts ∙ ap (λ places. pos (greatest_key places)) c.table.ensures.places)))
