use Rattle.std.proofs.Common.{[], ◌∷◌, ap, sym, ◌∙◌}
use Rattle.std.proofs.lemmas.Result.{err_from_is_err_and}
use Rattle.lua_meaning.specs.Arguments.{answers}
use Rattle.lua_meaning.specs.Store.{raw_get}
use Rattle.lua_heap.specs.Heap.{store_of}
use Rattle.lua_lib.proofs.Binding.{raises-first}
use Rattle.lua_lib.proofs.Running.{refuses-raised, then-at}
use Rattle.lua_lib.proofs.call.fields.rawget.Goals as goal

pub returns-in_err-table-clause-runs : goal.returns-in_err-table-clause-runs
returns-in_err-table-clause-runs c =
    let p = err_from_is_err_and c.from_residual.result c.from_residual.ensures.1 in
    rw (p.1, p.2) (refuses-raised c.args.heap.now _ _ (raises-first _ _ _ c.in_err-table.ensures.taken))

pub returns-clause-runs : goal.returns-clause-runs
returns-clause-runs c =
    let h = c.args.heap.now in
    let s = store_of h in
    let t = c.in_ok-table.table in
    then-at _ _ s t _ (c.in_ok-table.ensures.taken s)
    (ap (λ v. answers (v ∷ []) s) (sym (c.get_raw-value.ensures.value ∙ ap (λ k. raw_get s t k) (c.argument-key.ensures.value h.texts))))

pub get_raw-value-requires-clause-key : goal.get_raw-value-requires-clause-key
get_raw-value-requires-clause-key c = c.argument-key.ensures.made c.args.heap.now c.requires
