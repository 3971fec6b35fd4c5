use Rattle.std.proofs.Common.{ap, sym, ◌∙◌}
use Rattle.std.proofs.lemmas.Result.{err_from_is_err_and}
use Rattle.lua_meaning.specs.Arguments.{answers}
use Rattle.lua_meaning.specs.Basic.{walked, behind}
use Rattle.lua_meaning.specs.Store.{raw_get}
use Rattle.lua_heap.specs.Value.{value_view}
use Rattle.lua_heap.specs.Heap.{store_of}
use Rattle.lua_lib.proofs.Binding.{raises-first, raises-then}
use Rattle.lua_lib.proofs.Fields.{walked-nil, walked-some}
use Rattle.lua_lib.proofs.Running.{refuses-raised, then-at}
use Rattle.lua_lib.proofs.call.fields.walk_positions.Goals as goal

pub returns-in_err-table-clause-runs : goal.returns-in_err-table-clause-runs
returns-in_err-table-clause-runs c =
    let p = err_from_is_err_and c.from_residual.result c.from_residual.ensures.1 in
    rw (p.1, p.2) (refuses-raised c.args.heap.now _ _ (raises-first _ _ _ c.in_err-table.ensures.taken))

pub returns-in_err-n-clause-runs : goal.returns-in_err-n-clause-runs
returns-in_err-n-clause-runs c =
    let p = err_from_is_err_and c.from_residual-in_err-n.result c.from_residual-in_err-n.ensures.1 in
    rw (p.1, p.2) (refuses-raised c.args.heap.now _ _ (raises-then _ _ _ _ c.in_ok-table.ensures.taken (raises-first _ _ _ c.in_err-n.ensures)))

pub returns-in-Nil-clause-runs : goal.returns-in-Nil-clause-runs
returns-in-Nil-clause-runs c =
    let h = c.args.heap.now in
    let s = store_of h in
    let t = c.in_ok-table.table in
    let n = c.in_ok-n.n in
    then-at _ _ s t _ (c.in_ok-table.ensures.taken s) (then-at _ _ s n _ (c.in_ok-n.ensures s)
    (ap (λ vs. answers vs s) (ap (λ v. walked (behind n) v) (sym (c.get_raw.ensures.value ∙ ap (λ k. raw_get s t k) (c.behind.ensures.is h.texts)))
    ∙ walked-nil h.texts (behind n) c.get_raw.result c.in-Nil.is)))

pub returns-in_default-clause-runs : goal.returns-in_default-clause-runs
returns-in_default-clause-runs c =
    let h = c.args.heap.now in
    let s = store_of h in
    let t = c.in_ok-table.table in
    let n = c.in_ok-n.n in
    then-at _ _ s t _ (c.in_ok-table.ensures.taken s) (then-at _ _ s n _ (c.in_ok-n.ensures s)
    (ap (λ vs. answers vs s) (ap (λ v. walked (behind n) v) (sym (c.get_raw.ensures.value ∙ ap (λ k. raw_get s t k) (c.behind.ensures.is h.texts)))
    ∙ (ap (λ k. walked k (value_view h.texts c.get_raw.result)) (sym (c.behind.ensures.is h.texts))
    ∙ walked-some h.texts c.behind.result c.get_raw.result c.in_default.not-Nil))))

pub get_raw-requires-clause-key : goal.get_raw-requires-clause-key
get_raw-requires-clause-key c = c.behind.ensures.made c.args.heap.now
