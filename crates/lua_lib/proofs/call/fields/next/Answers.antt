use Rattle.std.proofs.Common.{ap, refl, sym, ◌∙◌}
use Rattle.std.proofs.lemmas.Result.{err_from_is_err_and}
use Rattle.lua_table.specs.Table.{next as next_place}
use Rattle.lua_meaning.specs.Value.{same}
use Rattle.lua_meaning.specs.Basic.{pair_values, walked_key}
use Rattle.lua_meaning.specs.Store.{table_at}
use Rattle.lua_heap.specs.Heap.{store_of}
use Rattle.lua_lib.proofs.Binding.{raises-first}
use Rattle.lua_lib.proofs.Fields.{pair_values-is}
use Rattle.lua_lib.proofs.Running.{refuses-raised, then-at}
use Rattle.lua_lib.proofs.call.fields.next.Goals as goal

pub returns-in_err-table-clause-runs : goal.returns-in_err-table-clause-runs
returns-in_err-table-clause-runs c =
    let p = err_from_is_err_and c.from_residual.result c.from_residual.ensures.1 in
    rw (p.1, p.2) (refuses-raised c.args.heap.now _ _ (raises-first _ _ _ c.in_err-table.ensures.taken))

pub returns-in-Ok-clause-runs : goal.returns-in-Ok-clause-runs
returns-in-Ok-clause-runs c =
    let h = c.args.heap.now in
    let s = store_of h in
    let t = c.in_ok-table.table in
    then-at _ _ s t _ (c.in_ok-table.ensures.taken s)
    (ap (λ r. pair_values r s) (sym (c.in-Ok.ensures.pair ∙ ap (λ k. next_place same (table_at s t).places (walked_key k)) (c.argument-key.ensures.value h.texts)))
    ∙ pair_values-is h.texts c.in-Ok.pair s)

pub returns-in-Err-clause-runs : goal.returns-in-Err-clause-runs
returns-in-Err-clause-runs c =
    let h = c.args.heap.now in
    let s = store_of h in
    let t = c.in_ok-table.table in (
      then-at _ _ s t _ (c.in_ok-table.ensures.taken s)
          (ap (λ r. pair_values r s) (sym (c.in-Err.ensures.pair ∙ ap (λ k. next_place same (table_at s t).places (walked_key k)) (c.argument-key.ensures.value h.texts)))),
      refl,
    )

pub next-requires-clause-key : goal.next-requires-clause-key
next-requires-clause-key c = c.argument-key.ensures.made c.args.heap.now c.requires
