use Rattle.std.proofs.Common.{◌≡◌, [], ◌∷◌, arith, ap, refl, sym, ◌∙◌}
use Rattle.std.proofs.lemmas.Result.{err_from_is_err_and}
use Rattle.lua_meaning.specs.Value as meant
use Rattle.lua_meaning.specs.Arguments.{answers, answer_one, argument, ◌>>◌}
use Rattle.lua_meaning.specs.Basic.{set_field}
use Rattle.lua_meaning.specs.Store.{raw_set}
use Rattle.lua_heap.specs.Value.{value_view}
use Rattle.lua_heap.specs.Heap.{store_of}
use Rattle.lua_lib.specs.Causes.{values_of}
use Rattle.lua_lib.proofs.Binding.{raises-first}
use Rattle.lua_lib.proofs.Fields.{set_field-some}
use Rattle.lua_lib.proofs.Running.{refuses-raised, then-at}
use Rattle.lua_lib.proofs.call.fields.rawset.Goals as goal

pub returns-in_err-table-clause-runs : goal.returns-in_err-table-clause-runs
returns-in_err-table-clause-runs c =
    let p = err_from_is_err_and c.from_residual.result c.from_residual.ensures.1 in
    rw (p.1, p.2) (refuses-raised c.args.heap.now _ _ (raises-first _ _ _ c.in_err-table.ensures.taken))

pub set_raw-requires-clause-key : goal.set_raw-requires-clause-key
set_raw-requires-clause-key c = c.argument-key.ensures.made c.args.heap.now c.requires

pub set_raw-requires-clause-value : goal.set_raw-requires-clause-value
set_raw-requires-clause-value c = c.argument-value.ensures.made c.args.heap.now c.requires

pub returns-in-Nil-clause-runs : goal.returns-in-Nil-clause-runs
returns-in-Nil-clause-runs c =
    let h = c.args.heap.now in
    let s = store_of h in
    let vs = values_of h c.args.args.now in
    let nil : meant.nil ≡ argument 1 vs = ap (value_view h.texts) (sym c.in-Nil.is) ∙ c.argument-key.ensures.value h.texts in (
      then-at _ _ s c.in_ok-table.table _ (c.in_ok-table.ensures.taken s)
          (ap (λ k. (set_field c.in_ok-table.table k (argument 2 vs) >> answer_one (meant.table c.in_ok-table.table)) s) (sym nil)),
      refl,
    )

pub returns-in_ok-set_raw-in_default : goal.returns-in_ok-set_raw-in_default
returns-in_ok-set_raw-in_default c =
    let h = c.args.heap.now in
    let after = c.set_raw.new.self in
    let s = store_of h in
    let t = c.in_ok-table.table in
    let vs = values_of h c.args.args.now in
    let key = c.argument-key.result in
    let set = c.in_ok-set_raw-in_default.ensures in
    let given = answers (meant.table t ∷ []) in
    record {
      runs =
          then-at _ _ s t _ (c.in_ok-table.ensures.taken s)
          (then-at (set_field t (argument 1 vs) (argument 2 vs) s) (λ done. answer_one (meant.table t)) (raw_set s t (value_view h.texts key) (value_view h.texts c.argument-value.result)) tt (given (store_of after))
          (ap (λ k. set_field t k (argument 2 vs) s) (sym (c.argument-key.ensures.value h.texts))
          ∙ (set_field-some h.texts t key (argument 2 vs) s c.in_default.not-Nil
          ∙ ap (λ v. answers tt (raw_set s t (value_view h.texts key) v)) (sym (c.argument-value.ensures.value h.texts))))
          (ap given (sym set.store.store)));
      made = let old = c.in_ok-table.ensures.made in let more = set.extends.tables in omega arith;
      extends = set.extends;
      functions = set.store.functions;
    }
