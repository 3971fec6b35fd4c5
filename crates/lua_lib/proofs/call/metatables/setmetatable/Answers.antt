use Rattle.std.proofs.Common.{[], ◌∷◌, ap, sym, ◌∙◌}
use Rattle.std.proofs.lemmas.Result.{err_from_is_err_and}
use Rattle.lua_meaning.specs.Value as meant
use Rattle.lua_meaning.specs.Store.{set_meta}
use Rattle.lua_meaning.specs.Arguments.{answers}
use Rattle.lua_heap.specs.Value.{value_view}
use Rattle.lua_heap.specs.Heap.{store_of}
use Rattle.lua_lib.proofs.Binding.{raises-first, raises-then}
use Rattle.lua_lib.proofs.Metatables.{set_unless, set-refused, IsMadeTable-later}
use Rattle.lua_lib.proofs.Running.{refuses-raised, then-at}
use Rattle.lua_lib.proofs.call.metatables.setmetatable.Goals as goal

pub returns-in_err-table-clause-runs : goal.returns-in_err-table-clause-runs
returns-in_err-table-clause-runs c =
    let p = err_from_is_err_and c.from_residual.result c.from_residual.ensures.1 in
    rw (p.1, p.2) (refuses-raised c.args.heap.now _ _ (raises-first _ _ _ c.in_err-table.ensures.taken))

pub returns-in_err-meta-clause-runs : goal.returns-in_err-meta-clause-runs
returns-in_err-meta-clause-runs c =
    let h = c.args.heap.now in
    let p = err_from_is_err_and c.from_residual-in_err-meta.result c.from_residual-in_err-meta.ensures.1 in
    rw (p.1, p.2) (refuses-raised h _ _ (raises-then _ _ _ _ c.in_ok-table.ensures.taken (raises-first _ _ _ (c.in_err-meta.ensures.taken h))))

pub set_meta-requires-clause-made : goal.set_meta-requires-clause-made
set_meta-requires-clause-made c =
    let h = c.args.heap.now in
    IsMadeTable-later h c.protection.new.heap c.protection.ensures.extends c.in_ok-meta.meta (c.in_ok-meta.ensures.made h c.requires)

pub returns-in-Nil-clause-runs : goal.returns-in-Nil-clause-runs
returns-in-Nil-clause-runs c =
    let h = c.args.heap.now in
    let k = c.protection.new.heap in
    let s = store_of h in
    let t = c.in_ok-table.table in
    let meta = c.in_ok-meta.meta in
    then-at _ _ s t _ (c.in_ok-table.ensures.taken s) (then-at _ _ s meta _ (c.in_ok-meta.ensures.taken h s)
    (ap (λ f. set_unless t meta f s) (sym c.in_ok-field.ensures.field ∙ ap (value_view k.texts) c.in-Nil.is)
    ∙ ap (answers (meant.table t ∷ [])) (sym (c.set_meta.ensures.store.store ∙ ap (λ r. set_meta r t meta) c.protection.ensures.store))))

pub returns-in_default : goal.returns-in_default
returns-in_default c =
    let h = c.args.heap.now in
    let k = c.protection.new.heap in
    let s = store_of h in
    let t = c.in_ok-table.table in
    let meta = c.in_ok-meta.meta in
    record {
      runs = (
        then-at _ _ s t _ (c.in_ok-table.ensures.taken s) (then-at _ _ s meta _ (c.in_ok-meta.ensures.taken h s)
            (ap (λ f. set_unless t meta f s) (sym c.in_ok-field.ensures.field) ∙ set-refused k.texts t meta c.in_ok-field.field s c.in_default.not-Nil)),
        c.protection.ensures.store,
      );
      made = tt;
      extends = c.protection.ensures.extends;
      functions = c.protection.ensures.functions;
    }
