use Rattle.std.proofs.Common.{◌≡◌, List, [], length, drop, ap, rules, sym, ◌∙◌}
use Rattle.std.proofs.lemmas.List.{take_at}
use Rattle.std.proofs.lemmas.List.Sorted.{length_permutation}
use Rattle.std.proofs.lemmas.Result.{err_from_is_err_and}
use Rattle.lua_meaning.specs.Value as meant
use Rattle.lua_meaning.specs.Store.{border}
use Rattle.lua_meaning.specs.Arguments.{answers}
use Rattle.lua_meaning.specs.Tables.{items, set_items, sort_items}
use Rattle.lua_heap.specs.declared.value.Value.{Value}
use Rattle.lua_heap.specs.Heap.{store_of}
use Rattle.lua_lib.specs.Causes.{values_of}
use Rattle.lua_lib.proofs.Arranged.{AreMade-permutation}
use Rattle.lua_lib.proofs.Running.{refuses-raised, refuses-same}
use Rattle.lua_lib.proofs.call.sorts.sort_table.Goals as goal

pub returns-in_err-sort_values-clause-runs : goal.returns-in_err-sort_values-clause-runs
returns-in_err-sort_values-clause-runs c =
    let h = c.args.heap.now in
    let s = store_of h in
    let t = c.args.table in
    let same : c.as_mut_slice.result.now ≡ c.in_ok-values.values.items = cc in
    let given : values_of h c.as_mut_slice.result.now ≡ items s t (border s t) =
    ap (λ (vs : List Value). values_of h vs) same ∙ (c.in_ok-values.ensures.items ∙ ap (λ b. items s t b) c.border-border.ensures) in
    let p = err_from_is_err_and c.from_residual-in_err-sort_values.result c.from_residual-in_err-sort_values.ensures.1 in
    rw (p.1, p.2) (refuses-same h (sort_items t (items s t (border s t))) (sort_items t (values_of h c.as_mut_slice.result.now)) _ (ap (λ vs. sort_items t vs s) (sym given))
    (refuses-raised h (sort_items t (values_of h c.as_mut_slice.result.now)) _ (c.in_err-sort_values.ensures.err t)))

pub set_items-requires-clause-values : goal.set_items-requires-clause-values
set_items-requires-clause-values c =
    let h = c.args.heap.now in
    let same : c.as_mut_slice.result.now ≡ c.in_ok-values.values.items = cc in
    let there : c.as_slice.result.now ≡ c.sort_values.new.values = c.as_slice.ensures.value ∙ take_at c.sort_values.new.values (drop (length c.sort_values.new.values) c.in_ok-values.values.items) c.in_ok-values.values.len (let size = length_permutation c.as_mut_slice.result.now c.sort_values.new.values c.sort_values.ensures.same in search rules) in
    let before = c.in_ok-values.ensures.made in
    rw there (AreMade-permutation h c.as_mut_slice.result.now c.sort_values.new.values c.sort_values.ensures.same (rw same before))

pub returns-clause-runs : goal.returns-clause-runs
returns-clause-runs c =
    let h = c.args.heap.now in
    let s = store_of h in
    let t = c.args.table in
    let same : c.as_mut_slice.result.now ≡ c.in_ok-values.values.items = cc in
    let there : c.as_slice.result.now ≡ c.sort_values.new.values = c.as_slice.ensures.value ∙ take_at c.sort_values.new.values (drop (length c.sort_values.new.values) c.in_ok-values.values.items) c.in_ok-values.values.len (let size = length_permutation c.as_mut_slice.result.now c.sort_values.new.values c.sort_values.ensures.same in search rules) in
    let given : values_of h c.as_mut_slice.result.now ≡ items s t (border s t) =
    ap (λ (vs : List Value). values_of h vs) same ∙ (c.in_ok-values.ensures.items ∙ ap (λ b. items s t b) c.border-border.ensures) in
    ap (λ (vs : List meant.Value). sort_items t vs s) (sym given)
    ∙ (ap (λ part. part s) (c.in_ok-sort_values.ensures.ok t)
    ∙ ap (answers []) (ap (λ (vs : List Value). set_items t 1 (values_of h vs) s) (sym there) ∙ sym c.in_ok-set_items.ensures.store))
