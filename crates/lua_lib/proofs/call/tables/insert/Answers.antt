use Rattle.std.proofs.Common.{◌<◌, ◌≤◌, ℕ, suc, ℤ, [], List, length, arith, ap, sym, subst, ◌∙◌}
use Rattle.std.proofs.lemmas.List.{length-map}
use Rattle.std.proofs.lemmas.Result.{err_from_is_err_and}
use Rattle.lua_meaning.specs.Value.{Value}
use Rattle.lua_meaning.specs.Store.{raw_set, position_key, border}
use Rattle.lua_meaning.specs.Arguments.{Lib, answers, argument, number_argument, table_argument, ◌>>=◌}
use Rattle.lua_meaning.specs.Tables.{insert_at, insert_by}
use Rattle.lua_heap.specs.Value.{value_view}
use Rattle.lua_heap.specs.Heap.{store_of}
use Rattle.lua_lib.specs.Causes.{values_of}
use Rattle.lua_lib.specs.Runs.{Runs}
use Rattle.lua_lib.proofs.Binding.{raises-first}
use Rattle.lua_lib.proofs.Moved.{insert-few, insert-many}
use Rattle.lua_lib.proofs.Running.{refuses-raised, refuses-same, refuses-then, runs-same, runs-then, then-at}
use Rattle.lua_lib.proofs.call.tables.insert.Goals as goal

-- what follows when the table is read, and when the number is
abbrev behind_table : List Value → ℕ → Lib (List Value)
behind_table vs t = insert_by t (length vs) vs

abbrev behind_number : List Value → ℕ → ℤ → Lib (List Value)
behind_number vs t n = insert_at t n (argument 2 vs)

pub returns-in_err-table-clause-runs : goal.returns-in_err-table-clause-runs
returns-in_err-table-clause-runs c =
    let p = err_from_is_err_and c.from_residual.result c.from_residual.ensures.1 in
    rw (p.1, p.2) (refuses-raised c.args.heap.now _ _ (raises-first _ _ _ c.in_err-table.ensures.taken))

pub put_last-requires-clause-value : goal.put_last-requires-clause-value
put_last-requires-clause-value c = c.argument.ensures.made c.args.heap.now c.requires

pub returns-then-args-lt3-clause-runs : goal.returns-then-args-lt3-clause-runs
returns-then-args-lt3-clause-runs c =
    let h = c.args.heap.now in
    let s = store_of h in
    let vs = values_of h c.args.args.now in
    let t = c.in_ok-table.table in
    let size = length-map c.args.args.now (value_view h.texts) in
    let few : length vs < 3 = let b = c.if-args-lt3.true in omega arith in
    then-at _ _ s t _ (c.in_ok-table.ensures.taken s)
    (ap (λ part. part s) (insert-few t (length vs) vs few)
    ∙ ap (answers []) (sym (c.in_ok-put_last.ensures.store ∙ ap (λ v. raw_set s t (position_key (suc (border s t))) v) (c.argument.ensures.value h.texts))))

pub returns-in_err-n-clause-runs : goal.returns-in_err-n-clause-runs
returns-in_err-n-clause-runs c =
    let h = c.args.heap.now in
    let s = store_of h in
    let vs = values_of h c.args.args.now in
    let t = c.in_ok-table.table in
    let size = length-map c.args.args.now (value_view h.texts) in
    let many : 3 ≤ length vs = let b = c.if-args-lt3.false in omega arith in
    let p = err_from_is_err_and c.from_residual-in_err-n.result c.from_residual-in_err-n.ensures.1 in
    rw (p.1, p.2) (refuses-then (table_argument 0 vs) (behind_table vs) h h t _ (c.in_ok-table.ensures.taken s)
    (refuses-same h (behind_table vs t) (number_argument 1 vs >>= behind_number vs t) _ (ap (λ part. part s) (insert-many t (length vs) vs many))
    (refuses-raised h (number_argument 1 vs >>= behind_number vs t) _ (raises-first (number_argument 1 vs) (behind_number vs t) _ c.in_err-n.ensures))))

pub insert_at-requires-clause-value : goal.insert_at-requires-clause-value
insert_at-requires-clause-value c = c.argument-2.ensures.made c.args.heap.now c.requires

pub returns-clause-runs : goal.returns-clause-runs
returns-clause-runs c =
    let h = c.args.heap.now in
    let k = c.insert_at.new.heap in
    let s = store_of h in
    let vs = values_of h c.args.args.now in
    let t = c.in_ok-table.table in
    let n = c.in_ok-n.n in
    let size = length-map c.args.args.now (value_view h.texts) in
    let many : 3 ≤ length vs = let b = c.if-args-lt3.false in omega arith in
    let P : Value → Type 0 = λ v. Runs (λ done. []) h k (insert_at t n v) c.insert_at.result in
    runs-then (table_argument 0 vs) (behind_table vs) _ h k t _ (c.in_ok-table.ensures.taken s)
    (runs-same _ h k (behind_table vs t) (number_argument 1 vs >>= behind_number vs t) _ (ap (λ part. part s) (insert-many t (length vs) vs many))
    (runs-then (number_argument 1 vs) (behind_number vs t) _ h k n _ (c.in_ok-n.ensures s)
    (subst P (c.argument-2.ensures.value h.texts) c.insert_at.ensures.runs)))
