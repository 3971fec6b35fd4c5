use Rattle.std.proofs.Common.{ℕ, ℤ, pos, List, ap, refl, sym, ◌∙◌}
use Rattle.std.proofs.lemmas.Result.{err_from_is_err_and}
use Rattle.lua_meaning.specs.Value.{Value}
use Rattle.lua_meaning.specs.Store.{border}
use Rattle.lua_meaning.specs.Arguments.{Lib, answers, look, number_or, table_argument, ◌>>=◌, ◌>>◌}
use Rattle.lua_meaning.specs.Basic.{at_most_a_million, count_from, items_from}
use Rattle.lua_heap.specs.Heap.{store_of}
use Rattle.lua_lib.specs.Causes.{values_of}
use Rattle.lua_lib.proofs.Binding.{raises-first, raises-then}
use Rattle.lua_lib.proofs.Running.{refuses-raised, refuses-then, then-at}
use Rattle.lua_lib.proofs.call.tuples.unpack.Goals as goal

-- what follows when each argument is read
abbrev behind_j : ℕ → ℤ → ℤ → Lib (List Value)
behind_j t i j = at_most_a_million (count_from i j) >> look (λ s. items_from s t i (count_from i j))

abbrev behind_border : List Value → ℕ → ℤ → ℕ → Lib (List Value)
behind_border vs t i n = number_or 2 vs (pos n) >>= λ j. behind_j t i j

abbrev behind_i : List Value → ℕ → ℤ → Lib (List Value)
behind_i vs t i = look (λ s. border s t) >>= λ n. behind_border vs t i n

abbrev behind_table : List Value → ℕ → Lib (List Value)
behind_table vs t = number_or 1 vs (pos 1) >>= λ i. behind_i vs t i

pub returns-in_err-table-clause-runs : goal.returns-in_err-table-clause-runs
returns-in_err-table-clause-runs c =
    let p = err_from_is_err_and c.from_residual.result c.from_residual.ensures.1 in
    rw (p.1, p.2) (refuses-raised c.args.heap.now _ _ (raises-first _ _ _ c.in_err-table.ensures.taken))

pub returns-in_err-i-clause-runs : goal.returns-in_err-i-clause-runs
returns-in_err-i-clause-runs c =
    let p = err_from_is_err_and c.from_residual-in_err-i.result c.from_residual-in_err-i.ensures.1 in
    rw (p.1, p.2) (refuses-raised c.args.heap.now _ _ (raises-then _ _ _ _ c.in_ok-table.ensures.taken (raises-first _ _ _ c.in_err-i.ensures)))

pub returns-in_err-j-clause-runs : goal.returns-in_err-j-clause-runs
returns-in_err-j-clause-runs c =
    let h = c.args.heap.now in
    let s = store_of h in
    let vs = values_of h c.args.args.now in
    let t = c.in_ok-table.table in
    let i = c.in_ok-i.i in
    let n = border s t in
    let p = err_from_is_err_and c.from_residual-in_err-j.result c.from_residual-in_err-j.ensures.1 in
    rw (p.1, p.2) (refuses-then (table_argument 0 vs) (behind_table vs) h h t _ (c.in_ok-table.ensures.taken s)
    (refuses-then (number_or 1 vs (pos 1)) (behind_i vs t) h h i _ (c.in_ok-i.ensures s)
    (refuses-then (look (λ s. border s t)) (behind_border vs t i) h h n _ refl
    (refuses-raised h (behind_border vs t i n) _ (raises-first (number_or 2 vs (pos n)) (behind_j t i) _ c.in_err-j.ensures)))))

pub returns-in_err-count-clause-runs : goal.returns-in_err-count-clause-runs
returns-in_err-count-clause-runs c =
    let h = c.args.heap.now in
    let s = store_of h in
    let vs = values_of h c.args.args.now in
    let t = c.in_ok-table.table in
    let i = c.in_ok-i.i in
    let j = c.in_ok-j.j in
    let n = border s t in
    let p = err_from_is_err_and c.from_residual-in_err-count.result c.from_residual-in_err-count.ensures.1 in
    rw (p.1, p.2) (refuses-then (table_argument 0 vs) (behind_table vs) h h t _ (c.in_ok-table.ensures.taken s)
    (refuses-then (number_or 1 vs (pos 1)) (behind_i vs t) h h i _ (c.in_ok-i.ensures s)
    (refuses-then (look (λ s. border s t)) (behind_border vs t i) h h n _ refl
    (refuses-then (number_or 2 vs (pos n)) (behind_j t i) h h j _ (c.in_ok-j.ensures s)
    (refuses-raised h (behind_j t i j) _ (raises-first (at_most_a_million (count_from i j)) (λ done. look (λ s. items_from s t i (count_from i j))) _ c.in_err-count.ensures.fault))))))

pub returns-in_err-made-clause-runs : goal.returns-in_err-made-clause-runs
returns-in_err-made-clause-runs c =
    let p = err_from_is_err_and c.from_residual-in_err-made.result c.from_residual-in_err-made.ensures.1 in
    rw (p.1, p.2) tt

pub returns-clause-runs : goal.returns-clause-runs
returns-clause-runs c =
    let h = c.args.heap.now in
    let s = store_of h in
    let t = c.in_ok-table.table in
    let i = c.in_ok-i.i in
    let j = c.in_ok-j.j in
    then-at _ _ s t _ (c.in_ok-table.ensures.taken s) (then-at _ _ s i _ (c.in_ok-i.ensures s) (then-at _ _ s j _ (c.in_ok-j.ensures s)
    (then-at _ _ s tt _ (c.in_ok-count.ensures.ok.1 s)
    (ap (λ (vs : List Value). answers vs s) (ap (items_from s t i) (sym c.in_ok-count.ensures.ok.0) ∙ sym c.in_ok-made.ensures.items)))))
