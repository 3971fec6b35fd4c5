use Rattle.std.proofs.Common.{ℕ, pos, List, refl}
use Rattle.std.proofs.lemmas.Result.{err_from_is_err_and}
use Rattle.lua_meaning.specs.Value.{Value}
use Rattle.lua_meaning.specs.Store.{border}
use Rattle.lua_meaning.specs.Arguments.{Lib, look, number_or, table_argument, ◌>>=◌}
use Rattle.lua_meaning.specs.Tables.{remove_at}
use Rattle.lua_heap.specs.Heap.{store_of}
use Rattle.lua_lib.specs.Causes.{values_of}
use Rattle.lua_lib.proofs.Binding.{raises-first}
use Rattle.lua_lib.proofs.Running.{refuses-raised, refuses-then, runs-then}
use Rattle.lua_lib.proofs.call.tables.remove.Goals as goal

-- what follows when the border is read, and when the table is
abbrev behind_border : List Value → ℕ → ℕ → Lib (List Value)
behind_border vs t size = number_or 1 vs (pos size) >>= λ n. remove_at t size n

abbrev behind_table : List Value → ℕ → Lib (List Value)
behind_table vs t = look (λ s. border s t) >>= λ size. behind_border vs t size

pub returns-in_err-table-clause-runs : goal.returns-in_err-table-clause-runs
returns-in_err-table-clause-runs c =
    let p = err_from_is_err_and c.from_residual.result c.from_residual.ensures.1 in
    rw (p.1, p.2) (refuses-raised c.args.heap.now _ _ (raises-first _ _ _ c.in_err-table.ensures.taken))

pub returns-in_err-n-clause-runs : goal.returns-in_err-n-clause-runs
returns-in_err-n-clause-runs c =
    let h = c.args.heap.now in
    let s = store_of h in
    let vs = values_of h c.args.args.now in
    let t = c.in_ok-table.table in
    let size = border s t in
    let p = err_from_is_err_and c.from_residual-in_err-n.result c.from_residual-in_err-n.ensures.1 in
    rw (p.1, p.2) (refuses-then (table_argument 0 vs) (behind_table vs) h h t _ (c.in_ok-table.ensures.taken s)
    (refuses-then (look (λ s. border s t)) (behind_border vs t) h h size _ refl
    (refuses-raised h (behind_border vs t size) _ (raises-first (number_or 1 vs (pos size)) (λ n. remove_at t size n) _ c.in_err-n.ensures))))

pub returns-clause-runs : goal.returns-clause-runs
returns-clause-runs c =
    let h = c.args.heap.now in
    let k = c.remove_at.new.heap in
    let s = store_of h in
    let vs = values_of h c.args.args.now in
    let t = c.in_ok-table.table in
    let size = border s t in
    runs-then (table_argument 0 vs) (behind_table vs) _ h k t _ (c.in_ok-table.ensures.taken s)
    (runs-then (look (λ s. border s t)) (behind_border vs t) _ h k size _ refl
    (runs-then (number_or 1 vs (pos size)) (λ n. remove_at t size n) _ h k c.in_ok-n.n _ (c.in_ok-n.ensures s) c.remove_at.ensures.runs))
