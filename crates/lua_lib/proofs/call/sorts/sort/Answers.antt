use Rattle.std.proofs.Common.{◌≡◌, ℕ, List, Bool, true, ap, refl, sym, ◌∙◌}
use Rattle.std.proofs.lemmas.Result.{err_from_is_err_and}
use Rattle.lua_meaning.specs.Value.{Value, is_nil}
use Rattle.lua_meaning.specs.Store.{border}
use Rattle.lua_meaning.specs.Arguments.{Lib, argument, look, table_argument, ◌>>=◌}
use Rattle.lua_meaning.specs.Tables.{items, sort_items}
use Rattle.lua_heap.specs.Value.{value_view}
use Rattle.lua_heap.specs.Heap.{store_of}
use Rattle.lua_heap.proofs.Callers.{Extends-same}
use Rattle.lua_lib.specs.Causes.{values_of}
use Rattle.lua_lib.proofs.Arranged.{by_second, is_nil-not}
use Rattle.lua_lib.proofs.Binding.{raises-first}
use Rattle.lua_lib.proofs.Running.{refuses-raised, runs-same, runs-then, then-at}
use Rattle.lua_lib.proofs.call.sorts.sort.Goals as goal

-- what follows when the items are read, and when the table is
abbrev behind_items : List Value → ℕ → List Value → Lib (List Value)
behind_items args t vs = by_second t vs (is_nil (argument 1 args))

abbrev behind_table : List Value → ℕ → Lib (List Value)
behind_table args t = look (λ s. items s t (border s t)) >>= λ vs. behind_items args t vs

pub returns-in_err-table-clause-runs : goal.returns-in_err-table-clause-runs
returns-in_err-table-clause-runs c =
    let p = err_from_is_err_and c.from_residual.result c.from_residual.ensures.1 in
    rw (p.1, p.2) (refuses-raised c.args.heap.now _ _ (raises-first _ _ _ c.in_err-table.ensures.taken))

pub returns-in-Nil-clause-runs : goal.returns-in-Nil-clause-runs
returns-in-Nil-clause-runs c =
    let h = c.args.heap.now in
    let k = c.sort_table.new.heap in
    let s = store_of h in
    let args = values_of h c.args.args.now in
    let t = c.in_ok-table.table in
    let vs = items s t (border s t) in
    let absent : is_nil (argument 1 args) ≡ true = ap is_nil (sym (c.argument.ensures.value h.texts)) ∙ ap (λ v. is_nil (value_view h.texts v)) c.in-Nil.is in
    runs-then (table_argument 0 args) (behind_table args) _ h k t _ (c.in_ok-table.ensures.taken s)
    (runs-then (look (λ s. items s t (border s t))) (behind_items args t) _ h k vs _ refl
    (runs-same _ h k (behind_items args t vs) (sort_items t vs) _ (ap (λ (b : Bool). by_second t vs b s) absent) c.sort_table.ensures.runs))

pub returns-in_default : goal.returns-in_default
returns-in_default c =
    let h = c.args.heap.now in
    let s = store_of h in
    let t = c.in_ok-table.table in
    let vs = items s t (border s t) in
    record {
      runs = (
        then-at _ _ s t _ (c.in_ok-table.ensures.taken s)
            (ap (λ (b : Bool). by_second t vs b s) (ap is_nil (sym (c.argument.ensures.value h.texts)) ∙ is_nil-not h.texts c.argument.result c.in_default.not-Nil)),
        refl,
      );
      functions = refl;
      extends = Extends-same h;
    }
