use Rattle.std.proofs.Common.{ℕ, ℤ, pos, [], List, ap, refl, sym, ◌∙◌}
use Rattle.std.proofs.lemmas.Result.{err_from_is_err_and}
use Rattle.lua_tree.specs.Tree.{Bytes}
use Rattle.lua_meaning.specs.Value.{Value}
use Rattle.lua_meaning.specs.Store.{border}
use Rattle.lua_meaning.specs.Arguments.{Lib, look, number_or, text_or, table_argument, ◌>>=◌}
use Rattle.lua_meaning.specs.Basic.{count_from}
use Rattle.lua_meaning.specs.Strings.{string_value}
use Rattle.lua_meaning.specs.Tables.{joined}
use Rattle.lua_heap.specs.Heap.{store_of}
use Rattle.lua_lib.specs.Causes.{values_of}
use Rattle.lua_lib.proofs.Binding.{raises-first, raises-then}
use Rattle.lua_lib.proofs.Running.{refuses-raised, refuses-first, refuses-then, refuses-same, then-at}
use Rattle.lua_lib.proofs.call.joins.concat.Goals as goal

-- what follows when each argument is read
abbrev behind_j : ℕ → Bytes → ℤ → ℤ → Lib (List Value)
behind_j t b i j = joined b t i (count_from i j) >>= string_value

abbrev behind_border : List Value → ℕ → Bytes → ℤ → ℕ → Lib (List Value)
behind_border vs t b i n = number_or 3 vs (pos n) >>= λ j. behind_j t b i j

abbrev behind_i : List Value → ℕ → Bytes → ℤ → Lib (List Value)
behind_i vs t b i = look (λ s. border s t) >>= λ n. behind_border vs t b i n

abbrev behind_between : List Value → ℕ → Bytes → Lib (List Value)
behind_between vs t b = number_or 2 vs (pos 1) >>= λ i. behind_i vs t b i

abbrev behind_table : List Value → ℕ → Lib (List Value)
behind_table vs t = text_or 1 vs [] >>= λ b. behind_between vs t b

pub returns-in_err-table : goal.returns-in_err-table
returns-in_err-table c =
    let p = err_from_is_err_and c.from_residual.result c.from_residual.ensures.1 in
    rw (p.1, p.2) (refuses-raised c.args.heap.now _ _ (raises-first _ _ _ c.in_err-table.ensures.taken))

pub returns-in_err-between : goal.returns-in_err-between
returns-in_err-between c =
    let p = err_from_is_err_and c.from_residual-in_err-between.result c.from_residual-in_err-between.ensures.1 in
    rw (p.1, p.2) (refuses-raised c.args.heap.now _ _ (raises-then _ _ _ _ c.in_ok-table.ensures.taken (raises-first _ _ _ c.in_err-between.ensures)))

pub returns-in_err-i : goal.returns-in_err-i
returns-in_err-i c =
    let p = err_from_is_err_and c.from_residual-in_err-i.result c.from_residual-in_err-i.ensures.1 in
    rw (p.1, p.2) (refuses-raised c.args.heap.now _ _ (raises-then _ _ _ _ c.in_ok-table.ensures.taken (raises-then _ _ _ _ c.in_ok-between.ensures (raises-first _ _ _ c.in_err-i.ensures))))

pub returns-in_err-j : goal.returns-in_err-j
returns-in_err-j c =
    let h = c.args.heap.now in
    let s = store_of h in
    let vs = values_of h c.args.args.now in
    let t = c.in_ok-table.table in
    let b = c.in_ok-between.between.now in
    let i = c.in_ok-i.i in
    let n = border s t in
    let p = err_from_is_err_and c.from_residual-in_err-j.result c.from_residual-in_err-j.ensures.1 in
    rw (p.1, p.2) (refuses-then (table_argument 0 vs) (behind_table vs) h h t _ (c.in_ok-table.ensures.taken s)
    (refuses-then (text_or 1 vs []) (behind_between vs t) h h b _ (c.in_ok-between.ensures s)
    (refuses-then (number_or 2 vs (pos 1)) (behind_i vs t b) h h i _ (c.in_ok-i.ensures s)
    (refuses-then (look (λ s. border s t)) (behind_border vs t b i) h h n _ refl
    (refuses-raised h (behind_border vs t b i n) _ (raises-first (number_or 3 vs (pos n)) (behind_j t b i) _ c.in_err-j.ensures))))))

pub returns-in_err-joined : goal.returns-in_err-joined
returns-in_err-joined c =
    let h = c.args.heap.now in
    let s = store_of h in
    let vs = values_of h c.args.args.now in
    let t = c.in_ok-table.table in
    let b = c.in_ok-between.between.now in
    let i = c.in_ok-i.i in
    let j = c.in_ok-j.j in
    let n = border s t in
    let p = err_from_is_err_and c.from_residual-in_err-joined.result c.from_residual-in_err-joined.ensures.1 in
    rw (p.1, p.2) (refuses-then (table_argument 0 vs) (behind_table vs) h h t _ (c.in_ok-table.ensures.taken s)
    (refuses-then (text_or 1 vs []) (behind_between vs t) h h b _ (c.in_ok-between.ensures s)
    (refuses-then (number_or 2 vs (pos 1)) (behind_i vs t b) h h i _ (c.in_ok-i.ensures s)
    (refuses-then (look (λ s. border s t)) (behind_border vs t b i) h h n _ refl
    (refuses-then (number_or 3 vs (pos n)) (behind_j t b i) h h j _ (c.in_ok-j.ensures s)
    (refuses-first (joined b t i (count_from i j)) string_value h h _
    (refuses-same h (joined b t i (count_from i j)) (joined b t i c.count_from-count.result) _ (ap (λ (k : ℕ). joined b t i k s) (sym c.count_from-count.ensures.count)) c.in_err-joined.ensures)))))))

pub returns-in_err-made : goal.returns-in_err-made
returns-in_err-made c =
    let h = c.args.heap.now in
    let s = store_of h in
    let vs = values_of h c.args.args.now in
    let t = c.in_ok-table.table in
    let b = c.in_ok-between.between.now in
    let i = c.in_ok-i.i in
    let j = c.in_ok-j.j in
    let n = border s t in
    let text = c.in_ok-joined.joined.items in
    let p = err_from_is_err_and c.from_residual-in_err-made.result c.from_residual-in_err-made.ensures.1 in
    rw (p.1, p.2) (refuses-then (table_argument 0 vs) (behind_table vs) h h t _ (c.in_ok-table.ensures.taken s)
    (refuses-then (text_or 1 vs []) (behind_between vs t) h h b _ (c.in_ok-between.ensures s)
    (refuses-then (number_or 2 vs (pos 1)) (behind_i vs t b) h h i _ (c.in_ok-i.ensures s)
    (refuses-then (look (λ s. border s t)) (behind_border vs t b i) h h n _ refl
    (refuses-then (number_or 3 vs (pos n)) (behind_j t b i) h h j _ (c.in_ok-j.ensures s)
    (refuses-then (joined b t i (count_from i j)) string_value h h text _ (ap (λ (k : ℕ). joined b t i k s) (sym c.count_from-count.ensures.count) ∙ c.in_ok-joined.ensures)
    (refuses-raised h (string_value text) _ c.in_err-made.ensures.fault)))))))

pub returns : goal.returns
returns c =
    let h = c.args.heap.now in
    let s = store_of h in
    let t = c.in_ok-table.table in
    let b = c.in_ok-between.between.now in
    let i = c.in_ok-i.i in
    let j = c.in_ok-j.j in
    let text = c.in_ok-joined.joined.items in
    then-at _ _ s t _ (c.in_ok-table.ensures.taken s) (then-at _ _ s b _ (c.in_ok-between.ensures s) (then-at _ _ s i _ (c.in_ok-i.ensures s) (then-at _ _ s j _ (c.in_ok-j.ensures s)
    (then-at (joined b t i (count_from i j) s) string_value s text _ (ap (λ (k : ℕ). joined b t i k s) (sym c.count_from-count.ensures.count) ∙ c.in_ok-joined.ensures)
    (c.in_ok-made.ensures.ok s)))))
