use Rattle.std.proofs.Common.{ℕ, ℤ, List, [], ◌∷◌, ap, refl, sym, subst, ◌∙◌}
use Rattle.std.proofs.lemmas.Result.{err_from_is_err_and}
use Rattle.love_base.specs.Data.{Contents}
use Rattle.lua_meaning.specs.Value.{Value, datum}
use Rattle.lua_meaning.specs.Store.{contents_at, add_contents}
use Rattle.lua_meaning.specs.Arguments.{Lib, answers, look, number_argument, data_argument, ◌>>=◌}
use Rattle.lua_meaning.specs.Data.{part_of}
use Rattle.lua_heap.specs.Heap.{store_of}
use Rattle.lua_lib.specs.Causes.{values_of, error_of}
use Rattle.lua_lib.specs.Faults.{RaisesBy}
use Rattle.lua_lib.proofs.Binding.{raises-first, raises-then}
use Rattle.lua_lib.proofs.Running.{refuses-raised, refuses-then, then-at}
use Rattle.lua_lib.proofs.call.contents.new_data_view.Goals as goal

-- what follows when each argument is read
abbrev behind_offset : List Value → Contents → ℤ → Lib (List Value)
behind_offset vs whole offset = number_argument 2 vs >>= λ size. part_of whole offset size

abbrev behind_whole : List Value → Contents → Lib (List Value)
behind_whole vs whole = number_argument 1 vs >>= λ offset. behind_offset vs whole offset

abbrev behind_data : List Value → ℕ → Lib (List Value)
behind_data vs d = look (λ s. contents_at s d) >>= λ whole. behind_whole vs whole

pub returns-in_err-data-clause-runs : goal.returns-in_err-data-clause-runs
returns-in_err-data-clause-runs c =
    let p = err_from_is_err_and c.from_residual.result c.from_residual.ensures.1 in
    rw (p.1, p.2) (refuses-raised c.args.heap.now _ _ (raises-first _ _ _ c.in_err-data.ensures.taken))

pub returns-in_err-offset-clause-runs : goal.returns-in_err-offset-clause-runs
returns-in_err-offset-clause-runs c =
    let h = c.args.heap.now in
    let s = store_of h in
    let vs = values_of h c.args.args.now in
    let d = c.in_ok-data.data in
    let whole = contents_at s d in
    let p = err_from_is_err_and c.from_residual-in_err-offset.result c.from_residual-in_err-offset.ensures.1 in
    rw (p.1, p.2) (refuses-then (data_argument 0 vs) (behind_data vs) h h d _ (c.in_ok-data.ensures.taken s)
    (refuses-then (look (λ s. contents_at s d)) (behind_whole vs) h h whole _ refl
    (refuses-raised h (behind_whole vs whole) _ (raises-first (number_argument 1 vs) (behind_offset vs whole) _ c.in_err-offset.ensures))))

pub returns-in_err-size-clause-runs : goal.returns-in_err-size-clause-runs
returns-in_err-size-clause-runs c =
    let h = c.args.heap.now in
    let s = store_of h in
    let vs = values_of h c.args.args.now in
    let d = c.in_ok-data.data in
    let whole = contents_at s d in
    let offset = c.in_ok-offset.offset in
    let p = err_from_is_err_and c.from_residual-in_err-size.result c.from_residual-in_err-size.ensures.1 in
    rw (p.1, p.2) (refuses-then (data_argument 0 vs) (behind_data vs) h h d _ (c.in_ok-data.ensures.taken s)
    (refuses-then (look (λ s. contents_at s d)) (behind_whole vs) h h whole _ refl
    (refuses-raised h (behind_whole vs whole) _ (raises-then (number_argument 1 vs) (behind_offset vs whole) offset _ c.in_ok-offset.ensures
    (raises-first (number_argument 2 vs) (λ size. part_of whole offset size) _ c.in_err-size.ensures)))))

pub returns-in_err-part-clause-runs : goal.returns-in_err-part-clause-runs
returns-in_err-part-clause-runs c =
    let h = c.args.heap.now in
    let s = store_of h in
    let vs = values_of h c.args.args.now in
    let d = c.in_ok-data.data in
    let whole = contents_at s d in
    let offset = c.in_ok-offset.offset in
    let size = c.in_ok-size.size in
    let p = err_from_is_err_and c.from_residual-in_err-part.result c.from_residual-in_err-part.ensures.1 in
    let P : Contents → Type 0 = λ w. RaisesBy (part_of w offset size) (error_of h.texts p.0) in
    let fails : P c.data_of.result.now = rw p.2 (c.in_err-part.ensures h.texts) in
    rw p.1 (refuses-then (data_argument 0 vs) (behind_data vs) h h d _ (c.in_ok-data.ensures.taken s)
    (refuses-then (look (λ s. contents_at s d)) (behind_whole vs) h h whole _ refl
    (refuses-raised h (behind_whole vs whole) _ (raises-then (number_argument 1 vs) (behind_offset vs whole) offset _ c.in_ok-offset.ensures
    (raises-then (number_argument 2 vs) (λ size. part_of whole offset size) size _ c.in_ok-size.ensures (subst P c.data_of.ensures.contents fails))))))

pub returns-clause-runs : goal.returns-clause-runs
returns-clause-runs c =
    let h = c.args.heap.now in
    let s = store_of h in
    let d = c.in_ok-data.data in
    let offset = c.in_ok-offset.offset in
    let size = c.in_ok-size.size in
    let made = c.in_ok-made.made in
    then-at _ _ s d _ (c.in_ok-data.ensures.taken s) (then-at _ _ s offset _ (c.in_ok-offset.ensures s) (then-at _ _ s size _ (c.in_ok-size.ensures s)
    (ap (λ (w : Contents). part_of w offset size s) (sym c.data_of.ensures.contents)
    ∙ (c.in_ok-part.ensures s
    ∙ (ap (λ (n : ℕ). answers (datum n ∷ []) (add_contents s c.in_ok-part.part)) (sym c.in_ok-made.ensures.id)
    ∙ ap (answers (datum made ∷ [])) (sym c.in_ok-made.ensures.store.store))))))
