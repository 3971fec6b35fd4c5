use Rattle.std.proofs.Common.{◌≡◌, ℕ, ℤ, pos, List, [], ◌∷◌, ap, refl, sym, subst, ◌∙◌}
use Rattle.std.proofs.lemmas.Result.{err_from_is_err_and}
use Rattle.love_base.specs.Data.{Contents}
use Rattle.lua_meaning.specs.Value.{Value, datum}
use Rattle.lua_meaning.specs.Store.{contents_at, add_contents}
use Rattle.lua_meaning.specs.Arguments.{Lib, answers, look, number_or, ◌>>=◌}
use Rattle.lua_meaning.specs.Data.{part_of, size_behind}
use Rattle.lua_heap.specs.Heap.{store_of}
use Rattle.lua_lib.specs.Causes.{values_of, error_of}
use Rattle.lua_lib.specs.Faults.{RaisesBy}
use Rattle.lua_lib.specs.Outcome.{Gives}
use Rattle.lua_lib.proofs.Binding.{raises-first, raises-then}
use Rattle.lua_lib.proofs.Running.{refuses-raised, refuses-then, then-at}
use Rattle.lua_lib.proofs.call.contents.part_data.Goals as goal

-- what follows when each argument is read
abbrev behind_offset : List Value → Contents → ℤ → Lib (List Value)
behind_offset vs whole offset = number_or 2 vs (size_behind whole offset) >>= λ size. part_of whole offset size

abbrev behind_whole : List Value → Contents → Lib (List Value)
behind_whole vs whole = number_or 1 vs (pos 0) >>= λ offset. behind_offset vs whole offset

pub returns-in_err-offset-clause-runs : goal.returns-in_err-offset-clause-runs
returns-in_err-offset-clause-runs c =
    let h = c.args.heap.now in
    let s = store_of h in
    let vs = values_of h c.args.args.now in
    let d = c.args.whole in
    let whole = contents_at s d in
    let p = err_from_is_err_and c.from_residual.result c.from_residual.ensures.1 in
    rw (p.1, p.2) (refuses-then (look (λ s. contents_at s d)) (behind_whole vs) h h whole _ refl
    (refuses-raised h (behind_whole vs whole) _ (raises-first (number_or 1 vs (pos 0)) (behind_offset vs whole) _ c.in_err-offset.ensures)))

pub returns-in_err-size-clause-runs : goal.returns-in_err-size-clause-runs
returns-in_err-size-clause-runs c =
    let h = c.args.heap.now in
    let s = store_of h in
    let vs = values_of h c.args.args.now in
    let d = c.args.whole in
    let whole = contents_at s d in
    let offset = c.in_ok-offset.offset in
    let p = err_from_is_err_and c.from_residual-in_err-size.result c.from_residual-in_err-size.ensures.1 in
    let same : pos c.size_behind.result ≡ size_behind whole offset = c.size_behind.ensures ∙ ap (λ (w : Contents). size_behind w offset) c.data_of.ensures.contents in
    let P : ℤ → Type 0 = λ z. RaisesBy (number_or 2 vs z) (error_of h.texts p.0) in
    let fails : P (pos c.size_behind.result) = rw p.2 c.in_err-size.ensures in
    rw p.1 (refuses-then (look (λ s. contents_at s d)) (behind_whole vs) h h whole _ refl
    (refuses-raised h (behind_whole vs whole) _ (raises-then (number_or 1 vs (pos 0)) (behind_offset vs whole) offset _ c.in_ok-offset.ensures
    (raises-first (number_or 2 vs (size_behind whole offset)) (λ size. part_of whole offset size) _ (subst P same fails)))))

pub returns-in_err-part-clause-runs : goal.returns-in_err-part-clause-runs
returns-in_err-part-clause-runs c =
    let h = c.args.heap.now in
    let s = store_of h in
    let vs = values_of h c.args.args.now in
    let d = c.args.whole in
    let whole = contents_at s d in
    let offset = c.in_ok-offset.offset in
    let size = c.in_ok-size.size in
    let p = err_from_is_err_and c.from_residual-in_err-part.result c.from_residual-in_err-part.ensures.1 in
    let same : pos c.size_behind.result ≡ size_behind whole offset = c.size_behind.ensures ∙ ap (λ (w : Contents). size_behind w offset) c.data_of.ensures.contents in
    let G : ℤ → Type 0 = λ z. Gives (number_or 2 vs z) size in
    let P : Contents → Type 0 = λ w. RaisesBy (part_of w offset size) (error_of h.texts p.0) in
    let fails : P c.data_of-2.result.now = rw p.2 (c.in_err-part.ensures h.texts) in
    rw p.1 (refuses-then (look (λ s. contents_at s d)) (behind_whole vs) h h whole _ refl
    (refuses-raised h (behind_whole vs whole) _ (raises-then (number_or 1 vs (pos 0)) (behind_offset vs whole) offset _ c.in_ok-offset.ensures
    (raises-then (number_or 2 vs (size_behind whole offset)) (λ size. part_of whole offset size) size _ (subst G same c.in_ok-size.ensures) (subst P c.data_of-2.ensures.contents fails)))))

pub returns-clause-runs : goal.returns-clause-runs
returns-clause-runs c =
    let h = c.args.heap.now in
    let s = store_of h in
    let vs = values_of h c.args.args.now in
    let d = c.args.whole in
    let whole = contents_at s d in
    let offset = c.in_ok-offset.offset in
    let size = c.in_ok-size.size in
    let made = c.in_ok-made.made in
    let same : pos c.size_behind.result ≡ size_behind whole offset = c.size_behind.ensures ∙ ap (λ (w : Contents). size_behind w offset) c.data_of.ensures.contents in
    let G : ℤ → Type 0 = λ z. Gives (number_or 2 vs z) size in
    then-at _ _ s offset _ (c.in_ok-offset.ensures s) (then-at _ _ s size _ (subst G same c.in_ok-size.ensures s)
    (ap (λ (w : Contents). part_of w offset size s) (sym c.data_of-2.ensures.contents)
    ∙ (c.in_ok-part.ensures s
    ∙ (ap (λ (n : ℕ). answers (datum n ∷ []) (add_contents s c.in_ok-part.part)) (sym c.in_ok-made.ensures.id)
    ∙ ap (answers (datum made ∷ [])) (sym c.in_ok-made.ensures.store.store)))))
