use Rattle.std.proofs.Common.{◌<◌, ◌≤◌, pos, [], ◌∷◌, arith, ap, refl, sym, ◌∙◌}
use Rattle.lua_meaning.specs.Store.{border}
use Rattle.lua_meaning.specs.Arguments.{answers}
use Rattle.lua_meaning.specs.Tables.{removed}
use Rattle.lua_heap.specs.Value.{value_view}
use Rattle.lua_heap.specs.Heap.{store_of}
use Rattle.lua_lib.proofs.Moved.{remove_at-behind, remove_at-place}
use Rattle.lua_lib.proofs.call.tables.taken.Goals as goal

pub returns-then-place-border-clause-runs : goal.returns-then-place-border-clause-runs
returns-then-place-border-clause-runs c =
    let s = store_of c.args.heap.now in
    let t = c.args.table in
    let past : border s t < c.args.place = let e = c.border-border.ensures in let b = c.if-place-border.true in omega arith in
    ap (λ part. part s) (remove_at-behind t (border s t) (pos c.args.place) c.args.place refl past)

pub returns-clause-runs : goal.returns-clause-runs
returns-clause-runs c =
    let s = store_of c.args.heap.now in
    let k = c.take_at.new.heap in
    let t = c.args.table in
    let n = c.args.place in
    let within : n ≤ border s t = let e = c.border-border.ensures in let b = c.if-place-border.false in omega arith in
    ap (λ part. part s) (remove_at-place t (border s t) (pos n) n refl c.requires.first within)
    ∙ (ap (λ v. answers (v ∷ []) (removed t n s)) (sym c.in_ok-value.ensures.value)
    ∙ ap (answers (value_view k.texts c.in_ok-value.value ∷ [])) (sym c.in_ok-value.ensures.store))
