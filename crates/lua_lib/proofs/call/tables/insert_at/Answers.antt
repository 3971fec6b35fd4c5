use Rattle.std.proofs.Common.{[], ap, refl, sym, ◌∙◌}
use Rattle.lua_meaning.specs.Arguments.{answers}
use Rattle.lua_heap.specs.Value.{value_view}
use Rattle.lua_heap.specs.Heap.{store_of}
use Rattle.lua_lib.proofs.Moved.{insert_at-none, insert_at-place}
use Rattle.lua_lib.proofs.call.tables.insert_at.Goals as goal

pub returns-in-None-clause-runs : goal.returns-in-None-clause-runs
returns-in-None-clause-runs c =
    let h = c.args.heap.now in
    (ap (λ part. part (store_of h)) (insert_at-none c.args.table c.args.n (value_view h.texts c.args.value.now) c.in-None.ensures), refl)

pub returns-in_ok-put_at-in-Some-clause-runs : goal.returns-in_ok-put_at-in-Some-clause-runs
returns-in_ok-put_at-in-Some-clause-runs c =
    let h = c.args.heap.now in
    ap (λ part. part (store_of h)) (insert_at-place c.args.table c.in-Some.place c.args.n (value_view h.texts c.args.value.now) c.in-Some.ensures.2 c.in-Some.ensures.0)
    ∙ ap (answers []) (sym c.in_ok-put_at-in-Some.ensures.store)
