use Rattle.std.proofs.Common.{ℤ, ap, sym, subst}
use Rattle.lua_meaning.specs.Store.{border}
use Rattle.lua_meaning.specs.Tables.{remove_at}
use Rattle.lua_heap.specs.Heap.{store_of}
use Rattle.lua_lib.specs.Runs.{Runs, value_or_none}
use Rattle.lua_lib.proofs.Moved.{remove_at-none}
use Rattle.lua_lib.proofs.call.tables.remove_at.Goals as goal

pub returns-in-Some-clause-runs : goal.returns-in-Some-clause-runs
returns-in-Some-clause-runs c =
    let h = c.args.heap.now in
    let k = c.taken.new.heap in
    let t = c.args.table in
    let P : ℤ → Type 0 = λ z. Runs (value_or_none k.texts) h k (remove_at t (border (store_of h) t) z) c.taken.result in
    subst P (sym c.in-Some.ensures.2) c.taken.ensures.runs

pub returns-in-None-clause-runs : goal.returns-in-None-clause-runs
returns-in-None-clause-runs c =
    let s = store_of c.args.heap.now in
    ap (λ part. part s) (remove_at-none c.args.table (border s c.args.table) c.args.n c.in-None.ensures)
