use Rattle.lua_meaning.specs.Store.{Store, raw_set}
use Rattle.lua_heap.specs.Value.{value_view}
use Rattle.crossing.proofs.Keeping.{Keeps-set, set-store}
use Rattle.crossing.proofs.unpacking.set.Goals as goal

pub returns-clause-store : goal.returns-clause-store
returns-clause-store c =
    set-store c.args.heap.now c.set_raw.new.self
    (λ (s : Store). raw_set s c.args.table (value_view c.args.heap.now.texts c.args.key.now) (value_view c.args.heap.now.texts c.args.value.now))
    c.set_raw.result c.set_raw.ensures.store

pub returns-clause-kept : goal.returns-clause-kept
returns-clause-kept c =
    Keeps-set c.args.table c.args.heap.now c.set_raw.new.self (value_view c.args.heap.now.texts c.args.key.now) (value_view c.args.heap.now.texts c.args.value.now)
    c.set_raw.result c.set_raw.ensures.store c.set_raw.ensures.refused c.set_raw.ensures.extends
