use Rattle.std.proofs.Common.{refl}
use Rattle.std.proofs.lemmas.Result.{err_from_is_err_and}
use Rattle.lua_heap.specs.Heap.{store_of}
use Rattle.lua_lib.proofs.Binding.{raises-first}
use Rattle.lua_lib.proofs.Running.{refuses-raised, then-at}
use Rattle.love_functions.proofs.channels.supply_message.Goals as goal

pub returns-in_err-limit-clause-comes : goal.returns-in_err-limit-clause-comes
returns-in_err-limit-clause-comes c =
    let p = err_from_is_err_and c.from_residual.result c.from_residual.ensures.1 in
    rw (p.1, p.2) (refuses-raised c.args.heap.now _ _ (raises-first _ _ _ c.in_err-limit.ensures))

pub returns-clause-comes : goal.returns-clause-comes
returns-clause-comes c =
    let s = store_of c.args.heap.now in
    then-at _ _ s c.in_ok-limit.limit _ (c.in_ok-limit.ensures s) refl
