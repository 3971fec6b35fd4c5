use Rattle.std.proofs.lemmas.Result.{err_from_is_err_and}
use Rattle.lua_meaning.specs.LoveArguments.{channel_argument}
use Rattle.lua_heap.specs.Heap.{store_of}
use Rattle.lua_lib.specs.Causes.{values_of}
use Rattle.lua_lib.proofs.Binding.{raises-first}
use Rattle.lua_lib.proofs.Running.{refuses-raised, runs-then}
use Rattle.love_functions.specs.Asking.{supply_into}
use Rattle.love_functions.specs.View.{called_view}
use Rattle.love_functions.proofs.channels.supply.Goals as goal

pub returns-in_err-channel-clause-comes : goal.returns-in_err-channel-clause-comes
returns-in_err-channel-clause-comes c =
    let p = err_from_is_err_and c.from_residual.result c.from_residual.ensures.1 in
    rw (p.1, p.2) (refuses-raised c.args.heap.now _ _ (raises-first _ _ _ c.in_err-channel.ensures))

pub returns-clause-comes : goal.returns-clause-comes
returns-clause-comes c =
    let h = c.args.heap.now in
    let vs = values_of h c.args.args.now in
    runs-then (channel_argument 0 vs) (λ x. supply_into x vs) (called_view h) h h c.in_ok-channel.channel c.supply_into.result (c.in_ok-channel.ensures (store_of h)) c.supply_into.ensures.comes
