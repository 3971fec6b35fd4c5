use Rattle.std.proofs.Common.{ap, sym}
use Rattle.std.proofs.lemmas.Result.{err_from_is_err_and}
use Rattle.lua_meaning.specs.Arguments.{answers}
use Rattle.lua_heap.specs.Heap.{store_of}
use Rattle.lua_lib.proofs.Binding.{raises-first}
use Rattle.lua_lib.proofs.Running.{refuses-raised, then-at}
use Rattle.love_functions.specs.declared.errand.Called.{Called}
use Rattle.love_functions.specs.View.{called_view}
use Rattle.love_functions.proofs.channels.get_count.Goals as goal

pub returns-in_err-channel-clause-comes : goal.returns-in_err-channel-clause-comes
returns-in_err-channel-clause-comes c =
    let p = err_from_is_err_and c.from_residual.result c.from_residual.ensures.1 in
    rw (p.1, p.2) (refuses-raised c.args.heap.now _ _ (raises-first _ _ _ c.in_err-channel.ensures))

pub returns-clause-comes : goal.returns-clause-comes
returns-clause-comes c =
    let h = c.args.heap.now in
    let s = store_of h in
    then-at _ _ s c.in_ok-channel.channel _ (c.in_ok-channel.ensures s) (ap (λ (called : Called). answers (called_view h called) s) (sym c.asks.ensures))
