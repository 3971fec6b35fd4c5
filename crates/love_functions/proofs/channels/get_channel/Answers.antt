use Rattle.std.proofs.Common.{List, ℕ, ap, sym, ◌∙◌}
use Rattle.std.proofs.lemmas.Result.{err_from_is_err_and}
use Rattle.lua_meaning.specs.Message.{Ask}
use Rattle.lua_meaning.specs.Arguments.{answers}
use Rattle.lua_heap.specs.Heap.{store_of}
use Rattle.lua_code.specs.State.{gives_values}
use Rattle.lua_lib.proofs.Binding.{raises-first}
use Rattle.lua_lib.proofs.Running.{refuses-raised, then-at}
use Rattle.love_functions.specs.Asking as asking
use Rattle.love_functions.specs.declared.errand.Called.{Called}
use Rattle.love_functions.specs.View.{called_view}
use Rattle.love_functions.proofs.channels.get_channel.Goals as goal

pub returns-in_err-name-clause-comes : goal.returns-in_err-name-clause-comes
returns-in_err-name-clause-comes c =
    let p = err_from_is_err_and c.from_residual.result c.from_residual.ensures.1 in
    rw (p.1, p.2) (refuses-raised c.args.heap.now _ _ (raises-first _ _ _ c.in_err-name.ensures))

pub returns-clause-comes : goal.returns-clause-comes
returns-clause-comes c =
    let h = c.args.heap.now in
    let s = store_of h in
    then-at _ _ s c.in_ok-name.name.now _ (c.in_ok-name.ensures s)
    (ap (λ (name : List ℕ). answers (asking.asks (Ask.name name) gives_values) s) (sym c.in_ok-name-2.ensures)
    ∙ ap (λ (called : Called). answers (called_view h called) s) (sym c.asks.ensures))
