use Rattle.std.proofs.Common.{List, ap, sym, ◌∙◌}
use Rattle.std.specs.Prelude.{drop}
use Rattle.std.proofs.lemmas.Result.{err_from_is_err_and}
use Rattle.lua_meaning.specs.Value as meant
use Rattle.lua_meaning.specs.Message.{Ask}
use Rattle.lua_meaning.specs.Arguments.{answers}
use Rattle.lua_heap.specs.declared.value.Value.{Value}
use Rattle.lua_heap.specs.Value.{value_view}
use Rattle.lua_heap.specs.Heap.{store_of}
use Rattle.lua_code.specs.State.{enters}
use Rattle.lua_lib.specs.Causes.{values_of}
use Rattle.lua_lib.proofs.Binding.{raises-first, raises-then}
use Rattle.lua_lib.proofs.Running.{refuses-raised, then-at}
use Rattle.love_functions.specs.Asking as asking
use Rattle.love_functions.proofs.Steps.{map-drop}
use Rattle.love_functions.proofs.channels.perform_atomic.Goals as goal

pub returns-in_err-channel-clause-comes : goal.returns-in_err-channel-clause-comes
returns-in_err-channel-clause-comes c =
    let p = err_from_is_err_and c.from_residual.result c.from_residual.ensures.1 in
    rw (p.1, p.2) (refuses-raised c.args.heap.now _ _ (raises-first _ _ _ c.in_err-channel.ensures))

pub returns-in_err-function-clause-comes : goal.returns-in_err-function-clause-comes
returns-in_err-function-clause-comes c =
    let p = err_from_is_err_and c.from_residual-in_err-function.result c.from_residual-in_err-function.ensures.1 in
    rw (p.1, p.2) (refuses-raised c.args.heap.now _ _ (raises-then _ _ _ _ c.in_ok-channel.ensures (raises-first _ _ _ c.in_err-function.ensures.taken)))

pub returns-clause-comes : goal.returns-clause-comes
returns-clause-comes c =
    let h = c.args.heap.now in
    let s = store_of h in
    let args = c.args.args.now in
    let channel = c.in_ok-channel.channel in
    let made : meant.Value → List meant.Value → asking.Called = λ f vs. asking.asks (Ask.enter channel) (enters channel f vs) in
    then-at _ _ s channel _ (c.in_ok-channel.ensures s) (then-at _ _ s tt _ (c.in_ok-function.ensures.taken s)
    (ap (λ (f : meant.Value). answers (made f (drop 2 (values_of h args))) s) (sym c.in_ok-function.ensures.value)
    ∙ (ap (λ (vs : List meant.Value). answers (made (value_view h.texts c.in_ok-function.function) vs) s) (sym (map-drop (value_view h.texts) 2 args))
    ∙ ap (λ (rest : List Value). answers (made (value_view h.texts c.in_ok-function.function) (values_of h rest)) s) (sym c.in_ok-rest.ensures.rest))))
