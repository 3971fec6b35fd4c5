use Rattle.std.proofs.Common.{subst}
use Rattle.std.proofs.lemmas.Result.{err_from_is_err_and}
use Rattle.lua_tree.specs.Tree.{Bytes}
use Rattle.lua_meaning.specs.Arguments.{text_argument}
use Rattle.lua_heap.specs.Heap.{store_of}
use Rattle.lua_lib.specs.Causes.{values_of}
use Rattle.lua_lib.proofs.Binding.{raises-first}
use Rattle.lua_lib.proofs.Running.{refuses-raised, runs-then}
use Rattle.love_functions.specs.Asking.{push_event_of}
use Rattle.love_functions.specs.View.{Comes, called_view}
use Rattle.love_functions.proofs.events.push_event.Goals as goal

pub returns-in_err-name-clause-comes : goal.returns-in_err-name-clause-comes
returns-in_err-name-clause-comes c =
    let p = err_from_is_err_and c.from_residual.result c.from_residual.ensures.1 in
    rw (p.1, p.2) (refuses-raised c.args.heap.now _ _ (raises-first _ _ _ c.in_err-name.ensures))

pub returns-clause-comes : goal.returns-clause-comes
returns-clause-comes c =
    let h = c.args.heap.now in
    let vs = values_of h c.args.args.now in
    let P : Bytes → Type 0 = λ name. Comes h h (push_event_of vs name) c.push_event_of.result in
    runs-then (text_argument 0 vs) (push_event_of vs) (called_view h) h h c.in_ok-name.name.now c.push_event_of.result (c.in_ok-name.ensures (store_of h)) (subst P c.in_ok-name-2.ensures c.push_event_of.ensures.comes)
