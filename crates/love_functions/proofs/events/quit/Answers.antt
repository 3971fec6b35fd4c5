use Rattle.std.proofs.Common.{List, [], ◌∷◌, ◌++◌, map, ap, sym, ◌∙◌}
use Rattle.std.proofs.lemmas.Result.{err_from_is_err_and}
use Rattle.lua_tree.specs.Tree.{Bytes}
use Rattle.variant.specs.declared.message.Variant.{Variant}
use Rattle.variant.specs.declared.message.Variant.TheVariants as variant
use Rattle.lua_meaning.specs.Message.{Message, Ask}
use Rattle.lua_meaning.specs.MessageView.{message_view}
use Rattle.lua_meaning.specs.Arguments.{answers}
use Rattle.lua_heap.specs.Heap.{store_of}
use Rattle.lua_code.specs.State.{gives_true}
use Rattle.love_functions.specs.Asking.{Called, asks}
use Rattle.lua_lib.proofs.Binding.{raises-first}
use Rattle.lua_lib.proofs.Running.{refuses-raised, then-at}
use Rattle.love_functions.proofs.Steps.{seen-Num}
use Rattle.love_functions.proofs.events.quit.Goals as goal

pub returns-in_err-status-clause-comes : goal.returns-in_err-status-clause-comes
returns-in_err-status-clause-comes c =
    let p = err_from_is_err_and c.from_residual.result c.from_residual.ensures.1 in
    rw (p.1, p.2) (refuses-raised c.args.heap.now _ _ (raises-first _ _ _ c.in_err-status.ensures))

pub returns-clause-comes : goal.returns-clause-comes
returns-clause-comes c =
    let s = store_of c.args.heap.now in
    let asked : Bytes → List Message → Called = λ name ms. asks (Ask.event_push name ms) gives_true in
    then-at _ _ s c.in_ok-status.status _ (c.in_ok-status.ensures s)
    (ap (λ (name : Bytes). answers (asked name (Message.num c.in_ok-status.status ∷ [])) s) (sym c.in_ok-name.ensures)
    ∙ (ap (λ (m : Message). answers (asked c.in_ok-name.name (m ∷ [])) s) (sym (seen-Num c.in_ok-status.status))
    ∙ ap (λ (ms : List Variant). answers (asked c.in_ok-name.name (map message_view ms)) s)
    (sym (c.from_vec.ensures ∙ (c.in_ok-push.ensures.items ∙ ap (λ (vs : List Variant). vs ++ variant.Num c.in_ok-status.status ∷ []) c.new-values.ensures.items)))))
