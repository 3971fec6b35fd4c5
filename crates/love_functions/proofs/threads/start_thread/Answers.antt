use Rattle.std.proofs.Common.{List, map, ap, sym, ◌∙◌}
use Rattle.std.specs.Prelude.{Result}
use Rattle.lua_meaning.specs.Value as meant
use Rattle.lua_meaning.specs.Message.{Message, Ask}
use Rattle.lua_meaning.specs.MessageView.{message_view}
use Rattle.lua_meaning.specs.Packing.{PackFault, pack_all}
use Rattle.lua_meaning.specs.Arguments.{Lib, answers}
use Rattle.love_functions.specs.declared.errand.Called as declared
use Rattle.lua_heap.specs.Value.{value_view}
use Rattle.lua_heap.specs.Heap.{store_of}
use Rattle.lua_code.specs.State.{gives_values}
use Rattle.lua_lib.specs.Causes.{values_of}
use Rattle.lua_lib.proofs.Running.{runs-same}
use Rattle.love_functions.specs.Asking.{Called, packed, with_messages, asking}
use Rattle.love_functions.specs.View.{called_view}
use Rattle.love_functions.proofs.Steps.{answers-fault, map-drop}
use Rattle.love_functions.proofs.threads.start_thread.Goals as goal

pub pack_all-requires : goal.pack_all-requires
pack_all-requires c = record { made = c.behind_one.ensures.made c.args.heap.now c.requires }

pub returns-in-Ok-clause-comes : goal.returns-in-Ok-clause-comes
returns-in-Ok-clause-comes c =
    let h = c.args.heap.now in
    let s = store_of h in
    let view = value_view h.texts in
    let args = c.args.args.now in
    let rest = c.behind_one.result.now in
    let next : List Message → Lib Called = λ ms. asking (Ask.start c.args.thread ms) gives_values in
    ap (λ (vs : List meant.Value). packed next (pack_all s vs) s) (sym (map-drop view 1 args) ∙ ap (map view) (sym c.behind_one.ensures.rest))
    ∙ (ap (λ (r : Result (List Message) PackFault). packed next r s) c.in-Ok.ensures
    ∙ ap (λ (called : declared.Called). answers (called_view h called) s) (sym c.asks.ensures))

pub returns-in-Err-clause-comes : goal.returns-in-Err-clause-comes
returns-in-Err-clause-comes c =
    let h = c.args.heap.now in
    let s = store_of h in
    let view = value_view h.texts in
    let args = c.args.args.now in
    let rest = c.behind_one.result.now in
    let next : List Message → Lib Called = λ ms. asking (Ask.start c.args.thread ms) gives_values in
    runs-same (called_view h) h h (with_messages (values_of h args) next) (packed next (pack_all s (map view rest))) c.unsent.result
    (ap (λ (vs : List meant.Value). packed next (pack_all s vs) s) (sym (map-drop view 1 args) ∙ ap (map view) (sym c.behind_one.ensures.rest)))
    (c.unsent.ensures.all (pack_all s (map view rest)) next h (answers-fault (map message_view) (pack_all s (map view rest)) c.in-Err.fault c.in-Err.ensures))

pub returns-in-Err-clause-made : goal.returns-in-Err-clause-made
returns-in-Err-clause-made c = c.unsent.ensures.made c.args.heap.now
