use Rattle.std.proofs.Common.{◌∷◌, List, ap, subst}
use Rattle.std.specs.Prelude.{IfOk}
use Rattle.lua_meaning.specs.Value as meant
use Rattle.lua_heap.specs.Native.{native_view}
use Rattle.lua_heap.specs.Value.{value_view}
use Rattle.lua_code.specs.Frames.{built_in}
use Rattle.lua_machine.specs.declared.arguments.Behind.TheVariants.{Args}
use Rattle.lua_machine.specs.View.{EngineView}
use Rattle.lua_machine.specs.Arguments.{given, args_at}
use Rattle.lua_machine.specs.Callees.{callee_at}
use Rattle.lua_machine.specs.Calling.{EntersAs, CallsAs}
use Rattle.lua_machine.proofs.Called.{calls_so, calls_handled, calls_nothing, calls_each}
use Rattle.lua_machine.proofs.Entered.{given_view}
use Rattle.lua_machine.proofs.engine.Engine.call.Goals as goal

pub returns-in-Runs : goal.returns-in-Runs
returns-in-Runs c =
    let m = c.args.self.now in
    let new = c.call_function.new.self in
    let f = callee_at m c.in-Runs.id in
    calls_each c.call_function.result (λ status. EntersAs c.args.wants f c.args.first c.args.count c.args.behind status m new) (λ status. CallsAs c.args.wants c.args.value c.args.first c.args.count c.args.behind status m new)
    (λ status p. calls_so m new c.args.wants c.args.value c.args.first c.args.count c.args.behind f status (c.in-Runs.ensures.1 (args_at m c.args.first c.args.count c.args.behind)) p) c.call_function.ensures

pub returns-in-Library : goal.returns-in-Library
returns-in-Library c =
    let m = c.args.self.now in
    let new = c.call_library.new.self in
    let f = built_in (native_view c.in-Library.native) in
    calls_each c.call_library.result (λ status. EntersAs c.args.wants f c.args.first c.args.count c.args.behind status m new) (λ status. CallsAs c.args.wants c.args.value c.args.first c.args.count c.args.behind status m new)
    (λ status p. calls_so m new c.args.wants c.args.value c.args.first c.args.count c.args.behind f status (c.in-Library.ensures (args_at m c.args.first c.args.count c.args.behind)) p) c.call_library.ensures

pub returns-in_ok-put_before-in-Handles : goal.returns-in_ok-put_before-in-Handles
returns-in_ok-put_before-in-Handles c =
    let m = c.args.self.now in
    let v = c.args.value in
    let new = c.call_function-in-Handles.new.self in
    let f = callee_at m c.in-Handles.id in
    let args = v ∷ given m c.args.first c.args.count c.args.behind in
    let all = subst (λ (y : EngineView). IfOk c.call_function-in-Handles.result (λ status. EntersAs c.args.wants (callee_at y c.in-Handles.id) c.args.first 0 Args status y new)) c.in_ok-put_before-in-Handles.ensures c.call_function-in-Handles.ensures in
    calls_each c.call_function-in-Handles.result (λ status. EntersAs c.args.wants f c.args.first 0 Args status (record m { args = args }) new) (λ status. CallsAs c.args.wants v c.args.first c.args.count c.args.behind status m new)
    (λ status p.
    calls_handled m new c.args.wants v c.args.first c.args.count c.args.behind f status args (c.in-Handles.ensures.1 (args_at m c.args.first c.args.count c.args.behind))
    (ap (λ (vs : List meant.Value). value_view m.heap.texts v ∷ vs) (given_view m c.args.first c.args.count c.args.behind c.requires.ready.slots)) p) all

pub returns-in_ok-put_before-in-HandlesLibrary : goal.returns-in_ok-put_before-in-HandlesLibrary
returns-in_ok-put_before-in-HandlesLibrary c =
    let m = c.args.self.now in
    let v = c.args.value in
    let new = c.call_library-in-HandlesLibrary.new.self in
    let f = built_in (native_view c.in-HandlesLibrary.native) in
    let args = v ∷ given m c.args.first c.args.count c.args.behind in
    let all = subst (λ (y : EngineView). IfOk c.call_library-in-HandlesLibrary.result (λ status. EntersAs c.args.wants f c.args.first 0 Args status y new)) c.in_ok-put_before-in-HandlesLibrary.ensures c.call_library-in-HandlesLibrary.ensures in
    calls_each c.call_library-in-HandlesLibrary.result (λ status. EntersAs c.args.wants f c.args.first 0 Args status (record m { args = args }) new) (λ status. CallsAs c.args.wants v c.args.first c.args.count c.args.behind status m new)
    (λ status p.
    calls_handled m new c.args.wants v c.args.first c.args.count c.args.behind f status args (c.in-HandlesLibrary.ensures (args_at m c.args.first c.args.count c.args.behind))
    (ap (λ (vs : List meant.Value). value_view m.heap.texts v ∷ vs) (given_view m c.args.first c.args.count c.args.behind c.requires.ready.slots)) p) all

pub returns-in_ok-error-in-Nothing : goal.returns-in_ok-error-in-Nothing
returns-in_ok-error-in-Nothing c =
    calls_nothing c.args.self.now c.call_error.new.self c.args.wants c.args.value c.args.first c.args.count c.args.behind c.in_ok-error-in-Nothing.error c.in-Nothing.ensures c.in_ok-error-in-Nothing.ensures
