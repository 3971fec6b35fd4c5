use Rattle.std.proofs.Common.{◌≡◌, ap, ◌∙◌, sym, subst}
use Rattle.std.specs.Prelude.{IfOk}
use Rattle.lua_heap.specs.Native.{native_view}
use Rattle.lua_code.specs.Frames.{built_in}
use Rattle.lua_machine.specs.View.{EngineView}
use Rattle.lua_machine.specs.Ready.{IsServing}
use Rattle.lua_machine.specs.Callees.{callee_at}
use Rattle.lua_machine.specs.Back.{Starts}
use Rattle.lua_machine.proofs.Backed.{back_runs, back_handles, back_library, back_handles_library, calls_nothing, pushed_serving, put_first}
use Rattle.lua_machine.proofs.engine.Engine.call_back.Goals as goal

pub returns-in-Runs : goal.returns-in-Runs
returns-in-Runs c =
    back_runs c.args.self.now c.push_duty.new.self c.run_function.new.self c.args.duty c.args.value c.in_ok-push_duty.ensures c.run_function.result c.in-Runs.id c.in-Runs.ensures c.run_function.ensures

pub returns-in-Library : goal.returns-in-Library
returns-in-Library c =
    back_library c.args.self.now c.push_duty.new.self c.run_native.new.self c.args.duty c.args.value c.in_ok-push_duty.ensures c.run_native.result c.in-Library.native c.in-Library.ensures c.run_native.ensures

pub returns-in_ok-insert-in-Handles : goal.returns-in_ok-insert-in-Handles
returns-in_ok-insert-in-Handles c =
    back_handles c.args.self.now c.push_duty.new.self c.run_function-in-Handles.new.self c.args.duty c.args.value c.in_ok-push_duty.ensures c.run_function-in-Handles.result c.in-Handles.id _
    (put_first _ c.push_duty.new.self c.self.view_is c.args.value c.insert.new.self.items c.in_ok-insert-in-Handles.ensures.items) c.in-Handles.ensures c.run_function-in-Handles.ensures

pub returns-in_ok-insert-in-HandlesLibrary : goal.returns-in_ok-insert-in-HandlesLibrary
returns-in_ok-insert-in-HandlesLibrary c =
    back_handles_library c.args.self.now c.push_duty.new.self c.run_native-in-HandlesLibrary.new.self c.args.duty c.args.value c.in_ok-push_duty.ensures c.run_native-in-HandlesLibrary.result c.in-HandlesLibrary.native _
    (put_first _ c.push_duty.new.self c.self.view_is c.args.value c.insert-in-HandlesLibrary.new.self.items c.in_ok-insert-in-HandlesLibrary.ensures.items) c.in-HandlesLibrary.ensures c.run_native-in-HandlesLibrary.ensures

pub returns-in_ok-error-in-Nothing : goal.returns-in_ok-error-in-Nothing
returns-in_ok-error-in-Nothing c =
    calls_nothing c.args.self.now c.push_duty.new.self c.args.duty c.args.value c.in_ok-push_duty.ensures c.in_ok-error-in-Nothing.error c.call_refusal.new.self c.in-Nothing.ensures c.in_ok-error-in-Nothing.ensures
