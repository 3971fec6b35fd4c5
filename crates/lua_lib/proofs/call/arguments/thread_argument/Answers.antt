use Rattle.std.proofs.Common.{sym, ap, ◌∙◌}
use Rattle.std.specs.Prelude.{codes}
use Rattle.lua_meaning.specs.Arguments.{argument}
use Rattle.lua_meaning.specs.LoveArguments.{as_thread}
use Rattle.lua_heap.specs.Value.{value_view}
use Rattle.lua_lib.specs.Causes.{values_of}
use Rattle.lua_lib.proofs.Reading.{wanted-some}
use Rattle.lua_lib.proofs.call.arguments.thread_argument.Goals as goal

pub returns-in-Thread : goal.returns-in-Thread
returns-in-Thread c =
    let texts = c.args.heap.now.texts in
    let value = argument c.args.n (values_of c.args.heap.now c.args.args.now) in
    wanted-some c.args.n (codes "Thread") value (as_thread value) c.in-Thread.thread
    (ap as_thread (sym (c.argument-value.ensures.value texts)) ∙ ap (λ v. as_thread (value_view texts v)) c.in-Thread.is)
