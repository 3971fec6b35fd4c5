use Rattle.std.proofs.Common.{sym, ap, ◌∙◌}
use Rattle.std.specs.Prelude.{codes}
use Rattle.lua_meaning.specs.Arguments.{argument}
use Rattle.lua_meaning.specs.LoveArguments.{as_channel}
use Rattle.lua_heap.specs.Value.{value_view}
use Rattle.lua_lib.specs.Causes.{values_of}
use Rattle.lua_lib.proofs.Reading.{wanted-some}
use Rattle.lua_lib.proofs.call.arguments.channel_argument.Goals as goal

pub returns-in-Channel : goal.returns-in-Channel
returns-in-Channel c =
    let texts = c.args.heap.now.texts in
    let value = argument c.args.n (values_of c.args.heap.now c.args.args.now) in
    wanted-some c.args.n (codes "Channel") value (as_channel value) c.in-Channel.channel
    (ap as_channel (sym (c.argument-value.ensures.value texts)) ∙ ap (λ v. as_channel (value_view texts v)) c.in-Channel.is)
