use Rattle.std.proofs.Common.{ap, sym}
use Rattle.lua_meaning.specs.Value as meant
use Rattle.lua_meaning.specs.Message.{Message}
use Rattle.lua_meaning.specs.MessageView.{message_view}
use Rattle.lua_meaning.specs.Packing.{pack}
use Rattle.lua_meaning.specs.Arguments.{Lib}
use Rattle.lua_heap.specs.Value.{value_view}
use Rattle.lua_heap.specs.Heap.{store_of}
use Rattle.lua_lib.specs.Causes.{values_of}
use Rattle.lua_lib.proofs.Running.{runs-same}
use Rattle.love_functions.specs.Asking.{Called, packed, with_message, supply_message}
use Rattle.love_functions.specs.View.{called_view}
use Rattle.love_functions.proofs.Steps.{answers-fault}
use Rattle.love_functions.proofs.channels.supply_into.Goals as goal

pub pack-requires : goal.pack-requires
pack-requires c = record { made = c.argument.ensures.made c.args.heap.now c.requires }

pub returns-in-Err-clause-comes : goal.returns-in-Err-clause-comes
returns-in-Err-clause-comes c =
    let h = c.args.heap.now in
    let s = store_of h in
    let vs = values_of h c.args.args.now in
    let v = value_view h.texts c.argument.result in
    let next : Message → Lib Called = supply_message c.args.channel vs in
    runs-same (called_view h) h h (with_message 1 vs next) (packed next (pack s v)) c.unsent.result (ap (λ (w : meant.Value). packed next (pack s w) s) (sym (c.argument.ensures.value h.texts)))
    (c.unsent.ensures.one (pack s v) next h (answers-fault message_view (pack s v) c.in-Err.fault c.in-Err.ensures))

pub returns-in-Err-clause-made : goal.returns-in-Err-clause-made
returns-in-Err-clause-made c = c.unsent.ensures.made c.args.heap.now
