use Rattle.lua_heap.specs.declared.native.Native.TheVariants as variant
use Rattle.lua_heap.specs.Native.{native_view}
use Rattle.lua_lib.specs.Causes.{values_of}
use Rattle.love_functions.specs.Asking.{part_of}
use Rattle.love_functions.specs.View.{files_view, here}
use Rattle.love_functions.proofs.ByName.{call-same, called-by}
use Rattle.love_functions.proofs.calling.given.Goals as goal

pub returns-in-LoveEventPoll : goal.returns-in-LoveEventPoll
returns-in-LoveEventPoll c =
    let h = c.args.heap.now in
    let files = files_view c.args.files.now in
    let vs = values_of h c.args.args.now in
    called-by files c.args.state vs h c.args.native variant.LoveEventPoll (here c.poll.result) c.here-in-LoveEventPoll.result c.in-LoveEventPoll.is c.here-in-LoveEventPoll.ensures
    (call-same h (part_of files c.args.state (native_view variant.LoveEventPoll) vs) c.poll.result (c.poll.ensures.comes h) (c.poll.ensures.made h))

pub returns-in-PollWalk : goal.returns-in-PollWalk
returns-in-PollWalk c =
    let h = c.args.heap.now in
    let files = files_view c.args.files.now in
    let vs = values_of h c.args.args.now in
    called-by files c.args.state vs h c.args.native variant.PollWalk (here c.by_main.result) c.here-in-PollWalk.result c.in-PollWalk.is c.here-in-PollWalk.ensures
    (call-same h (part_of files c.args.state (native_view variant.PollWalk) vs) c.by_main.result (c.by_main.ensures.comes h) (c.by_main.ensures.made h tt))

pub returns-in-LoveEventClear : goal.returns-in-LoveEventClear
returns-in-LoveEventClear c =
    let h = c.args.heap.now in
    let files = files_view c.args.files.now in
    let vs = values_of h c.args.args.now in
    called-by files c.args.state vs h c.args.native variant.LoveEventClear (here c.by_main-in-LoveEventClear.result) c.here-in-LoveEventClear.result c.in-LoveEventClear.is c.here-in-LoveEventClear.ensures
    (call-same h (part_of files c.args.state (native_view variant.LoveEventClear) vs) c.by_main-in-LoveEventClear.result (c.by_main-in-LoveEventClear.ensures.comes h) (c.by_main-in-LoveEventClear.ensures.made h tt))
