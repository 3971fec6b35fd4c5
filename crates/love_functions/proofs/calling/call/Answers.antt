use Rattle.lua_heap.specs.Native.{native_view}
use Rattle.lua_lib.specs.Causes.{values_of}
use Rattle.love_functions.specs.Asking.{is_here, part_of}
use Rattle.love_functions.specs.View.{files_view}
use Rattle.love_functions.proofs.ByName.{extends-of}
use Rattle.love_functions.proofs.calling.call.Goals as goal

pub returns-clause-extends : goal.returns-clause-extends
returns-clause-extends c =
    let h = c.args.heap.now in
    let f = native_view c.args.native in
    extends-of (is_here f) h c.given.new.heap (part_of (files_view c.args.files.now) c.args.state f (values_of h c.args.args.now)) c.given.result c.given.ensures
