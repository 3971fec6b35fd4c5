use Rattle.lua_heap.specs.Native.{native_view}
use Rattle.lua_lib.proofs.Texts.{bad-put}
use Rattle.lua_lib.proofs.call.texts.put_improper.Goals as goal

pub returns : goal.returns
returns c =
    bad-put c.args.buffer.now.items c.put_bad.new.buffer.items c.put.new.buffer.items c.put-2.new.buffer.items c.args.text.now c.name.result.now c.args.argument c.shown.result (native_view c.args.native)
    c.shown.ensures c.name.ensures c.in_ok-put_bad.ensures c.in_ok-put.ensures c.in_ok-put-2.ensures
