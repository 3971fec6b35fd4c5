use Rattle.std.proofs.Common.{◌++◌}
use Rattle.std.specs.Prelude.{codes}
use Rattle.lua_heap.specs.Native.{native_view}
use Rattle.lua_lib.proofs.Texts.{bad-put, three-put}
use Rattle.lua_lib.proofs.call.texts.put_wanted.Goals as goal

pub returns : goal.returns
returns c =
    let expected = c.args.expected.now in
    let got = c.args.got.now in
    bad-put c.args.buffer.now.items c.put_bad.new.buffer.items c.put-3.new.buffer.items c.put-4.new.buffer.items (expected ++ (codes " expected, got " ++ got)) c.name.result.now c.args.argument c.shown.result
    (native_view c.args.native) c.shown.ensures c.name.ensures c.in_ok-put_bad.ensures
    (three-put c.put_bad.new.buffer.items c.put.new.buffer.items c.put-2.new.buffer.items c.put-3.new.buffer.items expected (codes " expected, got ") got c.in_ok-put.ensures c.in_ok-put-2.ensures c.in_ok-put-3.ensures)
    c.in_ok-put-4.ensures
