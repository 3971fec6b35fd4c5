use Rattle.std.proofs.Common.{◌∙◌}
use Rattle.std.proofs.lemmas.Result.{err_from_is_err_and}
use Rattle.lua_lib.specs.Causes.{values_of}
use Rattle.lua_lib.proofs.Written.{put-byte, put-item, item-raises, directive-raises}
use Rattle.lua_lib.proofs.call.formats.put_piece.Goals as goal

pub returns-then-byte-ne37-clause-put : goal.returns-then-byte-ne37-clause-put
returns-then-byte-ne37-clause-put c = λ s.
    put-byte c.args.argument (values_of c.args.heap.now c.args.args.now) c.args.byte c.args.behind.now c.args.made.now.items c.push.new.self.items s
    c.if-byte-ne37.true c.in_ok-push.ensures.items

pub returns-in_ok-next-in-Ok-clause-put : goal.returns-in_ok-next-in-Ok-clause-put
returns-in_ok-next-in-Ok-clause-put c = λ s.
    put-item c.args.argument (values_of c.args.heap.now c.args.args.now) c.args.byte c.args.behind.now c.in-Ok.directive c.in-Ok.left.now c.args.made.now.items s
    c.if-byte-ne37.false c.in-Ok.ensures.ok
    ∙ c.in_ok-next-in-Ok.ensures.put c.in-Ok.left.now s

pub returns-in_err-next-in-Ok-clause-fault : goal.returns-in_err-next-in-Ok-clause-fault
returns-in_err-next-in-Ok-clause-fault c =
    let p = err_from_is_err_and c.from_residual-in_err-next-in-Ok.result c.from_residual-in_err-next-in-Ok.ensures.1 in
    rw (p.1, p.2) (directive-raises c.args.argument (values_of c.args.heap.now c.args.args.now) c.args.byte c.args.behind.now c.in-Ok.directive c.in-Ok.left.now _
    c.if-byte-ne37.false c.in-Ok.ensures.ok (c.in_err-next-in-Ok.ensures.fault c.in-Ok.left.now))

pub returns-in-Err-clause-fault : goal.returns-in-Err-clause-fault
returns-in-Err-clause-fault c =
    let vs = values_of c.args.heap.now c.args.args.now in
    item-raises c.args.argument vs c.args.byte c.args.behind.now _ c.if-byte-ne37.false (c.in-Err.ensures.fault c.args.argument vs)
