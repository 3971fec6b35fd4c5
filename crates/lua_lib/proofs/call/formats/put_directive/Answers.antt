use Rattle.std.proofs.lemmas.Result.{err_from_is_err_and}
use Rattle.lua_lib.specs.Causes.{values_of}
use Rattle.lua_lib.proofs.Written.{put-percent, put-converted, converted-raises}
use Rattle.lua_lib.proofs.call.formats.put_directive.Goals as goal

pub returns-in_ok-push-in-Percent-clause-put : goal.returns-in_ok-push-in-Percent-clause-put
returns-in_ok-push-in-Percent-clause-put c = λ rest s.
    put-percent c.args.argument (values_of c.args.heap.now c.args.args.now) c.args.directive c.args.made.now.items c.push.new.self.items rest s c.in-Percent.is c.in_ok-push-in-Percent.ensures.items

pub returns-in_ok-put_converted-in-Converts-clause-put : goal.returns-in_ok-put_converted-in-Converts-clause-put
returns-in_ok-put_converted-in-Converts-clause-put c = λ rest s.
    let put = c.in_ok-put_converted-in-Converts.ensures in
    put-converted c.args.argument (values_of c.args.heap.now c.args.args.now) c.args.directive c.in-Converts.item c.in-Converts.letter c.args.made.now.items c.put_converted.new.made.items
    put.0 rest s c.in-Converts.is put.1 put.2

pub returns-in_err-put_converted-in-Converts-clause-fault : goal.returns-in_err-put_converted-in-Converts-clause-fault
returns-in_err-put_converted-in-Converts-clause-fault c =
    let p = err_from_is_err_and c.from_residual-in_err-put_converted-in-Converts.result c.from_residual-in_err-put_converted-in-Converts.ensures.1 in
    rw (p.1, p.2) (λ rest. converted-raises c.args.argument (values_of c.args.heap.now c.args.args.now) c.args.directive c.in-Converts.item c.in-Converts.letter rest _ c.in-Converts.is c.in_err-put_converted-in-Converts.ensures)
