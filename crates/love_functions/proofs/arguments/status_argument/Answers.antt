use Rattle.std.proofs.Common.{pos}
use Rattle.std.proofs.lemmas.Result.{err_from_is_err_and}
use Rattle.lua_meaning.specs.Arguments.{number_or}
use Rattle.lua_meaning.specs.LoveArguments.{status}
use Rattle.lua_lib.specs.Causes.{values_of}
use Rattle.lua_lib.proofs.Binding.{raises-first}
use Rattle.lua_lib.proofs.Reading.{number_or-default, number_or-default-raises}
use Rattle.love_functions.proofs.Steps.{comes-then}
use Rattle.love_functions.proofs.arguments.status_argument.Goals as goal

pub returns-in_err-number : goal.returns-in_err-number
returns-in_err-number c =
    let vs = values_of c.args.heap.now c.args.args.now in
    let p = err_from_is_err_and c.from_residual.result c.from_residual.ensures.1 in
    rw (p.1, p.2) (raises-first (number_or c.args.n vs (pos 0)) (status c.args.n) _ (number_or-default-raises c.args.n vs c.zero.result (pos 0) _ c.zero.ensures c.in_err-number.ensures))

pub returns : goal.returns
returns c =
    let h = c.args.heap.now in
    let vs = values_of h c.args.args.now in
    comes-then _ h (number_or c.args.n vs (pos 0)) (status c.args.n) _ c.status.result (number_or-default c.args.n vs c.zero.result (pos 0) _ c.zero.ensures c.in_ok-number.ensures) (c.status.ensures h)
