use Rattle.std.proofs.lemmas.Result.{err_from_is_err_and}
use Rattle.lua_lib.proofs.Binding.{gives-then, raises-first, raises-then}
use Rattle.lua_lib.proofs.call.math.pow.Goals as goal

pub returns-in_err-x : goal.returns-in_err-x
returns-in_err-x c =
    let p = err_from_is_err_and c.from_residual.result c.from_residual.ensures.1 in
    rw (p.1, p.2) (raises-first _ _ _ c.in_err-x.ensures)

pub returns-in_err-y : goal.returns-in_err-y
returns-in_err-y c =
    let p = err_from_is_err_and c.from_residual-in_err-y.result c.from_residual-in_err-y.ensures.1 in
    rw (p.1, p.2) (raises-then _ _ _ _ c.in_ok-x.ensures (raises-first _ _ _ c.in_err-y.ensures))

pub returns-in_err-power : goal.returns-in_err-power
returns-in_err-power c =
    let p = err_from_is_err_and c.from_residual-in_err-power.result c.from_residual-in_err-power.ensures.1 in
    rw (p.1, p.2) (raises-then _ _ _ _ c.in_ok-x.ensures (raises-then _ _ _ _ c.in_ok-y.ensures (c.in_err-power.ensures.fault)))

pub returns : goal.returns
returns c = gives-then _ _ _ _ c.in_ok-x.ensures (gives-then _ _ _ _ c.in_ok-y.ensures (c.in_ok-power.ensures.ok))
