use Rattle.std.proofs.lemmas.Result.{err_from_is_err_and}
use Rattle.lua_lib.proofs.Binding.{gives-then, raises-first, raises-then}
use Rattle.lua_lib.proofs.call.math.fmod.Goals as goal

pub returns-in_err-a : goal.returns-in_err-a
returns-in_err-a c =
    let p = err_from_is_err_and c.from_residual.result c.from_residual.ensures.1 in
    rw (p.1, p.2) (raises-first _ _ _ c.in_err-a.ensures)

pub returns-in_err-b : goal.returns-in_err-b
returns-in_err-b c =
    let p = err_from_is_err_and c.from_residual-in_err-b.result c.from_residual-in_err-b.ensures.1 in
    rw (p.1, p.2) (raises-then _ _ _ _ c.in_ok-a.ensures (raises-first _ _ _ c.in_err-b.ensures))

pub returns-in_err-rest : goal.returns-in_err-rest
returns-in_err-rest c =
    let p = err_from_is_err_and c.from_residual-in_err-rest.result c.from_residual-in_err-rest.ensures.1 in
    rw (p.1, p.2) (raises-then _ _ _ _ c.in_ok-a.ensures (raises-then _ _ _ _ c.in_ok-b.ensures (c.in_err-rest.ensures.fault)))

pub returns : goal.returns
returns c = gives-then _ _ _ _ c.in_ok-a.ensures (gives-then _ _ _ _ c.in_ok-b.ensures (c.in_ok-rest.ensures.ok))
