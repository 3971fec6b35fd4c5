use Rattle.std.proofs.lemmas.Result.{err_from_is_err_and}
use Rattle.lua_lib.proofs.Binding.{gives-then, raises-first}
use Rattle.lua_lib.proofs.call.math.whole.Goals as goal

pub returns-in_err-x : goal.returns-in_err-x
returns-in_err-x c =
    let p = err_from_is_err_and c.from_residual.result c.from_residual.ensures.1 in
    rw (p.1, p.2) (raises-first _ _ _ c.in_err-x.ensures)

pub returns : goal.returns
returns c = gives-then _ _ _ _ c.in_ok-x.ensures (c.whole.ensures)
