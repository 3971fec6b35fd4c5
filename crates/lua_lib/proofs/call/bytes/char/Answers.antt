use Rattle.std.proofs.lemmas.Result.{err_from_is_err_and}
use Rattle.lua_lib.proofs.Binding.{gives-then, raises-first, raises-then}
use Rattle.lua_lib.proofs.call.bytes.char.Goals as goal

pub returns-in_err-bytes : goal.returns-in_err-bytes
returns-in_err-bytes c =
    let p = err_from_is_err_and c.from_residual.result c.from_residual.ensures.1 in
    rw (p.1, p.2) (raises-first _ _ _ c.in_err-bytes.ensures)

pub returns-in_err-made : goal.returns-in_err-made
returns-in_err-made c =
    let p = err_from_is_err_and c.from_residual-in_err-made.result c.from_residual-in_err-made.ensures.1 in
    rw (p.1, p.2) (raises-then _ _ _ _ c.in_ok-bytes.ensures (c.in_err-made.ensures.fault))

pub returns : goal.returns
returns c = gives-then _ _ _ _ c.in_ok-bytes.ensures (c.in_ok-made.ensures.ok)
