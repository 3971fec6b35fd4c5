use Rattle.std.proofs.lemmas.Result.{err_from_is_err_and}
use Rattle.lua_lib.proofs.Binding.{gives-then, raises-first, raises-then}
use Rattle.lua_lib.proofs.call.bytes.byte_argument.Goals as goal

pub returns-in_err-number : goal.returns-in_err-number
returns-in_err-number c =
    let p = err_from_is_err_and c.from_residual.result c.from_residual.ensures.1 in
    rw (p.1, p.2) (raises-first _ _ _ c.in_err-number.ensures)

pub returns-in_err-byte : goal.returns-in_err-byte
returns-in_err-byte c =
    let p = err_from_is_err_and c.from_residual-in_err-byte.result c.from_residual-in_err-byte.ensures.1 in
    rw (p.1, p.2) (raises-then _ _ _ _ c.in_ok-number.ensures (c.in_err-byte.ensures.fault))

pub returns : goal.returns
returns c = gives-then _ _ _ _ c.in_ok-number.ensures (c.in_ok-byte.ensures.ok)
