use Rattle.std.proofs.lemmas.Result.{err_from_is_err_and}
use Rattle.lua_lib.proofs.Binding.{gives-then, raises-first, raises-then}
use Rattle.lua_lib.proofs.call.formats.put_base_16.Goals as goal

pub returns-in_err-number : goal.returns-in_err-number
returns-in_err-number c =
    let p = err_from_is_err_and c.from_residual.result c.from_residual.ensures.1 in
    rw (p.1, p.2) (raises-first _ _ _ c.in_err-number.ensures)

pub returns-in_err-put_hexadecimal : goal.returns-in_err-put_hexadecimal
returns-in_err-put_hexadecimal c =
    let p = err_from_is_err_and c.from_residual-in_err-put_hexadecimal.result c.from_residual-in_err-put_hexadecimal.ensures.1 in
    rw (p.1, p.2) (raises-then _ _ _ _ c.in_ok-number.ensures c.in_err-put_hexadecimal.ensures.fault)

pub returns : goal.returns
returns c = (c.in_ok-put_hexadecimal.ensures.ok.0, c.in_ok-put_hexadecimal.ensures.ok.1, gives-then _ _ _ _ c.in_ok-number.ensures c.in_ok-put_hexadecimal.ensures.ok.2)
