use Rattle.std.proofs.Common.{refl}
use Rattle.std.proofs.lemmas.Result.{err_from_is_err_and}
use Rattle.lua_meaning.specs.Format.{whole_text}
use Rattle.lua_lib.proofs.Binding.{gives-then, raises-first}
use Rattle.lua_lib.proofs.call.formats.put_decimal.Goals as goal

pub returns-in_err-number : goal.returns-in_err-number
returns-in_err-number c =
    let p = err_from_is_err_and c.from_residual.result c.from_residual.ensures.1 in
    rw (p.1, p.2) (raises-first _ _ _ c.in_err-number.ensures)

pub returns-in_err-put_whole : goal.returns-in_err-put_whole
returns-in_err-put_whole c =
    let p = err_from_is_err_and c.from_residual-in_err-put_whole.result c.from_residual-in_err-put_whole.ensures.1 in
    rw (p.1, p.2) tt

pub returns : goal.returns
returns c = (whole_text c.args.item c.in_ok-number.number, c.in_ok-put_whole.ensures, gives-then _ _ _ _ c.in_ok-number.ensures (λ s. refl))
