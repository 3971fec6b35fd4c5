use Rattle.std.proofs.Common.{refl, [], ◌∷◌}
use Rattle.std.proofs.lemmas.Result.{err_from_is_err_and}
use Rattle.lua_meaning.specs.Format.{padded}
use Rattle.lua_lib.proofs.Binding.{gives-then, raises-first}
use Rattle.lua_lib.proofs.call.formats.put_byte.Goals as goal

pub returns-in_err-byte : goal.returns-in_err-byte
returns-in_err-byte c =
    let p = err_from_is_err_and c.from_residual.result c.from_residual.ensures.1 in
    rw (p.1, p.2) (raises-first _ _ _ c.in_err-byte.ensures)

pub returns-in_err-put_padded : goal.returns-in_err-put_padded
returns-in_err-put_padded c =
    let p = err_from_is_err_and c.from_residual-in_err-put_padded.result c.from_residual-in_err-put_padded.ensures.1 in
    rw (p.1, p.2) tt

pub returns : goal.returns
returns c = (padded c.args.item (c.in_ok-byte.byte ∷ []), c.in_ok-put_padded.ensures, gives-then _ _ _ _ c.in_ok-byte.ensures (λ s. refl))
