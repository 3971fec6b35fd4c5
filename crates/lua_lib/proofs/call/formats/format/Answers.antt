use Rattle.std.proofs.lemmas.Result.{err_from_is_err_and}
use Rattle.lua_lib.proofs.Binding.{gives-then, raises-first, raises-then}
use Rattle.lua_lib.proofs.call.formats.format.Goals as goal

pub returns-in_err-text : goal.returns-in_err-text
returns-in_err-text c =
    let p = err_from_is_err_and c.from_residual.result c.from_residual.ensures.1 in
    rw (p.1, p.2) (raises-first _ _ _ c.in_err-text.ensures)

pub returns-in_err-written : goal.returns-in_err-written
returns-in_err-written c =
    let p = err_from_is_err_and c.from_residual-in_err-written.result c.from_residual-in_err-written.ensures.1 in
    rw (p.1, p.2) (raises-then _ _ _ _ c.in_ok-text.ensures (raises-first _ _ _ c.in_err-written.ensures))

pub returns-in_err-made : goal.returns-in_err-made
returns-in_err-made c =
    let p = err_from_is_err_and c.from_residual-in_err-made.result c.from_residual-in_err-made.ensures.1 in
    rw (p.1, p.2) (raises-then _ _ _ _ c.in_ok-text.ensures (raises-then _ _ _ _ c.in_ok-written.ensures (c.in_err-made.ensures.fault)))

pub returns : goal.returns
returns c = gives-then _ _ _ _ c.in_ok-text.ensures (gives-then _ _ _ _ c.in_ok-written.ensures (c.in_ok-made.ensures.ok))
