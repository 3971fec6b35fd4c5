use Rattle.std.proofs.Common.{ℤ, pos, [], ◌∷◌, length, ap, sym}
use Rattle.std.proofs.lemmas.Result.{err_from_is_err_and}
use Rattle.lua_meaning.specs.Value.{num}
use Rattle.lua_meaning.specs.Arguments.{answers}
use Rattle.lua_lib.proofs.Scales.{kept-only}
use Rattle.lua_lib.proofs.Binding.{gives-then, raises-first}
use Rattle.lua_lib.proofs.call.strings.len.Goals as goal

pub returns-in_err-text : goal.returns-in_err-text
returns-in_err-text c =
    let p = err_from_is_err_and c.from_residual.result c.from_residual.ensures.1 in
    rw (p.1, p.2) (raises-first _ _ _ c.in_err-text.ensures)

pub returns-in-Some : goal.returns-in-Some
returns-in-Some c =
    let is = kept-only (pos (length c.in_ok-text.text.now)) c.in-Some.length (sym c.in-Some.ensures) in
    gives-then _ _ _ _ c.in_ok-text.ensures (λ s. ap (λ (z : ℤ). answers (num z ∷ []) s) is.0)
