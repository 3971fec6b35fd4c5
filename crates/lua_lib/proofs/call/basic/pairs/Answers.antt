use Rattle.std.proofs.Common.{refl}
use Rattle.lua_lib.proofs.Binding.{gives-then, raises-first}
use Rattle.std.proofs.lemmas.Result.{err_from_is_err_and}
use Rattle.lua_lib.proofs.call.basic.pairs.Goals as goal

pub returns-in_err-table-clause-given : goal.returns-in_err-table-clause-given
returns-in_err-table-clause-given c =
    let p = err_from_is_err_and c.from_residual.result c.from_residual.ensures.1 in
    rw (p.1, p.2) (raises-first _ _ _ c.in_err-table.ensures.taken)

pub returns-clause-given : goal.returns-clause-given
returns-clause-given c = gives-then _ _ _ _ c.in_ok-table.ensures.taken (λ s. refl)
