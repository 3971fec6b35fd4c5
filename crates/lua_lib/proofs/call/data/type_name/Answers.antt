use Rattle.std.proofs.Common.{refl}
use Rattle.std.proofs.lemmas.Result.{err_from_is_err_and}
use Rattle.lua_meaning.specs.Value.{str}
use Rattle.lua_meaning.specs.Arguments.{answer_one}
use Rattle.lua_meaning.specs.Data as meaning
use Rattle.lua_heap.specs.Heap.{store_of}
use Rattle.lua_lib.specs.Causes.{values_of}
use Rattle.lua_lib.proofs.Running.{refuses-first, then-at}
use Rattle.lua_lib.proofs.call.data.type_name.Goals as goal

pub returns-in_err-name : goal.returns-in_err-name
returns-in_err-name c =
    let h = c.args.heap.now in
    let p = err_from_is_err_and c.from_residual.result c.from_residual.ensures.1 in
    rw (p.1, p.2) (refuses-first (meaning.type_argument (values_of h c.args.args.now)) (λ t. answer_one (str t)) h h _ c.in_err-name.ensures)

pub returns : goal.returns
returns c = let s = store_of c.args.heap.now in then-at _ _ s _ _ c.in_ok-name.ensures refl
