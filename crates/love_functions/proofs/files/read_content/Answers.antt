use Rattle.std.proofs.lemmas.Result.{err_from_is_err_and}
use Rattle.lua_lib.proofs.Binding.{raises-first}
use Rattle.lua_lib.proofs.Running.{refuses-raised}
use Rattle.love_functions.proofs.Steps.{refused-there}
use Rattle.love_functions.proofs.files.read_content.Goals as goal

pub returns-in_err-check_length : goal.returns-in_err-check_length
returns-in_err-check_length c =
    let h = c.args.heap.now in
    let p = err_from_is_err_and c.from_residual.result c.from_residual.ensures.1 in
    rw (p.1, p.2) (refused-there h _ _ (refuses-raised h _ _ (raises-first _ _ _ c.in_err-check_length.ensures.fault)))
