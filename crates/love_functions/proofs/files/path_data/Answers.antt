use Rattle.std.proofs.Common.{subst}
use Rattle.std.proofs.lemmas.Result.{err_from_is_err_and}
use Rattle.lua_tree.specs.Tree.{Bytes}
use Rattle.lua_meaning.specs.Arguments.{text_argument}
use Rattle.lua_lib.specs.Causes.{values_of}
use Rattle.lua_lib.proofs.Binding.{raises-first}
use Rattle.lua_lib.proofs.Running.{refuses-raised}
use Rattle.love_functions.specs.Asking.{content_at, file_data}
use Rattle.love_functions.specs.View.{IsCalled, files_view}
use Rattle.love_functions.proofs.Steps.{refused-there, called-then}
use Rattle.love_functions.proofs.files.path_data.Goals as goal

pub returns-in_err-path : goal.returns-in_err-path
returns-in_err-path c =
    let h = c.args.heap.now in
    let p = err_from_is_err_and c.from_residual.result c.from_residual.ensures.1 in
    rw (p.1, p.2) (refused-there h _ _ (refuses-raised h _ _ (raises-first _ _ _ c.in_err-path.ensures)))

pub returns : goal.returns
returns c =
    let h = c.args.heap.now in
    let after = c.file_data.new.heap in
    let vs = values_of h c.args.args.now in
    let files = files_view c.args.files.now in
    let P : Bytes → Type 0 = λ path. IsCalled h after (file_data path (content_at path files)) c.file_data.result in
    called-then h after (text_argument 0 vs) (λ path. file_data path (content_at path files)) _ c.file_data.result c.in_ok-path.ensures (subst P c.deref.ensures.value c.file_data.ensures)
