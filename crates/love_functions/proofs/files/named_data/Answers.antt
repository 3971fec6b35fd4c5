use Rattle.std.proofs.Common.{subst}
use Rattle.std.proofs.lemmas.Result.{err_from_is_err_and}
use Rattle.lua_tree.specs.Tree.{Bytes}
use Rattle.lua_meaning.specs.Arguments.{text_argument}
use Rattle.lua_lib.specs.Causes.{values_of}
use Rattle.lua_lib.proofs.Binding.{raises-first, raises-then}
use Rattle.lua_lib.proofs.Running.{refuses-raised}
use Rattle.love_functions.specs.Asking.{named_data, made_data}
use Rattle.love_functions.specs.View.{IsCalled}
use Rattle.love_functions.proofs.Steps.{refused-there, called-then}
use Rattle.love_functions.proofs.files.named_data.Goals as goal

pub returns-in_err-bytes : goal.returns-in_err-bytes
returns-in_err-bytes c =
    let h = c.args.heap.now in
    let p = err_from_is_err_and c.from_residual.result c.from_residual.ensures.1 in
    rw (p.1, p.2) (refused-there h _ _ (refuses-raised h _ _ (raises-first _ _ _ c.in_err-bytes.ensures)))

pub returns-in_err-name : goal.returns-in_err-name
returns-in_err-name c =
    let h = c.args.heap.now in
    let p = err_from_is_err_and c.from_residual-in_err-name.result c.from_residual-in_err-name.ensures.1 in
    rw (p.1, p.2) (refused-there h _ _ (refuses-raised h _ _ (raises-then _ _ _ _ c.in_ok-bytes.ensures (raises-first _ _ _ c.in_err-name.ensures))))

pub returns : goal.returns
returns c =
    let h = c.args.heap.now in
    let after = c.made_data.new.heap in
    let vs = values_of h c.args.args.now in
    let P : Bytes → Type 0 = λ bytes. IsCalled h after (made_data bytes c.deref-2.result.now) c.made_data.result in
    let Q : Bytes → Type 0 = λ name. IsCalled h after (made_data c.in_ok-bytes.bytes.items name) c.made_data.result in
    called-then h after (text_argument 0 vs) (named_data vs) _ c.made_data.result c.in_ok-bytes.ensures
    (called-then h after (text_argument 1 vs) (λ name. made_data c.in_ok-bytes.bytes.items name) _ c.made_data.result c.in_ok-name.ensures (subst Q c.deref-2.ensures.value (subst P c.deref.ensures.value c.made_data.ensures)))
