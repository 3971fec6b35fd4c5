use Rattle.std.proofs.Common.{◌≡◌, List, ℕ, Option, None, Some, ap, subst, ◌∙◌}
use Rattle.std.proofs.lemmas.Result.{err_from_is_err_and}
use Rattle.lua_tree.specs.Tree.{Bytes}
use Rattle.lua_meaning.specs.Arguments.{text_argument}
use Rattle.lua_lib.specs.Causes.{values_of}
use Rattle.lua_lib.proofs.Binding.{raises-first}
use Rattle.lua_lib.proofs.Running.{refuses-raised}
use Rattle.love_functions.specs.Asking.{content_at, nothing_read, read_file}
use Rattle.love_functions.specs.View.{IsCalled, files_view}
use Rattle.love_functions.proofs.Steps.{refused-there, called-then}
use Rattle.love_functions.proofs.files.read.Goals as goal

pub returns-in_err-path : goal.returns-in_err-path
returns-in_err-path c =
    let h = c.args.heap.now in
    let p = err_from_is_err_and c.from_residual.result c.from_residual.ensures.1 in
    rw (p.1, p.2) (refused-there h _ _ (refuses-raised h _ _ (raises-first _ _ _ c.in_err-path.ensures)))

pub returns-in-Some : goal.returns-in-Some
returns-in-Some c =
    let h = c.args.heap.now in
    let after = c.read_content.new.heap in
    let files = files_view c.args.files.now in
    let P : Option (List ℕ) → Type 0 = λ o. IsCalled h after (read_file c.deref.result.now o) c.read_content.result in
    let Q : Bytes → Type 0 = λ path. IsCalled h after (read_file path (content_at path files)) c.read_content.result in
    let read = subst P (ap (λ (bytes : List ℕ). Some bytes) c.bytes.ensures ∙ c.in-Some.ensures) c.read_content.ensures in
    called-then h after (text_argument 0 (values_of h c.args.args.now)) (λ path. read_file path (content_at path files)) _ c.read_content.result c.in_ok-path.ensures (subst Q c.deref.ensures.value read)

pub returns : goal.returns
returns c =
    let h = c.args.heap.now in
    let after = c.nothing_read.new.heap in
    let files = files_view c.args.files.now in
    let path = c.in_ok-path.path.items in
    let none : None ≡ content_at path files = subst (λ (p : Bytes). None ≡ content_at p files) c.deref.ensures.value c.in-None.ensures in
    let P : Option (List ℕ) → Type 0 = λ o. IsCalled h after (read_file path o) c.nothing_read.result in
    let Q : Bytes → Type 0 = λ p. IsCalled h after (nothing_read p) c.nothing_read.result in
    called-then h after (text_argument 0 (values_of h c.args.args.now)) (λ p. read_file p (content_at p files)) _ c.nothing_read.result c.in_ok-path.ensures (subst P none (subst Q c.deref-in-None.ensures.value c.nothing_read.ensures))
