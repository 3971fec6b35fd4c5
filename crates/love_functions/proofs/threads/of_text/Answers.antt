use Rattle.std.proofs.Common.{sym, subst}
use Rattle.lua_meaning.specs.Message.{Source, Ask}
use Rattle.lua_meaning.specs.Arguments.{Lib}
use Rattle.lua_meaning.specs.Love.{is_code}
use Rattle.lua_code.specs.State.{gives_values}
use Rattle.love_functions.specs.Asking.{Called, asking, content_at, new_thread_of_file}
use Rattle.love_functions.specs.View.{Comes, files_view}
use Rattle.love_functions.proofs.Steps.{else_second}
use Rattle.love_functions.proofs.threads.of_text.Goals as goal

pub returns-then-not-is_code-clause-comes : goal.returns-then-not-is_code-clause-comes
returns-then-not-is_code-clause-comes c = λ h.
    let text = c.args.text.now in
    let code : Lib Called = asking (Ask.new_thread (Source.code text)) gives_values in
    let file : Lib Called = new_thread_of_file text (content_at text (files_view c.args.files.now)) in
    let P : Lib Called → Type 0 = λ part. Comes h h part c.of_file.result in
    subst P (sym (else_second (is_code text) code file (sym c.if-not-is_code.ensures))) (c.of_file.ensures.comes h)
