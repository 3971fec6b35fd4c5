use Rattle.std.proofs.Common.{◌≢◌, [], ap, sym, ◌∙◌}
use Rattle.lua_meaning.specs.Value as meant
use Rattle.lua_meaning.specs.Arguments.{argument, text_of, text_or, text_argument}
use Rattle.lua_lib.specs.Causes.{values_of}
use Rattle.lua_lib.proofs.Reading.{text_or-value, view-some, comes-same}
use Rattle.lua_lib.proofs.call.arguments.text_or_empty.Goals as goal

pub returns-in-Nil : goal.returns-in-Nil
returns-in-Nil c = λ s. ap (λ v. text_of c.args.n v [] s) (sym (c.in-Nil.ensures.value c.args.heap.now.texts))

pub returns-in_default : goal.returns-in_default
returns-in_default c =
    let texts = c.args.heap.now.texts in
    let values = values_of c.args.heap.now c.args.args.now in
    let some : argument c.args.n values ≢ meant.nil = λ e. view-some texts c.argument.result c.in_default.not-Nil (c.argument.ensures.value texts ∙ e) in
    comes-same _ c.args.heap.now (text_or c.args.n values []) (text_argument c.args.n values) c.text_argument.result
    (λ s. text_or-value c.args.n values [] s some) c.text_argument.ensures
