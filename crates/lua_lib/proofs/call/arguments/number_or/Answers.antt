use Rattle.std.proofs.Common.{◌≢◌, sym, ap, ◌∙◌}
use Rattle.lua_meaning.specs.Value as meant
use Rattle.lua_meaning.specs.Arguments.{argument, number_of, number_or, number_argument}
use Rattle.lua_lib.specs.Causes.{values_of}
use Rattle.lua_lib.proofs.Reading.{number_or-value, view-some, comes-same}
use Rattle.lua_lib.proofs.call.arguments.number_or.Goals as goal

pub returns-in-Nil : goal.returns-in-Nil
returns-in-Nil c = λ s. ap (λ v. number_of c.args.n v c.args.default s) (sym (c.in-Nil.ensures.value c.args.heap.now.texts))

pub returns-in_default : goal.returns-in_default
returns-in_default c =
    let texts = c.args.heap.now.texts in
    let values = values_of c.args.heap.now c.args.args.now in
    let some : argument c.args.n values ≢ meant.nil = λ e. view-some texts c.argument.result c.in_default.not-Nil (c.argument.ensures.value texts ∙ e) in
    comes-same _ c.args.heap.now (number_or c.args.n values c.args.default) (number_argument c.args.n values) c.number_argument.result
    (λ s. number_or-value c.args.n values c.args.default s some) c.number_argument.ensures
