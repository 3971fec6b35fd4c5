use Rattle.std.proofs.Common.{◌≢◌, sym, ap, ◌∙◌}
use Rattle.std.proofs.lemmas.Result.{err_from_is_err_and}
use Rattle.lua_meaning.specs.Value as meant
use Rattle.lua_meaning.specs.Arguments.{argument, number_argument, ◌>>=◌}
use Rattle.lua_meaning.specs.LoveArguments.{limit_of, limit_argument, seconds}
use Rattle.lua_lib.specs.Causes.{values_of}
use Rattle.lua_lib.proofs.Binding.{raises-first, raises-same}
use Rattle.lua_lib.proofs.Reading.{view-some, comes-same}
use Rattle.love_functions.proofs.Steps.{comes-then, limit-some}
use Rattle.love_functions.proofs.arguments.limit_argument.Goals as goal

pub returns-in-Nil : goal.returns-in-Nil
returns-in-Nil c = λ s. ap (λ v. limit_of c.args.n v (values_of c.args.heap.now c.args.args.now) s) (sym (c.in-Nil.ensures.value c.args.heap.now.texts))

pub returns-in_err-number-in_default : goal.returns-in_err-number-in_default
returns-in_err-number-in_default c =
    let h = c.args.heap.now in
    let vs = values_of h c.args.args.now in
    let some : argument c.args.n vs ≢ meant.nil = λ e. view-some h.texts c.argument.result c.in_default.not-Nil (c.argument.ensures.value h.texts ∙ e) in
    let p = err_from_is_err_and c.from_residual.result c.from_residual.ensures.1 in
    rw (p.1, p.2) (raises-same (limit_argument c.args.n vs) (number_argument c.args.n vs >>= seconds c.args.n) _ (λ s. limit-some c.args.n (argument c.args.n vs) vs s some)
    (raises-first _ _ _ c.in_err-number-in_default.ensures))

pub returns-in_ok-number-in_default : goal.returns-in_ok-number-in_default
returns-in_ok-number-in_default c =
    let h = c.args.heap.now in
    let vs = values_of h c.args.args.now in
    let some : argument c.args.n vs ≢ meant.nil = λ e. view-some h.texts c.argument.result c.in_default.not-Nil (c.argument.ensures.value h.texts ∙ e) in
    comes-same _ h (limit_argument c.args.n vs) (number_argument c.args.n vs >>= seconds c.args.n) c.seconds.result (λ s. limit-some c.args.n (argument c.args.n vs) vs s some)
    (comes-then _ h (number_argument c.args.n vs) (seconds c.args.n) _ c.seconds.result c.in_ok-number-in_default.ensures (c.seconds.ensures h))
