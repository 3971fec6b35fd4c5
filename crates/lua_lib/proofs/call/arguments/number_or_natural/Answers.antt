use Rattle.std.proofs.Common.{ℤ, pos, sym, subst}
use Rattle.lua_meaning.specs.Arguments.{number_or}
use Rattle.lua_lib.specs.Causes.{values_of, Comes}
use Rattle.lua_lib.proofs.Scales.{kept-only}
use Rattle.lua_lib.proofs.call.arguments.number_or_natural.Goals as goal

pub returns-in-Some : goal.returns-in-Some
returns-in-Some c =
    let h = c.args.heap.now in
    let is = kept-only (pos c.args.default) c.in-Some.default (sym c.in-Some.ensures) in
    let P : ℤ → Type 0 = λ d. Comes (λ (z : ℤ). z) h (number_or c.args.n (values_of h c.args.args.now) d) c.number_or.result in
    subst P (sym is.0) c.number_or.ensures
