use Rattle.std.proofs.Common.{ℕ, ℤ, pos, subst}
use Rattle.lua_meaning.specs.Arguments.{number_or}
use Rattle.lua_lib.specs.Causes.{values_of, Comes}
use Rattle.lua_lib.proofs.call.arguments.number_or_border.Goals as goal

pub returns : goal.returns
returns c =
    let h = c.args.heap.now in
    let P : ℕ → Type 0 = λ b. Comes (λ (z : ℤ). z) h (number_or c.args.n (values_of h c.args.args.now) (pos b)) c.number_or_natural.result in
    subst P c.border.ensures c.number_or_natural.ensures
