use Rattle.std.proofs.Common.{ℕ, ℤ, pos, subst}
use Rattle.lua_meaning.specs.Arguments.{number_or}
use Rattle.lua_lib.specs.Causes.{values_of, Comes}
use Rattle.lua_lib.proofs.call.bytes.last_place.Goals as goal

pub returns : goal.returns
returns c =
    let h = c.args.heap.now in
    let P : ℕ → Type 0 = λ p. Comes (λ (z : ℤ). z) h (number_or c.args.n (values_of h c.args.args.now) (pos p)) c.number_or_natural.result in
    subst P c.place_in.ensures c.number_or_natural.ensures
