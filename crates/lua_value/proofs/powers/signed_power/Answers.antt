use Rattle.std.proofs.Common.{◌≡◌, ◌^◌, ◌<ℤ◌, pos, neg_ℤ, ◌∙◌, ap, w64, unsigned_abs, arith}
use Rattle.std.proofs.lemmas.Int.{to_z-of_z, ints}
use Rattle.lua_value.specs.Arithmetic.{power}
use Rattle.lua_value.proofs.PowerLemmas.{unsigned_abs-power, power-odd, power-even, power-above}
use Rattle.lua_value.proofs.powers.signed_power.Goals as goal
use Rattle.lua_value.proofs.powers.signed_power.Goals.{else-base-lt0-via-then-base-lt0+else-exponent-eq1, else-base-lt0-via-else-base-lt0}

pub returns-in_err-size : goal.returns-in_err-size
returns-in_err-size c =
    let size : c.unsigned_abs.result ≡ unsigned_abs c.args.base = rw (to_z-of_z w64 c.args.base c.ranges.base) at c.unsigned_abs.ensures.value in
    rw c.from_residual.ensures (λ num. c.in_err-size.ensures (rw size (rw unsigned_abs-power at num)))

pub returns-then-exponent-eq1 : goal.returns-then-exponent-eq1
returns-then-exponent-eq1 c =
    let size : c.unsigned_abs.result ≡ unsigned_abs c.args.base = rw (to_z-of_z w64 c.args.base c.ranges.base) at c.unsigned_abs.ensures.value in
    let negative : c.args.base <ℤ pos 0 = omega (arith, ints) in (
      rw unsigned_abs-power (rw size at c.in_ok-size.ensures.0),
      c.neg.ensures ∙ ap neg_ℤ (rw size at c.in_ok-size.ensures.1) ∙ power-odd c.args.base c.args.exponent negative c.if-exponent-eq1.true,
    )

pub returns-else-base-lt0 : goal.returns-else-base-lt0
returns-else-base-lt0 c =
    let size : c.unsigned_abs.result ≡ unsigned_abs c.args.base = rw (to_z-of_z w64 c.args.base c.ranges.base) at c.unsigned_abs.ensures.value in
    let same : pos (unsigned_abs c.args.base ^ c.args.exponent) ≡ power c.args.base c.args.exponent = elim c.else-base-lt0.branch [
      | else-base-lt0-via-then-base-lt0+else-exponent-eq1 w ↦ power-even c.args.base c.args.exponent w.if-exponent-eq1.false
      | else-base-lt0-via-else-base-lt0 w ↦ power-above c.args.base c.args.exponent (omega (arith, ints))
    ] in (
      rw unsigned_abs-power (rw size at c.in_ok-size.ensures.0),
      rw size at c.in_ok-size.ensures.1 ∙ same,
    )
