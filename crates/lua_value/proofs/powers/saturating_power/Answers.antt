use Rattle.std.proofs.Common.{◌∙◌, arith}
use Rattle.lua_value.proofs.PowerLemmas.{square_odd, square_even, power_done}
use Rattle.lua_value.proofs.powers.saturating_power.Goals as goal
use Rattle.lua_value.proofs.powers.saturating_power.Goals.{then-left-eq1, else-left-eq1}

pub loop-left-preserved : goal.loop-left-preserved
loop-left-preserved c =
    elim c.if-left-eq1.branch [
      | then-left-eq1 w ↦ (
        square_odd c.loop-left.value c.loop-left.factor c.loop-left.left _ _ _ (omega arith) w.if-left-eq1.true
            (w.value-is ∙ w.saturating_mul-value.ensures) c.saturating_mul-factor.ensures
            ∙ c.loop-left.invariant.0,
        omega arith,
      )
      | else-left-eq1 w ↦ (
        square_even c.loop-left.value c.loop-left.factor c.loop-left.left _ _ _ (omega arith) w.if-left-eq1.false w.value-is c.saturating_mul-factor.ensures
            ∙ c.loop-left.invariant.0,
        omega arith,
      )
    ]

pub returns : goal.returns
returns c = power_done c.loop-left.value c.loop-left.factor c.loop-left.left _ c.loop-left.invariant.1 (omega arith) c.loop-left.invariant.0
