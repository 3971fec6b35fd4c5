use Rattle.std.proofs.Common.{◌≡◌, ◌<◌, ◌*◌, ◌-◌, ◌^◌, min}
use Rattle.lua_value.proofs.powers.saturating_power.Given as goal

abbrev pub invariant-loop-left : goal.invariant-loop-left
invariant-loop-left l =
    (min (l.value * l.factor ^ l.left) (2 ^ 64 - 1) ≡ min (l.fn.base ^ l.fn.exponent) (2 ^ 64 - 1)) × (l.value < 2 ^ 64)

abbrev pub decreases-loop-left : goal.decreases-loop-left
decreases-loop-left l = l.left
