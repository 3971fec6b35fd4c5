use Rattle.std.proofs.Common.{arith}
use Rattle.lua_value.proofs.DigitLemmas.{zeros_behind, zeros_first, zeros_second, read_before}
use Rattle.lua_value.proofs.Placing.{IsScaled-zeros, placed_of}
use Rattle.lua_value.proofs.decimal.value_at_point.Goals as goal

pub returns-in_err-number : goal.returns-in_err-number
returns-in_err-number c = λ e at. rw c.from_residual.ensures (λ z value _.
    c.in_err-number.ensures (zeros_first c.args.point c.args.whole.now c.args.fraction.now
    (IsScaled-zeros c.args.whole.now c.args.fraction.now c.requires.whole c.requires.fraction (omega arith) e c.args.point at z value)))

pub returns-in_err-number-2 : goal.returns-in_err-number-2
returns-in_err-number-2 c = λ e at. rw c.from_residual-in_err-number-2.ensures (λ z value _.
    c.in_err-number-2.ensures (rw c.saturating_sub-behind.ensures (zeros_second c.args.point c.args.whole.now c.args.fraction.now
    (IsScaled-zeros c.args.whole.now c.args.fraction.now c.requires.whole c.requires.fraction (omega arith) e c.args.point at z value))))

pub returns : goal.returns
returns c = λ e at.
    let point = c.args.point in
    let whole = c.args.whole.now in
    let fraction = c.args.fraction.now in
    placed_of whole fraction c.requires.whole c.requires.fraction (omega arith) e point at _
    (read_before point _ whole fraction _ _ c.in_ok-number.ensures.1 (rw c.saturating_sub-behind.ensures at c.in_ok-number-2.ensures.1))
    (zeros_behind point whole fraction c.in_ok-number.ensures.0 (rw c.saturating_sub-behind.ensures at c.in_ok-number-2.ensures.0))
    _ (rw (c.saturating_sub.ensures, c.saturating_sub-behind.ensures) at c.append_zeros.ensures)
