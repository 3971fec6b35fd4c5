use Rattle.std.proofs.Common.{Some, ◌∙◌, sym}
use Rattle.lua_value.specs.Sign.Sign.{minus}
use Rattle.lua_value.proofs.ExponentLemmas.{exponent_of, plus_or_none}
use Rattle.lua_value.proofs.Fronts.{behind_byte}
use Rattle.lua_value.proofs.decimal.shift_point.Goals as goal

pub returns-in_ok-exponent_size-in-Some-strip_prefix : goal.returns-in_ok-exponent_size-in-Some-strip_prefix
returns-in_ok-exponent_size-in-Some-strip_prefix c =
    let letter = c.in-Some.ensures in
    exponent_of minus _ _ _ letter.0 c.args.whole _ _ c.ranges.whole.fits letter.1 letter.2
    (behind_byte 45 c.in-Some.signed.now (Some c.in-Some-strip_prefix.digits) c.in-Some-strip_prefix.ensures.cases)
    c.in_ok-exponent_size-in-Some-strip_prefix.ensures c.saturating_sub.ensures

pub returns-in_ok-exponent_size-in-None : goal.returns-in_ok-exponent_size-in-None
returns-in_ok-exponent_size-in-None c =
    let letter = c.in-Some.ensures in
    let sign = plus_or_none c.in-Some.signed _ _ c.unwrap_or-digits.ensures
    (behind_byte 43 c.in-Some.signed.now _ c.strip_prefix-in-None.ensures.cases) in
    exponent_of sign.0 _ _ _ letter.0 c.args.whole _ _ c.ranges.whole.fits letter.1 letter.2
    sign.1 c.in_ok-exponent_size-in-None.ensures (c.saturating_add.ensures ∙ sym (sign.2 _ _))
