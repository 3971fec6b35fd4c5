use Rattle.std.proofs.Common.{◌++◌, ◌<◌, ap, ◌∙◌, length, arith, length-append}
use Rattle.lua_value.specs.Numeral.{fraction_digits, exponent_value}
use Rattle.lua_value.proofs.Reading.{decimal_answer, no_numeral_without_digits, no_numeral_without_exponent}
use Rattle.lua_value.proofs.decimal.decimal.Goals as goal

pub returns-then-whole-fraction-eq0 : goal.returns-then-whole-fraction-eq0
returns-then-whole-fraction-eq0 c =
    let whole = c.split_digits.result.0.now in
    let behind = c.split_fraction.ensures in
    no_numeral_without_digits c.args.text.now whole behind.0 _ c.split_digits.ensures.digits behind.1 behind.2
    (c.split_digits.ensures.whole ∙ ap (λ l. whole ++ l) behind.4) c.requires
    (omega (arith, length-append whole (fraction_digits behind.0), ap length behind.3))

pub returns-in_default : goal.returns-in_default
returns-in_default c =
    let whole = c.split_digits.result.0.now in
    let behind = c.split_fraction.ensures in
    no_numeral_without_exponent c.args.text.now whole behind.0 _ c.split_digits.ensures.digits behind.1 behind.2
    (c.split_digits.ensures.whole ∙ ap (λ l. whole ++ l) behind.4) c.requires c.in_default.ensures

pub returns : goal.returns
returns c =
    let whole = c.split_digits.result.0.now in
    let behind = c.split_fraction.ensures in
    let exponent = c.in-Some.ensures in
    let some : 0 < length (whole ++ fraction_digits behind.0) =
    omega (arith, length-append whole (fraction_digits behind.0), ap length behind.3) in
    rw c.ok_or.ensures.value
    (decimal_answer c.args.text.now whole behind.0 _ c.split_digits.ensures.digits behind.1 behind.2
    (c.split_digits.ensures.whole ∙ ap (λ l. whole ++ l) behind.4) c.requires exponent.0 exponent.1 exponent.2 some _
    (rw behind.3 at (c.value_at_point.ensures (exponent_value exponent.0) exponent.3)))
