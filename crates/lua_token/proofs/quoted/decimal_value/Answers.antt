use Rattle.std.proofs.Common.{◌≡◌, ℕ, true, get_or, arith}
use Rattle.std.specs.Char.{is_ascii_digit}
use Rattle.std.specs.Int.{IsInRange}
use Rattle.std.proofs.lemmas.Bool.Decides.{nat_tests}
use Rattle.std.proofs.lemmas.Int.Digits.{digits_value_more}
use Rattle.std.proofs.lemmas.Str.{digit_value_digit}
use Rattle.lua_token.proofs.quoted.decimal_value.Goals as goal

in_range : (c : ℕ) → is_ascii_digit c ≡ true → IsInRange 48 57 c
in_range c e = (grind (arith, nat_tests), grind (arith, nat_tests))

pub loop-digit-preserved : goal.loop-digit-preserved
loop-digit-preserved c =
    let digit = get_or c.args.digits.now c.loop-digit.digit-index 0 in
    let value = digit_value_digit digit (in_range digit (c.requires.decimal c.loop-digit.digit-index 0 c.loop-digit-test.true)) in
    let more = digits_value_more 10 c.args.digits.now c.loop-digit.digit-index c.loop-digit-test.true in
    let low = (in_range digit (c.requires.decimal c.loop-digit.digit-index 0 c.loop-digit-test.true)).1 in
    record {
      value = omega (arith, more, value, c.loop-digit.invariant.value, c.from.ensures);
      none = λ n. omega (arith, n);
      one = λ n. omega (arith, n, low, c.from.ensures, c.loop-digit.invariant.none);
      two = λ n. omega (arith, n, low, c.from.ensures, c.loop-digit.invariant.one);
      three = λ n. omega (arith, n, low, c.from.ensures, c.loop-digit.invariant.two);
    }
