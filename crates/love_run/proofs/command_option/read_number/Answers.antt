use Rattle.std.proofs.Common.{sym, ◌∙◌, arith, length, ◌<◌, ◌≤◌, lt-ltb}
use Rattle.std.specs.Str.Parse.{digits_value}
use Rattle.love_run.proofs.Digits.{number_read, read_digits, read_never_fails}
use Rattle.love_run.proofs.command_option.read_number.Goals as goal

pub returns-in-Ok : goal.returns-in-Ok
returns-in-Ok c =
    let text = c.args.text.now in
    let some : 0 < length text = grind (arith, c.is_empty.ensures, c.if-is_empty.false) in
    let few = c.if-text-gt-MOST_DIGITS.false in
    let all = sym c.all_digits.ensures ∙ c.if-not-all_digits.false in
    let is = read_digits c.numeral.result c.in-Ok.number text c.numeral.ensures.digits c.in-Ok.is some few all in
    let got = c.get.ensures.value ∙ is in
    let small : digits_value 10 text ≤ 99999999999999 = rw got at c.get.ensures.in_range in
    rw (c.unsigned_abs.ensures.value, got, lt-ltb (digits_value 10 text) 9223372036854775808 (omega (arith, small))) (number_read text some few all)

pub returns-in-Err : goal.returns-in-Err
returns-in-Err c =
    let text = c.args.text.now in
    let some : 0 < length text = grind (arith, c.is_empty.ensures, c.if-is_empty.false) in
    absurd (read_never_fails c.numeral.result c.in-Err.field-0 text c.numeral.ensures.digits c.in-Err.is some c.if-text-gt-MOST_DIGITS.false (sym c.all_digits.ensures ∙ c.if-not-all_digits.false))
