use Rattle.std.specs.Char.{is_ascii_digit}
use Rattle.std.proofs.lemmas.List.Sums.{prefix_len-le-length}
use Rattle.lua_value.proofs.DigitLemmas.{AllDigits-counted, BeginsWithNoDigit-counted}
use Rattle.lua_value.proofs.digits.split_digits.Goals as goal

pub split_at-requires : goal.split_at-requires
split_at-requires c = rw c.leading_digits.ensures (prefix_len-le-length is_ascii_digit c.args.text.now)

pub returns-clause-digits : goal.returns-clause-digits
returns-clause-digits c = rw c.split_at.ensures.front (AllDigits-counted _ c.args.text.now c.leading_digits.ensures)

pub returns-clause-rest : goal.returns-clause-rest
returns-clause-rest c = rw c.split_at.ensures.back (BeginsWithNoDigit-counted _ c.args.text.now c.leading_digits.ensures)
