use Rattle.std.proofs.Common.{arith, ◌≡◌, ◌<◌, ◌∙◌, ap, sym, get_or, take, min}
use Rattle.std.specs.Char.{digit_value}
use Rattle.std.specs.Str.Parse.{digits_value_after}
use Rattle.std.proofs.lemmas.Int.Digits.{digits_more}
use Rattle.lua_value.proofs.Saturation.{min-digit_of}
use Rattle.lua_value.proofs.DigitLemmas.{AllDigits-at, digits_value_after-more}
use Rattle.lua_value.proofs.digits.digits_onto.Goals as goal

pub returns-in_default : goal.returns-in_default
returns-in_default c =
    λ all. c.in_default.ensures.value (rw c.from.ensures (AllDigits-at c.args.base c.args.digits.now c.loop-byte.byte-index all (omega arith)))

pub loop-byte-preserved : goal.loop-byte-preserved
loop-byte-preserved c =
    let base = c.args.base in
    let digits = c.args.digits.now in
    let index = c.loop-byte.byte-index in
    let digit : digit_value (get_or digits index 0) < base = rw c.from.ensures at c.in-Some.ensures.value.0 in
    let read : c.in-Some.digit ≡ digit_value (get_or digits index 0) = rw c.from.ensures at c.in-Some.ensures.value.1 in (
      digits_more _ _ _ c.loop-byte-test.true c.loop-byte.invariant.0 digit,
      min-digit_of (digits_value_after base c.args.value (take index digits)) base _ _ _ _ _ _ _ (omega arith)
          c.loop-byte.invariant.1 c.from-in-loop-byte.ensures (c.from-in-loop-byte-2.ensures ∙ read)
          c.saturating_mul.ensures c.saturating_add-number.ensures
          ∙ ap (λ n. min n 18446744073709551615) (sym (digits_value_after-more base c.args.value digits index c.loop-byte-test.true)),
    )
