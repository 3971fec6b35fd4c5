use Rattle.std.proofs.Common.{◌≡◌, ℕ, ◌+◌, ◌<◌, List, take, get_or, arith, rules, ap, ◌∙◌}
use Rattle.std.proofs.lemmas.List.{take_all}
use Rattle.std.proofs.lemmas.Int.Digits.{digits_more}
use Rattle.std.specs.Char.{digit_value}
use Rattle.std.specs.Str.Parse.{digits_value}
use Rattle.lua_value.proofs.DigitLemmas.{AllDigits-at}
use Rattle.lua_lib.proofs.BaseDigits.{none-other, none-over, digits-next, digits-kept}
use Rattle.lua_lib.proofs.basic.digits_number.Goals as goal

pub returns-in_default : goal.returns-in_default
returns-in_default c =
    none-other c.args.base c.args.digits.now
    (λ all. c.in_default.ensures.value (rw c.from.ensures (AllDigits-at c.args.base c.args.digits.now c.loop-byte.byte-index all (omega arith))))

pub returns-then-number-gt-GREATEST : goal.returns-then-number-gt-GREATEST
returns-then-number-gt-GREATEST c =
    let base = c.args.base in
    let digits = c.args.digits.now in
    let index = c.loop-byte.byte-index in
    let read : c.in-Some.digit ≡ digit_value (get_or digits index 0) = rw c.from.ensures at c.in-Some.ensures.value.1 in
    none-over base digits (index + 1) _ c.requires.least
    (digits-next base digits index c.loop-byte.number c.from-in-loop-byte.result c.from-in-loop-byte-2.result c.in-Some.digit
    c.loop-byte-test.true c.loop-byte.invariant.number c.from-in-loop-byte.ensures c.from-in-loop-byte-2.ensures read)
    c.if-number-gt-GREATEST.true

pub loop-byte-preserved : goal.loop-byte-preserved
loop-byte-preserved c =
    let base = c.args.base in
    let digits = c.args.digits.now in
    let index = c.loop-byte.byte-index in
    let digit : digit_value (get_or digits index 0) < base = rw c.from.ensures at c.in-Some.ensures.value.0 in
    let read : c.in-Some.digit ≡ digit_value (get_or digits index 0) = rw c.from.ensures at c.in-Some.ensures.value.1 in
    record {
      all = digits_more _ _ _ c.loop-byte-test.true c.loop-byte.invariant.all digit;
      number =
          digits-next base digits index c.loop-byte.number c.from-in-loop-byte.result c.from-in-loop-byte-2.result c.in-Some.digit
          c.loop-byte-test.true c.loop-byte.invariant.number c.from-in-loop-byte.ensures c.from-in-loop-byte-2.ensures read;
      small = omega arith;
    }

pub returns : goal.returns
returns c =
    let base = c.args.base in
    let digits = c.args.digits.now in
    let whole : take c.loop-byte.byte-index digits ≡ digits = take_all c.loop-byte.byte-index digits (omega arith) in
    let all = rw whole at c.loop-byte.invariant.all in
    let number : c.loop-byte.number ≡ digits_value base digits = c.loop-byte.invariant.number ∙ ap (λ (ds : List ℕ). digits_value base ds) whole in
    digits-kept base digits c.natural.result c.loop-byte.number (search rules) all number c.natural.ensures
