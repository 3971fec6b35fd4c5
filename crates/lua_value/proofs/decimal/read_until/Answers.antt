use Rattle.std.proofs.Common.{◌≡◌, ◌≢◌, ℕ, ◌-◌, ◌^◌, Option, Some, None, List, take, drop, min, MatchOption, arith, ap, ◌∙◌}
use Rattle.std.specs.Str.Parse.{AllDigits, digits_value, digits_value_after}
use Rattle.std.proofs.lemmas.List.{take_min, drop_min}
use Rattle.lua_value.proofs.DigitLemmas.{AllDigits-take, AllDigits-drop}
use Rattle.lua_value.proofs.decimal.read_until.Goals as goal

-- the answer for the digits that are kept, where those that are cut off write 0
kept_of : (r : Option ℕ) (digits front back : List ℕ) (value count : ℕ) → AllDigits 10 digits →
    front ≡ take count digits → back ≡ drop count digits → digits_value 10 back ≡ 0 →
    MatchOption r (¬ AllDigits 10 front) (λ n. AllDigits 10 front × (n ≡ min (digits_value_after 10 value front) (2 ^ 64 - 1))) →
    MatchOption r (digits_value 10 (drop count digits) ≢ 0)
    (λ n. (digits_value 10 (drop count digits) ≡ 0) × (n ≡ min (digits_value_after 10 value (take count digits)) (2 ^ 64 - 1)))
kept_of None digits front back value count all p q zeros answer = absurd (answer (rw p (AllDigits-take 10 count digits all)))
kept_of (Some n) digits front back value count all p q zeros answer = (rw q at zeros, rw p at answer.1)

pub returns-in_err-digits_onto : goal.returns-in_err-digits_onto
returns-in_err-digits_onto c =
    rw c.from_residual.ensures (λ _. c.in_err-digits_onto.ensures (rw c.split_at.ensures.back (AllDigits-drop 10 _ c.args.digits.now c.requires)))

pub returns : goal.returns
returns c =
    let digits = c.args.digits.now in
    let count = c.args.count in
    kept_of _ digits _ _ c.args.value count c.requires
    (c.split_at.ensures.front ∙ ap (λ n. take n digits) c.min.ensures ∙ take_min count digits)
    (c.split_at.ensures.back ∙ ap (λ n. drop n digits) c.min.ensures ∙ drop_min count digits)
    (omega (arith, c.in_ok-digits_onto.ensures.1))
    c.digits_onto-2.ensures
