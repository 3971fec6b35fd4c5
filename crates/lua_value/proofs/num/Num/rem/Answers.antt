use Rattle.std.proofs.Common.{◌≡◌, ◌≢◌, ℤ, pos, ◌∙◌, w64, to_z, of_z, SFits, Ok, rules, ap, sym}
use Rattle.std.proofs.lemmas.Int.{to_z-of_z}
use Rattle.lua_value.specs.Arithmetic.{floor_remainder}
use Rattle.lua_value.proofs.Ranges.{in_range-num, rem-nonzero}
use Rattle.lua_value.proofs.num.Num.rem.Goals as goal

-- the value of a word that was read from a `Num`
word_is : (z n : ℤ) → SFits w64 z → z ≡ n → to_z w64 (of_z w64 z) ≡ n
word_is z n fits e = to_z-of_z w64 z fits ∙ e

pub returns : goal.returns
returns c =
    let dividend : to_z w64 (of_z w64 c.get-dividend.result) ≡ c.args.self = word_is _ _ (search rules) c.get-dividend.ensures.value in
    let divisor : to_z w64 (of_z w64 c.get-divisor.result) ≡ c.args.other = word_is _ _ (search rules) c.get-divisor.ensures.value in
    let nonzero : c.args.other ≢ pos 0 = λ e. c.if-divisor-eq0.false (ap (of_z w64) (c.get-divisor.ensures.value ∙ e)) in
    let rest : to_z w64 (of_z w64 c.floor_division-rest.result.1) ≡ floor_remainder c.args.self c.args.other =
    word_is _ _ (search rules) (rw (dividend, divisor) at c.floor_division-rest.ensures.rest) in
    let given = rw c.unwrap.ensures at c.new.ensures in
    ap (λ (r : ℤ). Ok r) given.1 ∙ sym (in_range-num _ given.0) ∙ rem-nonzero c.args.self c.args.other _ nonzero rest
