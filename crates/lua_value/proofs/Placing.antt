-- What the code finds at the place of the moved point, which it knows as far as the greatest word.
use Rattle.std.proofs.Common.{◌≡◌, ℕ, ◌+◌, ◌*◌, ◌-◌, ◌^◌, ◌≤◌, ◌⊎◌, inl, inr, ℤ, pos, negsuc, Option, Some, None, MatchOption, List, ◌++◌, length, take, drop, min, arith, ap, refl, sym, ◌∙◌, take_all, length-append, eq-zero-or-pos, le-mul_of_pos_right}
use Rattle.std.proofs.Math.Nat.{one-le-pow, pow-le-pow_right, min-eq_left, min-eq_right}
use Rattle.std.proofs.lemmas.Nat.{mul-le}
use Rattle.std.proofs.lemmas.List.{drop_all}
use Rattle.std.proofs.lemmas.Bool.{cases_lt}
use Rattle.std.specs.Str.Parse.{AllDigits, digits_value}
use Rattle.lua_value.specs.Num.{IsNum}
use Rattle.lua_value.specs.Numeral.{IsScaled, raising, lowering}
use Rattle.lua_value.specs.Place.{moved_point}
use Rattle.lua_value.proofs.DigitLemmas.{AllDigits-append}
use Rattle.lua_value.proofs.Scaling.{IsPlace, natural-of_product, place, scaled, scaled-only, shifted-gt}

-- an exponent raises by nothing or lowers by nothing
one_way : (e : ℤ) → (lowering e ≡ 0) ⊎ (raising e ≡ 0)
one_way (pos k) = inl refl
one_way (negsuc k) = inr refl

take-clipped : (ds : List ℕ) (p m : ℕ) → length ds ≤ m → take (min p m) ds ≡ take p ds
take-clipped ds p m h = elim (cases_lt m p) [
  | inl far ↦ rw (min-eq_right {n = m} {m = p} (omega arith)) (take_all m ds h ∙ sym (take_all p ds (omega arith)))
  | inr near ↦ rw (min-eq_left {n = p} {m = m} near) refl
]

drop-clipped : (ds : List ℕ) (p m : ℕ) → length ds ≤ m → drop (min p m) ds ≡ drop p ds
drop-clipped ds p m h = elim (cases_lt m p) [
  | inl far ↦ rw (min-eq_right {n = m} {m = p} (omega arith)) (drop_all m ds h ∙ sym (drop_all p ds (omega arith)))
  | inr near ↦ rw (min-eq_left {n = p} {m = m} near) refl
]

module _ (whole fraction : List ℕ) (whole_digits : AllDigits 10 whole) (fraction_digits : AllDigits 10 fraction)
    (short : length whole + length fraction + 14 ≤ 2 ^ 64 - 1) (e : ℤ) (point : ℕ) (at : point ≡ moved_point (length whole) e) where
  -- the place as it would be with no greatest word
  exact : ℕ
  exact = length whole + raising e - lowering e

  places : IsPlace (whole ++ fraction) (length whole) (length fraction) (lowering e) (raising e) exact
  unfolding exact
  places = place (whole ++ fraction) (length whole) (length fraction) (lowering e) (raising e) _
      (AllDigits-append 10 whole fraction whole_digits fraction_digits) (length-append whole fraction) (one_way e) refl

  before : digits_value 10 (take point (whole ++ fraction)) ≡ digits_value 10 (take exact (whole ++ fraction))
  unfolding exact
  before = rw at (ap (digits_value 10) (take-clipped (whole ++ fraction) _ _ (omega (arith, length-append whole fraction))))

  behind : digits_value 10 (drop point (whole ++ fraction)) ≡ digits_value 10 (drop exact (whole ++ fraction))
  unfolding exact
  behind = rw at (ap (digits_value 10) (drop-clipped (whole ++ fraction) _ _ (omega (arith, length-append whole fraction))))

  -- a value is natural, and known from the digits
  known : (z : ℤ) → IsScaled whole fraction e z →
      (n : ℕ) × (z ≡ pos n) × (digits_value 10 (drop point (whole ++ fraction)) ≡ 0)
      × (n ≡ digits_value 10 (take point (whole ++ fraction)) * 10 ^ (exact - (length whole + length fraction)))
  known z value =
      let natural = natural-of_product z _ _ (one-le-pow (length fraction + lowering e) 10 (omega arith)) value in
      let only = scaled-only _ _ _ _ _ _ natural.0 places natural.2 in
      (natural.0, natural.1, behind ∙ only.0, only.1 ∙ rw before refl)

  pub IsScaled-zeros : (z : ℤ) → IsScaled whole fraction e z → digits_value 10 (drop point (whole ++ fraction)) ≡ 0
  IsScaled-zeros z value = (known z value).2

  module _ (number : ℕ) (read : number ≡ min (digits_value 10 (take point (whole ++ fraction))) (2 ^ 64 - 1))
      (zeros : digits_value 10 (drop point (whole ++ fraction)) ≡ 0) where
    -- the number with the zeros that the code puts behind it, where that is a `Num`
    same : number * 10 ^ (point - length whole - length fraction) ≤ 99999999999999 →
        number * 10 ^ (point - length whole - length fraction)
        ≡ digits_value 10 (take point (whole ++ fraction)) * 10 ^ (exact - (length whole + length fraction))
    unfolding exact
    same small =
        let before_it = digits_value 10 (take point (whole ++ fraction)) in
        let zeros_there = point - length whole - length fraction in
        elim (cases_lt (2 ^ 64 - 1) before_it) [
          | inl large ↦
              let most : number ≡ 2 ^ 64 - 1 = omega arith in
              absurd (omega (arith, le-mul_of_pos_right {m = 10 ^ zeros_there} number (one-le-pow zeros_there 10 (omega arith))))
          | inr whole_number ↦
              let all : number ≡ before_it = omega arith in
              elim (cases_lt (2 ^ 64 - 1) (length whole + raising e - lowering e)) [
                | inr near ↦
                    let as_far : zeros_there ≡ length whole + raising e - lowering e - (length whole + length fraction) = omega arith in
                    rw (as_far, all) refl
                | inl far ↦ elim (eq-zero-or-pos number) [
                  | inl none ↦ rw (none, ← all, none) (omega arith)
                  | inr some ↦ absurd (omega (arith, shifted-gt number zeros_there some (omega arith)))
                ]
              ]
        ]

    -- the number that the code finds is at most the exact one
    at_most : number * 10 ^ (point - length whole - length fraction)
        ≤ digits_value 10 (take point (whole ++ fraction)) * 10 ^ (exact - (length whole + length fraction))
    unfolding exact
    at_most = mul-le _ _ _ _ (omega arith) (pow-le-pow_right {n = 10} (omega arith) (omega arith))

    pub placed_of : (r : Option ℤ) →
        MatchOption r (¬ IsNum (pos (number * 10 ^ (point - length whole - length fraction))))
        (λ z. (z ≡ pos (number * 10 ^ (point - length whole - length fraction))) × IsNum z) →
        MatchOption r ((z : ℤ) → IsScaled whole fraction e z → ¬ IsNum z) (λ z. IsScaled whole fraction e z × IsNum z)
    placed_of None answer = λ z value num.
        let natural = known z value in
        let small : natural.0 ≤ 99999999999999 = rw natural.1 at num in
        answer (omega (arith, at_most, natural.3))
    placed_of (Some z) answer =
        let small : number * 10 ^ (point - length whole - length fraction) ≤ 99999999999999 = rw answer.0 at answer.1 in
        (rw (answer.0, same small, before) (ap pos (scaled _ _ _ _ _ _ places (sym behind ∙ zeros))), answer.1)
