-- The value of a decimal numeral from the digits before and behind the moved point.
use Rattle.std.proofs.Common.{◌≡◌, ℕ, zero, suc, ◌+◌, ◌*◌, ◌-◌, ◌^◌, ◌≤◌, ◌<◌, ◌⊎◌, inl, inr, ℤ, pos, negsuc, ◌*ℤ◌, neg_ℤ, List, length, take, drop, arith, ap, refl, sym, ◌∙◌, take_all, length-drop, take-append-drop, mul_assoc, mul-le-mul_right}
use Rattle.std.proofs.Math.Nat.{pow-zero, eq_of_mul-eq-mul_right, one-le-pow, pow-le-pow_right, le-add_left}
use Rattle.std.proofs.lemmas.Nat.{pow-add, same_from_place}
use Rattle.std.proofs.lemmas.List.{drop_all}
use Rattle.std.proofs.lemmas.Bool.{cases_lt}
use Rattle.std.proofs.lemmas.Int.Digits.{digits_value-lt}
use Rattle.std.specs.Str.Parse.{AllDigits, digits_value}
use Rattle.lua_value.proofs.DigitLemmas.{AllDigits-drop, digits_value-append}

-- ---- whole numbers

abbrev size : ℤ → ℕ
size (pos n) = n
size (negsuc n) = n

negative-pos : (j m : ℕ) → 0 < j → neg_ℤ (pos j) ≡ pos m → ⊥
negative-pos zero m p q = omega arith
negative-pos (suc j) m p q = cc

-- a whole number z with z * k = m is a natural number
pub natural-of_product : (z : ℤ) (k m : ℕ) → 0 < k → z *ℤ pos k ≡ pos m → (n : ℕ) × (z ≡ pos n) × (n * k ≡ m)
natural-of_product (pos n) k m h e = (n, refl, ap size e)
natural-of_product (negsuc n) k m h e = absurd (negative-pos (suc n * k) m (omega (arith, mul-le-mul_right k (le-add_left 1 n))) e)

-- ---- digits before and behind a place

-- Where w of the digits stand before the point, f behind it, and an exponent raises by 10 ^ r or lowers by 10 ^ l, the
-- moved point comes behind p digits. Either q digits stand behind it there, or it comes behind all of them
abbrev pub IsPlace : List ℕ → ℕ → ℕ → ℕ → ℕ → ℕ → Type 0
IsPlace ds w f l r p =
    ((q : ℕ) × (f + l ≡ q + r) × (p - (w + f) ≡ 0)
    × (digits_value 10 ds ≡ digits_value 10 (take p ds) * 10 ^ q + digits_value 10 (drop p ds))
    × (digits_value 10 (drop p ds) < 10 ^ q))
    ⊎ ((r ≡ (f + l) + (p - (w + f))) × (digits_value 10 (take p ds) ≡ digits_value 10 ds) × (digits_value 10 (drop p ds) ≡ 0))

-- the digits in two parts
split : (ds : List ℕ) (p : ℕ) → digits_value 10 ds ≡ digits_value 10 (take p ds) * 10 ^ length (drop p ds) + digits_value 10 (drop p ds)
split ds p = rw (← digits_value-append 10 (take p ds) (drop p ds), take-append-drop) refl

behind-lt : (ds : List ℕ) (p : ℕ) → AllDigits 10 ds → digits_value 10 (drop p ds) < 10 ^ length (drop p ds)
behind-lt ds p digits = digits_value-lt 10 (drop p ds) (AllDigits-drop 10 p ds digits)

pub place : (ds : List ℕ) (w f l r p : ℕ) → AllDigits 10 ds → length ds ≡ w + f → (l ≡ 0) ⊎ (r ≡ 0) → p ≡ w + r - l → IsPlace ds w f l r p
place ds w f l r p digits sizes one moved = elim (cases_lt (w + f) p) [
  | inl past ↦ inr (past_all past, ap (digits_value 10) (take_all p ds (omega arith)), ap (digits_value 10) (drop_all p ds (omega arith)))
  | inr within ↦ elim (cases_lt (w + r) l) [
    | inl before ↦
        let start : p ≡ 0 = omega arith in
        let none : r ≡ 0 = none_raised before in
        inl (f + l, omega arith, omega arith, rw start (omega arith), rw start (far before (behind-lt ds 0 digits)))
    | inr at ↦
        let length_is : length (drop p ds) ≡ f + l - r = omega (arith, length-drop p ds) in
        inl (f + l - r, omega arith, omega arith, rw length_is at (split ds p), rw length_is at (behind-lt ds p digits))
  ]
]
  where
    past_all : w + f < p → r ≡ (f + l) + (p - (w + f))
    past_all h = elim one [ inl e ↦ omega arith | inr e ↦ omega arith ]

    none_raised : w + r < l → r ≡ 0
    none_raised h = elim one [ inl e ↦ omega arith | inr e ↦ e ]

    far : w + r < l → digits_value 10 ds < 10 ^ length ds → digits_value 10 ds < 10 ^ (f + l)
    far b h = omega (arith, h, pow-le-pow_right {n = 10} (omega arith) {i = length ds} {j = f + l} (omega arith))

-- where nothing but zeros stands behind the moved point, the digits before it are the value, with a zero for each place
-- by which it comes behind all of them
pub scaled : (ds : List ℕ) (w f l r p : ℕ) → IsPlace ds w f l r p → digits_value 10 (drop p ds) ≡ 0 →
    digits_value 10 (take p ds) * 10 ^ (p - (w + f)) * 10 ^ (f + l) ≡ digits_value 10 ds * 10 ^ r
scaled ds w f l r p (inl (q, e, none, parts, below)) zeros =
    rw (none, e, pow-zero, pow-add 10 q r, parts, zeros) (omega arith)
scaled ds w f l r p (inr (e, all, nothing)) zeros = rw (e, pow-add 10 (f + l) (p - (w + f)), all) (omega arith)

-- and no other number is
pub scaled-only : (ds : List ℕ) (w f l r p n : ℕ) → IsPlace ds w f l r p → n * 10 ^ (f + l) ≡ digits_value 10 ds * 10 ^ r →
    (digits_value 10 (drop p ds) ≡ 0) × (n ≡ digits_value 10 (take p ds) * 10 ^ (p - (w + f)))
scaled-only ds w f l r p n (inl (q, e, none, parts, below)) value =
    let same : n * 10 ^ q * 10 ^ r ≡ (digits_value 10 (take p ds) * 10 ^ q + digits_value 10 (drop p ds)) * 10 ^ r =
    rw mul_assoc (rw (e, pow-add 10 q r, parts) at value) in
    let places = same_from_place n 0 (digits_value 10 (take p ds)) (digits_value 10 (drop p ds)) (10 ^ q) (one-le-pow q 10 (omega arith)) below
    (omega (arith, eq_of_mul-eq-mul_right (10 ^ r) (one-le-pow r 10 (omega arith)) (n * 10 ^ q) _ same)) in
    (sym places.1, rw (none, pow-zero) (omega (arith, places.0)))
scaled-only ds w f l r p n (inr (e, all, nothing)) value = (
  nothing,
  eq_of_mul-eq-mul_right (10 ^ (f + l)) (one-le-pow (f + l) 10 (omega arith)) n (digits_value 10 (take p ds) * 10 ^ (p - (w + f)))
      (value ∙ rw (e, pow-add 10 (f + l) (p - (w + f)), all) (omega arith)),
)

-- a number with more than thirteen zeros behind it is no `Num`
pub shifted-gt : (n zeros : ℕ) → 0 < n → 13 < zeros → 99999999999999 < n * 10 ^ zeros
shifted-gt n zeros h k =
    let far : 10 ^ 14 ≤ 10 ^ zeros = pow-le-pow_right {n = 10} (omega arith) k in
    omega (arith, far, mul-le-mul_right (10 ^ zeros) h)
