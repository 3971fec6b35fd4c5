-- What is a `Num`, and what is out of range; the laws of the operations.
use Rattle.std.proofs.Common.{◌≡◌, ◌≢◌, zero, suc, ℤ, pos, negsuc, neg_ℤ, ◌+ℤ◌, ◌-ℤ◌, ◌*ℤ◌, unsigned_abs, Bool, true, false, cond, nat_le, Ok, Err, arith, refl, sym, ap, ◌∙◌}
use Rattle.std.proofs.lemmas.Bool.{false≢true}
use Rattle.std.proofs.lemmas.Bool.Decides.{nat_tests}
use Rattle.std.proofs.lemmas.Int.{ints}
use Rattle.lua_value.specs.Num.{IsNum}
use Rattle.lua_value.specs.Arithmetic.{in_range, is_zero, floor_quotient, floor_remainder, add, mul, div, rem, LiesBefore}
use Rattle.lua_value.specs.declared.arithmetic.NumFault.TheVariants.{NotWhole, OutOfRange}
use Rattle.lua_value.proofs.Rounding.{remainder_side, floor_quotient-product}

pub in_range-num : (z : ℤ) → IsNum z → in_range z ≡ Ok z
in_range-num z h = grind (arith, nat_tests)

pub in_range-over : (z : ℤ) → ¬ IsNum z → in_range z ≡ Err OutOfRange
in_range-over z h = grind (arith, nat_tests)

is_zero-nonzero : (b : ℤ) → b ≢ pos 0 → is_zero b ≡ false
is_zero-nonzero (pos zero) h = absurd (h refl)
is_zero-nonzero (pos (suc b)) h = grind (arith, nat_tests)
is_zero-nonzero (negsuc b) h = grind (arith, nat_tests)

-- a divisor other than 0 has a remainder
pub rem-nonzero : (a b z : ℤ) → b ≢ pos 0 → z ≡ floor_remainder a b → in_range z ≡ rem a b
rem-nonzero a b z h e = rw (e, is_zero-nonzero b h) refl

-- ---- laws

in_range-value : (f q : ℤ) → in_range f ≡ Ok q → f ≡ q
in_range-value f q e = from (nat_le (unsigned_abs f) 99999999999999) e
  where
    from : (b : Bool) → cond b (Ok f) (Err OutOfRange) ≡ Ok q → f ≡ q
    from true e = cc
    from false e = cc

is_zero-value : (z : ℤ) → is_zero z ≡ true → z ≡ pos 0
is_zero-value (pos zero) h = refl
is_zero-value (pos (suc n)) h = absurd (grind (arith, nat_tests))
is_zero-value (negsuc n) h = absurd (grind (arith, nat_tests))

is_zero-zero : (b : ℤ) → is_zero b ≡ false → b ≢ pos 0
is_zero-zero b h e = absurd (false≢true (sym h ∙ ap is_zero e))

quotient_parts : (none whole : Bool) (f q : ℤ) → cond none (Err NotWhole) (cond whole (in_range f) (Err NotWhole)) ≡ Ok q →
    (none ≡ false) × (whole ≡ true) × (f ≡ q)
quotient_parts true whole f q e = cc
quotient_parts false true f q e = (refl, refl, in_range-value f q e)
quotient_parts false false f q e = cc

pub div-product : (a b q : ℤ) → div a b ≡ Ok q → q *ℤ b ≡ a
div-product a b q e =
    let parts = quotient_parts (is_zero b) (is_zero (floor_remainder a b)) (floor_quotient a b) q e in
    let rest : a -ℤ (floor_quotient a b *ℤ b) ≡ pos 0 = is_zero-value (floor_remainder a b) parts.1 in
    rw (← parts.2) (omega (arith, ints, rest))

remainder_parts : (none : Bool) (f r : ℤ) → cond none (Err NotWhole) (in_range f) ≡ Ok r → (none ≡ false) × (f ≡ r)
remainder_parts true f r e = cc
remainder_parts false f r e = (refl, in_range-value f r e)

pub rem-side : (a b r : ℤ) → rem a b ≡ Ok r → LiesBefore r b
rem-side a b r e =
    let parts = remainder_parts (is_zero b) (floor_remainder a b) r e in
    rw (← parts.1) (remainder_side a b (is_zero-zero b parts.0))

pub add-comm : (a b : ℤ) → add a b ≡ add b a
add-comm a b = let same : a +ℤ b ≡ b +ℤ a = omega (arith, ints) in ap in_range same

pub mul-comm : (a b : ℤ) → mul a b ≡ mul b a
mul-comm a b = let same : a *ℤ b ≡ b *ℤ a = omega (arith, ints) in ap in_range same

pub neg-neg : (a : ℤ) → neg_ℤ (neg_ℤ a) ≡ a
neg-neg a = omega (arith, ints)

pub div-complete : (a b q : ℤ) → b ≢ pos 0 → q *ℤ b ≡ a → div a b ≡ in_range q
div-complete a b q h e =
    let quotient : floor_quotient a b ≡ q = rw (← e) (floor_quotient-product q b h) in
    let nothing : a -ℤ (q *ℤ b) ≡ pos 0 = omega (arith, ints, e) in
    rw (is_zero-nonzero b h, quotient, nothing) refl

pub rem-parts : (a b r : ℤ) → rem a b ≡ Ok r → (q : ℤ) × (q *ℤ b +ℤ r ≡ a)
rem-parts a b r e =
    let parts = remainder_parts (is_zero b) (floor_remainder a b) r e in
    (floor_quotient a b, rw (← parts.1) (omega (arith, ints)))
