-- Division rounded down: the remainder by the signs, how large it is, and the quotient of a product.
use Rattle.std.proofs.Common.{◌≡◌, ◌≢◌, ℕ, zero, suc, ◌+◌, ◌*◌, ◌-◌, ◌%◌, ◌≤◌, ◌<◌, inl, inr, ℤ, pos, negsuc, neg_ℤ, ◌*ℤ◌, unsigned_abs, arith, refl, div-add-mod', mod-lt, zero-mul, div-mul-le_self, mul-div_cancel, ap}
use Rattle.std.proofs.lemmas.Int.{ints}
use Rattle.std.proofs.Math.Nat.{zero-div}
use Rattle.std.proofs.lemmas.Nat.{div-mul-add}
use Rattle.std.specs.Int.{int_div_euclid}
use Rattle.lua_value.specs.Arithmetic.{floor_by, floor_quotient, floor_remainder, LiesBefore}

-- what `div_euclid` gives
pub int_div_euclid-pos : (z : ℤ) (d : ℕ) → int_div_euclid z (pos d) ≡ floor_by z d
int_div_euclid-pos (pos a) d = refl
int_div_euclid-pos (negsuc a) d = refl

-- the remainder by the signs
remainder-pos-pos : (a b : ℕ) → floor_remainder (pos a) (pos b) ≡ pos (a % b)
remainder-pos-pos a b = omega (arith, ints, div-add-mod' a b)

remainder-negsuc-pos : (a b : ℕ) → floor_remainder (negsuc a) (pos (suc b)) ≡ pos (b - a % suc b)
remainder-negsuc-pos a b = omega (arith, ints, div-add-mod' a (suc b), mod-lt a {m = suc b} (omega arith))

remainder-zero-negsuc : (b : ℕ) → floor_remainder (pos zero) (negsuc b) ≡ pos 0
remainder-zero-negsuc b = rw (zero-div, zero-mul) refl

remainder-suc-negsuc : (a b : ℕ) → floor_remainder (pos (suc a)) (negsuc b) ≡ neg_ℤ (pos (b - a % suc b))
remainder-suc-negsuc a b = omega (arith, ints, div-add-mod' a (suc b), mod-lt a {m = suc b} (omega arith))

remainder-negsuc-negsuc : (a b : ℕ) → floor_remainder (negsuc a) (negsuc b) ≡ neg_ℤ (pos (suc a % suc b))
remainder-negsuc-negsuc a b = omega (arith, ints, div-add-mod' (suc a) (suc b))

pub unsigned_abs-neg : (n : ℕ) → unsigned_abs (neg_ℤ (pos n)) ≡ n
unsigned_abs-neg zero = refl
unsigned_abs-neg (suc n) = refl

-- the remainder is smaller than the divisor
pub remainder_size : (a b : ℤ) → b ≢ pos 0 → unsigned_abs (floor_remainder a b) < unsigned_abs b
remainder_size a (pos zero) h = absurd (h refl)
remainder_size (pos a) (pos (suc b)) h = rw (remainder-pos-pos a (suc b)) (mod-lt a {m = suc b} (omega arith))
remainder_size (negsuc a) (pos (suc b)) h = rw (remainder-negsuc-pos a b) (omega arith)
remainder_size (pos zero) (negsuc b) h = rw (remainder-zero-negsuc b) (omega arith)
remainder_size (pos (suc a)) (negsuc b) h = rw (remainder-suc-negsuc a b, unsigned_abs-neg) (omega arith)
remainder_size (negsuc a) (negsuc b) h = rw (remainder-negsuc-negsuc a b, unsigned_abs-neg) (mod-lt (suc a) {m = suc b} (omega arith))

-- and what is taken away no more than a divisor larger than the dividend
pub product_size : (a b : ℤ) → unsigned_abs (floor_quotient a b *ℤ b) ≤ unsigned_abs a + unsigned_abs b
product_size (pos a) (pos b) = omega (arith, div-mul-le_self a b)
product_size (negsuc a) (pos b) = rw unsigned_abs-neg (omega (arith, div-mul-le_self a b))
product_size (pos zero) (negsuc b) = rw unsigned_abs-neg (omega (arith, div-mul-le_self 0 (suc b)))
product_size (pos (suc a)) (negsuc b) = omega (arith, div-mul-le_self a (suc b))
product_size (negsuc a) (negsuc b) = rw unsigned_abs-neg (omega (arith, div-mul-le_self (suc a) (suc b)))

-- the remainder has the divisor's sign
pub remainder_side : (a b : ℤ) → b ≢ pos 0 → LiesBefore (floor_remainder a b) b
remainder_side a (pos zero) h = absurd (h refl)
remainder_side (pos a) (pos (suc b)) h = rw (remainder-pos-pos a (suc b)) (inl (omega (arith, ints), omega (arith, ints, mod-lt a {m = suc b} (omega arith))))
remainder_side (negsuc a) (pos (suc b)) h = rw (remainder-negsuc-pos a b) (inl (omega (arith, ints), omega (arith, ints)))
remainder_side (pos zero) (negsuc b) h = rw (remainder-zero-negsuc b) (inr (omega (arith, ints), omega (arith, ints)))
remainder_side (pos (suc a)) (negsuc b) h = rw (remainder-suc-negsuc a b) (inr (omega (arith, ints), omega (arith, ints)))
remainder_side (negsuc a) (negsuc b) h =
    rw (remainder-negsuc-negsuc a b) (inr (omega (arith, ints, mod-lt (suc a) {m = suc b} (omega arith)), omega (arith, ints)))

-- a product divided by one of its factors
floor_by-product : (q : ℤ) (d : ℕ) → 0 < d → floor_by (q *ℤ pos d) d ≡ q
floor_by-product (pos n) d h = ap (λ k. pos k) (mul-div_cancel n h)
floor_by-product (negsuc n) d h =
    let parts : suc n * d ≡ suc (n * d + (d - 1)) = omega arith in
    rw parts (ap (λ k. negsuc k) (div-mul-add n d (d - 1) (omega arith)))

pub floor_quotient-product : (q b : ℤ) → b ≢ pos 0 → floor_quotient (q *ℤ b) b ≡ q
floor_quotient-product q (pos zero) h = absurd (h refl)
floor_quotient-product q (pos (suc b)) h = floor_by-product q (suc b) (omega arith)
floor_quotient-product q (negsuc b) h =
    let turned : neg_ℤ (q *ℤ negsuc b) ≡ q *ℤ pos (suc b) = omega (arith, ints) in
    rw turned (floor_by-product q (suc b) (omega arith))
