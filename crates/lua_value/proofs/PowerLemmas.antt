-- Powers by squares, of numbers that are kept at most m, and by the signs.
use Rattle.std.proofs.Common.{◌≡◌, ◌≢◌, ℕ, zero, suc, ◌+◌, ◌*◌, ◌-◌, ◌/◌, ◌%◌, ◌^◌, ◌≤◌, ◌<◌, ◌⊎◌, inl, inr, ℤ, pos, negsuc, neg_ℤ, ◌*ℤ◌, ◌<ℤ◌, ◌≤ℤ◌, min, unsigned_abs, arith, ap, refl, sym, ◌∙◌, pow-suc, zero-mul, mul-zero, eq-zero-or-pos, le-mul_of_pos_right, mul-le-mul}
use Rattle.std.proofs.Math.Nat.{pow-zero, one-le-pow, min-eq_left, min-eq_right}
use Rattle.std.proofs.lemmas.Nat.{pow-add, mul-pow}
use Rattle.std.proofs.lemmas.Bool.{cases_lt}
use Rattle.std.proofs.lemmas.Int.{ints}
use Rattle.lua_value.specs.Arithmetic.{power}
use Rattle.lua_value.proofs.Rounding.{unsigned_abs-neg}

-- ---- kept at most m

min-product : (v y m : ℕ) → min (min v m * y) m ≡ min (v * y) m
min-product v y m = elim (cases_lt m v) [
  | inr within ↦ rw (min-eq_left {n = v} {m = m} within) refl
  | inl above ↦ elim (eq-zero-or-pos y) [
    | inl none ↦ rw (none, mul-zero (min v m), mul-zero v) refl
    | inr some ↦ rw (min-eq_right {n = m} {m = v} (omega arith))
        (omega (arith, le-mul_of_pos_right {m = y} m some, le-mul_of_pos_right {m = y} v some))
  ]
]

min-power : (v f k m : ℕ) → 0 < m → min (v * min f m ^ k) m ≡ min (v * f ^ k) m
min-power v f zero m h = rw (pow-zero (min f m), pow-zero f) refl
min-power v f (suc k) m h = elim (cases_lt m f) [
  | inr within ↦ rw (min-eq_left {n = f} {m = m} within) refl
  | inl above ↦ elim (eq-zero-or-pos v) [
    | inl none ↦ rw (none, zero-mul (min f m ^ suc k), zero-mul (f ^ suc k)) refl
    | inr some ↦
        let low : 1 * (1 * m) ≤ v * (m ^ k * m) = mul-le-mul some (mul-le-mul (one-le-pow k m h) (omega arith)) in
        let high : 1 * (1 * f) ≤ v * (f ^ k * f) = mul-le-mul some (mul-le-mul (one-le-pow k f (omega arith)) (omega arith)) in
        rw (min-eq_right {n = m} {m = f} (omega arith), pow-suc m k, pow-suc f k) (omega (arith, low, high))
  ]
]

square : (f h : ℕ) → (f * f) ^ h ≡ f ^ (h + h)
square f h = mul-pow f f h ∙ sym (pow-add f h h)

even_power : (v f h : ℕ) → v * (f * f) ^ h ≡ v * f ^ (h + h)
even_power v f h = rw (square f h) refl

odd_power : (v f h : ℕ) → v * f * (f * f) ^ h ≡ v * f ^ suc (h + h)
odd_power v f h = rw (square f h, pow-suc) (omega arith)

-- a step where the exponent is odd, and where it is even
pub square_odd : (v f left m w g : ℕ) → 0 < m → left % 2 ≡ 1 → w ≡ min (v * f) m → g ≡ min (f * f) m →
    min (w * g ^ (left / 2)) m ≡ min (v * f ^ left) m
square_odd v f left m w g h odd p q =
    let parts : suc (left / 2 + left / 2) ≡ left = omega arith in
    rw (p, q) (min-power (min (v * f) m) (f * f) (left / 2) m h ∙ min-product (v * f) ((f * f) ^ (left / 2)) m
    ∙ ap (λ x. min x m) (odd_power v f (left / 2) ∙ ap (λ k. v * f ^ k) parts))

pub square_even : (v f left m w g : ℕ) → 0 < m → left % 2 ≢ 1 → w ≡ v → g ≡ min (f * f) m →
    min (w * g ^ (left / 2)) m ≡ min (v * f ^ left) m
square_even v f left m w g h even p q =
    let parts : left / 2 + left / 2 ≡ left = omega arith in
    rw (p, q) (min-power v (f * f) (left / 2) m h ∙ ap (λ x. min x m) (even_power v f (left / 2) ∙ ap (λ k. v * f ^ k) parts))

pub power_done : (v f left p : ℕ) → v < 2 ^ 64 → left ≤ 0 → min (v * f ^ left) (2 ^ 64 - 1) ≡ p → v ≡ p
power_done v f left p h done e =
    let none : left ≡ 0 = omega arith in
    omega (arith, rw (none, pow-zero) at e)

-- ---- by the signs

pub power-pos : (a e : ℕ) → power (pos a) e ≡ pos (a ^ e)
unfolding power
power-pos a zero = rw pow-zero refl
power-pos a (suc e) = rw (power-pos a e, pow-suc) refl

neg-mul-negsuc : (x a : ℕ) → neg_ℤ (pos x) *ℤ negsuc a ≡ pos (x * suc a)
neg-mul-negsuc zero a = rw zero-mul refl
neg-mul-negsuc (suc x) a = refl

pub power-negsuc : (a e : ℕ) → (e % 2 ≡ 0 → power (negsuc a) e ≡ pos (suc a ^ e)) × (e % 2 ≡ 1 → power (negsuc a) e ≡ neg_ℤ (pos (suc a ^ e)))
unfolding power
power-negsuc a zero = (λ _. rw pow-zero refl, λ odd. absurd (omega arith))
power-negsuc a (suc e) = (
  λ even. rw ((power-negsuc a e).1 (omega arith), pow-suc) (neg-mul-negsuc (suc a ^ e) a),
  λ odd. rw ((power-negsuc a e).0 (omega arith), pow-suc) refl,
)

pub unsigned_abs-power : (a : ℤ) (e : ℕ) → unsigned_abs (power a e) ≡ unsigned_abs a ^ e
unsigned_abs-power (pos a) e = rw (power-pos a e) refl
unsigned_abs-power (negsuc a) e = elim (parity e) [
  | inl even ↦ rw ((power-negsuc a e).0 even) refl
  | inr odd ↦ rw ((power-negsuc a e).1 odd, unsigned_abs-neg) refl
]
  where
    parity : (n : ℕ) → (n % 2 ≡ 0) ⊎ (n % 2 ≡ 1)
    parity n = elim (eq-zero-or-pos (n % 2)) [ inl none ↦ inl none | inr some ↦ inr (omega arith) ]

-- a power is negative where its base is and its exponent is odd
pub power-odd : (a : ℤ) (e : ℕ) → a <ℤ pos 0 → e % 2 ≡ 1 → neg_ℤ (pos (unsigned_abs a ^ e)) ≡ power a e
power-odd (pos a) e h odd = absurd (omega (arith, ints))
power-odd (negsuc a) e h odd = sym ((power-negsuc a e).1 odd)

pub power-even : (a : ℤ) (e : ℕ) → e % 2 ≢ 1 → pos (unsigned_abs a ^ e) ≡ power a e
power-even (pos a) e even = sym (power-pos a e)
power-even (negsuc a) e even = sym ((power-negsuc a e).0 (omega arith))

pub power-above : (a : ℤ) (e : ℕ) → pos 0 ≤ℤ a → pos (unsigned_abs a ^ e) ≡ power a e
power-above (pos a) e h = sym (power-pos a e)
power-above (negsuc a) e h = absurd (omega (arith, ints))
