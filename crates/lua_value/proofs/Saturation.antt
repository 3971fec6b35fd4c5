-- Numbers that are kept at most m: a step on what was kept gives what the step gives on the number itself.
use Rattle.std.proofs.Common.{◌≡◌, ℕ, ◌+◌, ◌*◌, ◌≤◌, min, inl, inr, arith, mul-le-mul_left}
use Rattle.std.proofs.Math.Nat.{min-eq_left, min-eq_right}
use Rattle.std.proofs.lemmas.Bool.{cases_lt}

-- one digit more
pub min-digit : (x b d m : ℕ) → 1 ≤ b → min (min (min x m * b) m + d) m ≡ min (x * b + d) m
min-digit x b d m h = elim (cases_lt m x) [
  | inl above ↦ rw (min-eq_right {n = m} {m = x} (omega arith)) (omega (arith, mul-le-mul_left m h, mul-le-mul_left x h))
  | inr within ↦ rw (min-eq_left {n = x} {m = m} within) (omega arith)
]

-- the same, of the numbers that the steps gave
pub min-digit_of : (x b d m n c e product sum : ℕ) → 1 ≤ b → n ≡ min x m → c ≡ b → e ≡ d →
    product ≡ min (n * c) m → sum ≡ min (product + e) m → sum ≡ min (x * b + d) m
min-digit_of x b d m n c e product sum h p q r s t = rw (t, s, p, q, r) (min-digit x b d m h)
