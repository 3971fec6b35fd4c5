-- What the clock of tests shows.
use Rattle.std.proofs.Common.{◌≡◌, ℕ, ◌*◌, ◌-◌, ◌^◌, min, inl, inr, ap, arith}
use mathlib.Core.Logic.{dite}
use native.Mathlib.Decide.{dec_le}
use Rattle.love_base.specs.Pacer.{IsReading}

times_zero : (k step : ℕ) → step ≡ 0 → k * step ≡ 0
times_zero k step e = let z : k * step ≡ k * 0 = ap (λ (n : ℕ). k * n) e in omega arith

pub reading : (k step r : ℕ) → r ≡ min (k * step) (2 ^ 64 - 1) → IsReading step r
reading k step r e = dite (dec_le (k * step) (2 ^ 64 - 1))
    (λ le. inl (k, omega arith))
    (λ more. inr ((λ zero. let z = times_zero k step zero in let no : ⊥ = omega arith in no), omega arith))
