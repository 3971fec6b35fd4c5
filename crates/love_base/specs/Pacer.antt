-- What the clocks of tests show.
use Rattle.std.specs.Prelude.{◌≡◌, ◌≢◌, ℕ, ◌*◌, ◌-◌, ◌^◌, ◌⊎◌}

-- a multiple of the step, or the greatest number, which stands for all multiples over it
abbrev pub IsReading : ℕ → ℕ → Type 0
IsReading step n = ((k : ℕ) × (n ≡ k * step)) ⊎ ((step ≢ 0) × (n ≡ 2 ^ 64 - 1))
