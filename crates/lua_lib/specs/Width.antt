-- The width of an item of a format.
use Rattle.std.specs.Prelude.{◌≡◌, ℕ, ◌≤◌}

-- so many digits, at most two, write the width
abbrev pub HasDigits : (width digits : ℕ) → Type 0
HasDigits width digits = (width ≤ 99) × (digits ≤ 1 → width ≤ 9) × (digits ≡ 0 → width ≡ 0)
