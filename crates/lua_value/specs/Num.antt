-- Which whole numbers a `Num` holds.
use Rattle.std.specs.Prelude.{ℤ, ◌≤◌, unsigned_abs}

-- z is a whole number from -99,999,999,999,999 to 99,999,999,999,999
abbrev pub IsNum : ℤ → Type 0
IsNum z = unsigned_abs z ≤ 99999999999999
