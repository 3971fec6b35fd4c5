-- A number apart from its sign.
use Rattle.std.specs.Prelude.{◌≡◌, ℤ, pos, negsuc}
use Rattle.lua_lib.specs.declared.signed.Signed.{Signed}
use Rattle.lua_lib.specs.declared.signed.Signed.TheVariants.{Plus, Minus}

-- a number is n, or -(n + 1)
abbrev pub IsSigned : ℤ → Signed → Type 0
IsSigned z (Plus n) = z ≡ pos n
IsSigned z (Minus n) = z ≡ negsuc n
