use Rattle.std.proofs.Common.{◌≡◌, ◌-◌, ◌^◌, min, take}
use Rattle.std.specs.Str.Parse.{AllDigits, digits_value_after}
use Rattle.lua_value.proofs.digits.digits_onto.Given as goal

abbrev pub invariant-loop-byte : goal.invariant-loop-byte
invariant-loop-byte l = AllDigits l.base (take l.byte-index l.digits) × (l.number ≡ min (digits_value_after l.base l.value (take l.byte-index l.digits)) (2 ^ 64 - 1))
