use Rattle.std.proofs.Common.{◌≡◌, ◌≤◌, take}
use Rattle.std.specs.Str.Parse.{AllDigits, digits_value}
use Rattle.lua_lib.proofs.basic.digits_number.Given as goal

abbrev pub invariant-loop-byte : goal.invariant-loop-byte
invariant-loop-byte l =
    record {
      all : AllDigits l.base (take l.byte-index l.digits);
      number : l.number ≡ digits_value l.base (take l.byte-index l.digits);
      small : l.number ≤ 99999999999999;
    }
