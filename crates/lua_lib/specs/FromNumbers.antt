-- The faults of arithmetic among those of the library.
use Rattle.lua_value.specs.declared.arithmetic.NumFault.{NumFault}
use Rattle.lua_value.specs.declared.arithmetic.NumFault.TheVariants as numbers
use Rattle.lua_lib.specs.declared.fault.Fault.{Fault}
use Rattle.lua_lib.specs.declared.fault.Fault.TheVariants.{NotWhole, OutOfRange}

abbrev pub of_numbers : NumFault → Fault
of_numbers numbers.NotWhole = NotWhole
of_numbers numbers.OutOfRange = OutOfRange
