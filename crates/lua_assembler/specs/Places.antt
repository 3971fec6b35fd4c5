-- Where operands are, as instructions name them.
use Rattle.std.specs.Prelude.{Bool, true, false, List, Option, Some, None, ◌<◌, length, ⊤}
use Rattle.lua_code.specs.Instr.{Operand, slot, constant}
use Rattle.lua_code.specs.declared.constant.Constant.{Constant}
use Rattle.lua_code.specs.View.{constant_at}
use Rattle.lua_assembler.specs.declared.place.Place.{Place}
use Rattle.lua_assembler.specs.declared.place.Place.TheVariants as places

abbrev pub place_view : List Constant → Place → Operand
place_view constants (places.Slot n) = slot n
place_view constants (places.Constant n) = constant (constant_at constants n)

abbrev pub IsKnown : List Constant → Place → Type 0
IsKnown constants (places.Slot n) = ⊤
IsKnown constants (places.Constant n) = n < length constants

-- whether there is one
abbrev pub is_there : {A : Type 0} → Option A → Bool
is_there None = false
is_there (Some a) = true
