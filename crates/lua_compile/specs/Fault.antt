-- Why a chunk has no code.
use Rattle.std.specs.Prelude.{◌≡◌, ℕ, Option, Some, None, ⊤}
use Rattle.lua_upvalues.specs.declared.fault.UpvalueFault.{UpvalueFault}
use Rattle.lua_upvalues.specs.declared.fault.UpvalueFault.TheVariants as upvalues
use Rattle.lua_compile.specs.declared.fault.CompileFault.{CompileFault}
use Rattle.lua_compile.specs.declared.fault.CompileFault.TheVariants.{TooManyUpvalues, NotInOrder, Memory}

-- what the walk over upvalues found
abbrev pub from_upvalues : UpvalueFault → CompileFault
from_upvalues (upvalues.TooMany line) = TooManyUpvalues line
from_upvalues upvalues.Memory = Memory

-- what `compile` answers where it gives no code, where the first function with too many upvalues is to be found
abbrev pub IsCause : Option ℕ → CompileFault → Type 0
IsCause found (TooManyUpvalues line) = found ≡ Some line
IsCause found NotInOrder = found ≡ None
IsCause found Memory = ⊤
