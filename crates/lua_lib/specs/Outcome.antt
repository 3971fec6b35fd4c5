-- What a function of the library comes to, whatever its state holds.
use Rattle.std.specs.Prelude.{◌≡◌}
use Rattle.lua_meaning.specs.Store.{Store}
use Rattle.lua_meaning.specs.Fault.{Fault}
use Rattle.lua_meaning.specs.Arguments.{Lib, answers, faults}

-- it gives an answer, and the store stays as it is
abbrev pub Gives : {A : Type 0} → Lib A → A → Type 0
Gives part given = (s : Store) → part s ≡ answers given s

-- it raises an error
abbrev pub Raises : {A : Type 0} → Lib A → Fault → Type 0
Raises part fault = (s : Store) → part s ≡ faults fault
