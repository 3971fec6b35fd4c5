-- Texts that are made piece by piece.
use Rattle.std.specs.Prelude.{◌≡◌, ◌++◌, List, Result, Ok, Err}
use Rattle.lua_tree.specs.Tree.{Bytes}
use Rattle.lua_meaning.specs.Arguments.{Lib, answer, ◌>>=◌}
use Rattle.lua_lib.specs.declared.call.cause.Cause.{Cause}
use Rattle.lua_lib.specs.Outcome.{Gives}
use Rattle.lua_lib.specs.Faults.{RaisesBy}
use Rattle.lua_lib.specs.Causes.{error_of}

-- a text, and behind it what a part gives
abbrev pub put_before : Bytes → Lib Bytes → Lib Bytes
put_before made part = part >>= λ rest. answer (made ++ rest)

-- what a part gives is put at the end of a text, or it raises the error of a cause
abbrev pub Puts : {R : Type 0} → List Bytes → (old new : Bytes) → Lib Bytes → Result R Cause → Type 0
Puts texts old new part (Ok done) = (piece : Bytes) × (new ≡ old ++ piece) × Gives part piece
Puts texts old new part (Err cause) = RaisesBy part (error_of texts cause)
