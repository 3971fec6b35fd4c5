-- What valid prototypes stand for.
use Rattle.std.specs.Prelude.{ℕ, ◌-◌, ◌<◌, List, length}
use Rattle.lua_code.specs.Instr.{Proto}
use Rattle.lua_code.specs.View.{ProtoView, code_at}
use Rattle.lua_code.specs.Valid.{AreValid}
use Rattle.lua_code.specs.Sound.{IsSoundCode}

-- the chunk's function
abbrev pub chunk_of : List ProtoView → Proto
chunk_of ps = code_at ps (length ps - 1)

-- each function of a valid list is sound code
abbrev pub AllSound : Type 0
AllSound =
    (ps : List ProtoView) → AreValid ps → (n : ℕ) → n < length ps → IsSoundCode (code_at ps n)
