-- The constants of the running function.
use Rattle.std.specs.Prelude.{ℕ, List, [], ◌<◌, length, Option, Some, None, slice_get, unwrap_or}
use Rattle.lua_heap.specs.declared.value.Value.{Value}
use Rattle.lua_machine.specs.declared.chunk.Chunk.{Chunk}
use Rattle.lua_machine.specs.View.{EngineView, value_at}

abbrev pub constants_of : Option Chunk → List (List Value)
constants_of None = []
constants_of (Some x) = x.constants.items

-- the constants of a function of a chunk
abbrev pub constants_at : List Chunk → (chunk func : ℕ) → List Value
constants_at chunks chunk func = unwrap_or (slice_get (constants_of (slice_get chunks chunk)) func) []

abbrev pub constant_in : EngineView → ℕ → Value
constant_in m n = value_at (constants_at m.chunks m.chunk m.func) n

-- a constant of the running function is there
pub record HasConstant (m : EngineView) (n : ℕ) : Type 0 where
  pub chunk : m.chunk < length m.chunks
  pub func : m.func < length (constants_of (slice_get m.chunks m.chunk))
  pub constant : n < length (constants_at m.chunks m.chunk m.func)
