-- The beginning of a state.
use Rattle.std.specs.Prelude.{◌≡◌, ℕ, List, [], true}
use Rattle.lua_meaning.specs.Value.{Value}
use Rattle.lua_meaning.specs.Store.{Store}
use Rattle.lua_meaning.specs.Message.{Message}
use Rattle.lua_meaning.specs.Packing.{unpack_all}
use Rattle.lua_meaning.specs.Run.{first_store}
use Rattle.lua_code.specs.Instr.{Proto, params_of, is_vararg}
use Rattle.lua_code.specs.View.{ProtoView}
use Rattle.lua_code.specs.Trees.{chunk_of}
use Rattle.lua_code.specs.State.{State, Config}
use Rattle.lua_code.specs.Frames.{runs, begun}
use Rattle.lua_code.specs.Follows.{no_registers}
use Rattle.lua_machine.specs.Past.{no_past}
use Rattle.lua_machine.specs.View.{EngineView, config_of}

-- what a state has at its start, with so many ticks
abbrev pub first_state : Store → (ticks : ℕ) → State
first_state store ticks =
    record {
      store = store;
      functions = [];
      modules = [];
      output = [];
      ends = [];
      ticks = ticks;
      asks = [];
    }

-- a function without parameters, which takes all arguments as extra ones, as a chunk's does
pub record TakesAll (p : Proto) : Type 0 where
  pub params : params_of p ≡ 0
  pub varargs : is_vararg p ≡ true

-- a chunk's function on arguments, in a state at its start
abbrev pub first_config : Proto → List Value × Store → (ticks : ℕ) → Config
first_config p given ticks =
    begun (runs p []) given.0 [] 0 0 no_registers (first_state given.1 ticks)

-- an engine at the beginning of a chunk's function, on messages
abbrev pub Begins : List ProtoView → List Message → (state ticks : ℕ) → EngineView → Type 0
Begins ps args state ticks m =
    TakesAll (chunk_of ps) →
    config_of no_past m ≡ first_config (chunk_of ps) (unpack_all args (first_store state)) ticks
