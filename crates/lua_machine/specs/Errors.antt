-- Errors of the language: a text behind the place of the next instruction.
use Rattle.std.specs.Prelude.{◌≡◌, List}
use Rattle.lua_tree.specs.Tree.{Bytes}
use Rattle.lua_meaning.specs.Value as meant
use Rattle.lua_machine.specs.Past.{Past}
use Rattle.lua_meaning.specs.Fault.{placed}
use Rattle.lua_heap.specs.declared.value.Value.{Value}
use Rattle.lua_heap.specs.Value.{value_view}
use Rattle.lua_heap.specs.Heap.{IsMade}
use Rattle.lua_code.specs.Act.{at_line}
use Rattle.lua_machine.specs.View.{EngineView, run_of, config_of}
use Rattle.lua_machine.specs.Ready.{AreFit}
use Rattle.lua_machine.specs.Does.{site_at}

-- the value of an error is there, and to the definitions nothing else has changed
pub record Raised (text : Bytes) (value : Value) (old new : EngineView) : Type 0 where
  pub text_is :
      value_view new.heap.texts value
      ≡ meant.str (placed (at_line (run_of old) (site_at old.proto old.pc)) text)
  pub made : IsMade new.heap value
  pub same : (past : Past) → config_of past new ≡ config_of past old
  pub fit : AreFit new
