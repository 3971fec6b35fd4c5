-- Values of errors, and the places that stand before their texts.
use Rattle.std.specs.Prelude.{◌≡◌, ◌-◌, ◌<◌, List, length, drop, Option, Some, None}
use Rattle.lua_meaning.specs.Value as meant
use Rattle.lua_meaning.specs.Fault.{Place}
use Rattle.lua_meaning.specs.Calls.{caller}
use Rattle.lua_heap.specs.declared.value.Value.{Value}
use Rattle.lua_heap.specs.Value.{value_view}
use Rattle.lua_heap.specs.Heap.{IsMade}
use Rattle.lua_code.specs.Frames.{places}
use Rattle.lua_machine.specs.declared.frame.Frame.{Frame}
use Rattle.lua_machine.specs.declared.chunk.Chunk.{Chunk}
use Rattle.lua_machine.specs.Past.{Past}
use Rattle.lua_machine.specs.View.{EngineView, protos_at, proto_at, place_of, frames_of, config_of}
use Rattle.lua_machine.specs.Ready.{AreFit}

-- where a function waits, if one does
abbrev pub frame_place : List Chunk → Option Frame → Option Place
frame_place chunks None = None
frame_place chunks (Some f) = Some (place_of chunks f)

-- its code is there, and so is the site of its call
pub record HasSite (f : Frame) (m : EngineView) : Type 0 where
  pub known : f.func < length (protos_at m.chunks f.chunk)
  pub inside : f.pc - 1 < length (proto_at m.chunks f.chunk f.func).sites

-- where the caller was called
abbrev pub outer : EngineView → Option Place
outer m = caller (drop 1 (places (frames_of m)))

-- the function of Lua that called the caller, where one did
abbrev pub IsOuter : Option Frame → EngineView → Type 0
IsOuter None m = outer m ≡ None
IsOuter (Some f) m = (outer m ≡ Some (place_of m.chunks f)) × HasSite f m

-- an error's value is there, and to the definitions nothing else has changed
pub record IsValue (meaning : meant.Value) (value : Value) (old new : EngineView) : Type 0 where
  pub value_is : value_view new.heap.texts value ≡ meaning
  pub made : IsMade new.heap value
  pub same : (past : Past) → config_of past new ≡ config_of past old
  pub fit : AreFit new
