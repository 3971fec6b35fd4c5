-- What an engine's registers hold was made by its heap, and the events are that heap's.
use Rattle.std.specs.Prelude.{ℕ, ◌<◌, ◌≤◌, List, [], ◌∷◌, length, reverse, ⊤, IfSome}
use Rattle.std.specs.List.{AllByRecursion}
use Rattle.lua_heap.specs.declared.value.Value.{Value}
use Rattle.lua_heap.specs.declared.value.Value.TheVariants.{Str}
use Rattle.lua_heap.specs.Value.{IsCounted}
use Rattle.lua_heap.specs.Heap.{HeapView, counts}
use Rattle.lua_operators.specs.Events.{AreEvents}
use Rattle.lua_machine.specs.declared.frame.Frame.{Frame}
use Rattle.lua_machine.specs.declared.chunk.Chunk.{Chunk}
use Rattle.lua_machine.specs.declared.module.Module.{Module}
use Rattle.lua_machine.specs.View.{EngineView}

abbrev pub AreMade : HeapView → List Value → Type 0
AreMade h values = AllByRecursion (IsCounted (counts h)) values

abbrev pub IsMadeChunk : HeapView → Chunk → Type 0
IsMadeChunk h x = AllByRecursion (AreMade h) x.constants.items

-- a module's name and its value
pub record IsMadeModule (h : HeapView) (x : Module) : Type 0 where
  pub name : IsCounted (counts h) (Str x.name)
  pub value : IfSome x.value (IsCounted (counts h))

-- the extra arguments of frames, the last one first, begin below one another
abbrev pub AreBelow : (top : ℕ) → List Frame → Type 0
AreBelow top [] = ⊤
AreBelow top (f ∷ frames) = (f.extra_base ≤ top) × AreBelow f.extra_base frames

pub record IsEngine (m : EngineView) : Type 0 where
  pub events : AreEvents m.heap.texts m.events
  pub extra : m.extra_base ≤ length m.extras
  pub below : AreBelow m.extra_base (reverse m.frames)
  pub values : AreMade m.heap m.values
  pub tail : AreMade m.heap m.tail
  pub extras : AreMade m.heap m.extras
  pub args : AreMade m.heap m.args
  pub cells : AllByRecursion (λ (c : ℕ). c < length m.heap.cells) m.cells
  pub chunks : AllByRecursion (IsMadeChunk m.heap) m.chunks
  pub modules : AllByRecursion (IsMadeModule m.heap) m.modules
