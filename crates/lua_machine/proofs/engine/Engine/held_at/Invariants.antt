use Rattle.std.proofs.Common.{◌≡◌, ◌+◌, take}
use Rattle.std.specs.Prelude.{map}
use Rattle.lua_heap.specs.Heap.{AreMadeCells}
use Rattle.lua_machine.specs.View.{cell_at}
use Rattle.lua_machine.proofs.engine.Engine.held_at.Given as goal

abbrev pub invariant-loop-capture : goal.invariant-loop-capture
invariant-loop-capture l = (l.held.items ≡ map (λ c. cell_at l.self.cells (l.self.cell_base + c)) (take l.capture-index l.captures)) × AreMadeCells l.self.heap l.held.items
