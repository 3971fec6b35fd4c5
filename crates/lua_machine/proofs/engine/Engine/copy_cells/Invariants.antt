use Rattle.std.proofs.Common.{◌≡◌, take}
use Rattle.lua_heap.specs.Heap.{function_at}
use Rattle.lua_machine.specs.Arguments.{all_put}
use Rattle.lua_machine.proofs.engine.Engine.copy_cells.Given as goal

abbrev pub invariant-loop-n : goal.invariant-loop-n
invariant-loop-n l = l.self ≡ record l.fn.self { cells = all_put l.fn.self.cells l.at (take l.n (function_at l.fn.self.heap l.id).cells) }
