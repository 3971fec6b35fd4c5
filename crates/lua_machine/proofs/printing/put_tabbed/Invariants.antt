use Rattle.std.proofs.Common.{◌≡◌, ◌++◌, drop}
use Rattle.lua_machine.specs.Made.{AreMade}
use Rattle.lua_machine.specs.Printing.{texts_in, tabbed}
use Rattle.lua_machine.proofs.printing.put_tabbed.Given as goal

abbrev pub invariant-loop-value : goal.invariant-loop-value
invariant-loop-value l =
    (l.line.items ++ tabbed (texts_in l.heap.texts (drop l.value-index l.values)) ≡ l.fn.line.items ++ tabbed (texts_in l.heap.texts l.values))
    × AreMade l.heap (drop l.value-index l.values)
