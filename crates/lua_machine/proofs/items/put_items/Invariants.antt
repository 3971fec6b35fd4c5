use Rattle.std.proofs.Common.{◌≡◌, ◌+◌, take}
use Rattle.lua_machine.proofs.Filling.{HasItems}
use Rattle.lua_machine.proofs.items.put_items.Given as goal

abbrev pub invariant-loop-value : goal.invariant-loop-value
invariant-loop-value l = HasItems l.fn.heap l.heap l.id l.first (take l.value-index l.values) × (l.number ≡ l.first + l.value-index)
