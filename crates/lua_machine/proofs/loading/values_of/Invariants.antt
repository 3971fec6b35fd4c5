use Rattle.std.proofs.Common.{drop}
use Rattle.lua_machine.proofs.Loads.{AreValues}
use Rattle.lua_machine.proofs.loading.values_of.Given as goal

abbrev pub invariant-loop-constant : goal.invariant-loop-constant
invariant-loop-constant l = AreValues l.fn.heap l.heap l.values.items (drop l.constant-index l.constant-items) l.constant-items
