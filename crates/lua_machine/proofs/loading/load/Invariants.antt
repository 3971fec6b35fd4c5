use Rattle.std.proofs.Common.{drop}
use Rattle.lua_machine.proofs.Loads.{AreLists}
use Rattle.lua_machine.proofs.loading.load.Given as goal

abbrev pub invariant-loop-proto : goal.invariant-loop-proto
invariant-loop-proto l = AreLists l.fn.heap l.heap l.constants.items (drop l.proto-index l.proto-items) l.proto-items
