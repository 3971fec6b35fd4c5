use Rattle.std.proofs.Common.{drop}
use Rattle.lua_heap.specs.Heap.{store_of}
use Rattle.crossing.proofs.Packed.{AreBegun}
use Rattle.crossing.proofs.packing.pack_all.Given as goal

-- the messages so far are the first ones
abbrev pub invariant-loop-value : goal.invariant-loop-value
invariant-loop-value l = AreBegun (store_of l.heap) l.heap.texts l.messages.items (drop l.value-index l.values) l.values
