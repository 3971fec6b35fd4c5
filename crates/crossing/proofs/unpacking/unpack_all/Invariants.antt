use Rattle.std.proofs.Common.{drop}
use Rattle.crossing.proofs.Unpacked.{IsBegun}
use Rattle.crossing.proofs.unpacking.unpack_all.Given as goal

abbrev pub invariant-loop-message : goal.invariant-loop-message
invariant-loop-message l = IsBegun l.fn.heap l.heap l.values.items (drop l.message-index l.messages) l.messages
