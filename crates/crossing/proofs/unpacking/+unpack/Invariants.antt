use Rattle.std.proofs.Common.{drop}
use Rattle.crossing.proofs.Unpacked.{IsFilled}
use Rattle.crossing.proofs.unpacking.+unpack.Given as goal

abbrev pub invariant-unpack_table-loop-key : goal.invariant-unpack_table-loop-key
invariant-unpack_table-loop-key l = IsFilled l.fn.heap l.heap l.table (drop l.key-index l.pairs) l.pairs
