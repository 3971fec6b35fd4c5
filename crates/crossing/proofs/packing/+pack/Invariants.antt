use Rattle.std.proofs.Common.{◌≡◌, ◌+◌, ◌*◌, drop}
use Rattle.std.specs.Prelude.{reverse}
use Rattle.lua_meaning.specs.Packing.{pack_within}
use Rattle.lua_heap.specs.Heap.{store_of}
use Rattle.crossing.proofs.Packed.{IsBegun}
use Rattle.crossing.proofs.packing.+pack.Given as goal

abbrev pub decreases-pack_within : goal.decreases-pack_within
decreases-pack_within l = 3 * l.left + 2

abbrev pub decreases-pack_table : goal.decreases-pack_table
decreases-pack_table l = 3 * l.left + 1

abbrev pub decreases-pack_pairs : goal.decreases-pack_pairs
decreases-pack_pairs l = 3 * l.left + 3

-- the pairs so far are packed, inside the same tables
abbrev pub invariant-pack_pairs-loop-key : goal.invariant-pack_pairs-loop-key
invariant-pack_pairs-loop-key l =
    record {
      begun : IsBegun (λ v. pack_within l.left (store_of l.heap) (reverse l.fn.inside.items) v) l.heap.texts l.packed.items (drop l.key-index l.pairs) l.pairs;
      inside : l.inside.items ≡ l.fn.inside.items;
    }
