use Rattle.std.proofs.Common.{◌≡◌, ◌≢◌, ℕ, ◌/◌, ◌<◌, ◌≤◌, length, slice_index}
use Rattle.lua_table.specs.Gaps.{leaves, IsNode}
use Rattle.lua_table.proofs.gaps.update_above.Given as goal

abbrev pub invariant-loop-node : goal.invariant-loop-node
invariant-loop-node l = record {
  low : 1 ≤ l.node;
  high : l.node < length l.tree;
  others : (i : ℕ) → 1 ≤ i → i < leaves l.tree → i ≢ l.node / 2 → IsNode l.tree i;
  leaves : (i : ℕ) → leaves l.tree ≤ i → slice_index l.tree i ≡ slice_index l.fn.tree i;
}

abbrev pub decreases-loop-node : goal.decreases-loop-node
decreases-loop-node l = l.node
