use Rattle.std.proofs.Common.{◌≡◌, List, drop, map}
use Rattle.lua_tree.specs.Tree.{Bytes}
use Rattle.lua_meaning.specs.Tables.{are_numbers}
use Rattle.lua_heap.specs.Value.{value_view}
use Rattle.lua_lib.proofs.call.sorts.are_numbers.Given as goal

-- all are where those from here on are
abbrev pub invariant-loop-value : goal.invariant-loop-value
invariant-loop-value l =
    (texts : List Bytes) → are_numbers (map (value_view texts) l.values) ≡ are_numbers (map (value_view texts) (drop l.value-index l.values))
