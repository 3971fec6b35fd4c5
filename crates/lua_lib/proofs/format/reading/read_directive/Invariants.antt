use Rattle.std.proofs.Common.{◌≡◌, ◌≤◌, ℕ, List, length}
use Rattle.lua_meaning.specs.Value.{Value}
use Rattle.lua_meaning.specs.Store.{Store}
use Rattle.lua_meaning.specs.Format.{item_from, plain_item}
use Rattle.lua_lib.proofs.format.reading.read_directive.Given as goal

-- what the whole text comes to is what the rest comes to behind the item so far
abbrev pub invariant-loop-rest : goal.invariant-loop-rest
invariant-loop-rest l =
    record {
      same : (n : ℕ) (args : List Value) (s : Store) → item_from l.text plain_item n args s ≡ item_from l.rest l.item n args s;
      shorter : length l.rest ≤ length l.text;
    }

abbrev pub decreases-loop-rest : goal.decreases-loop-rest
decreases-loop-rest l = length l.rest
