use Rattle.lua_table.proofs.ReachLemmas.{IsBordered-empty, distinct-empty}
use Rattle.lua_table.proofs.table.Table.new.Goals as goal

pub invariant_of-result : goal.invariant_of-result
invariant_of-result g c = (
  distinct-empty g.K.PartialEq.eq c.new.result c.new.ensures,
  rw c.new.ensures (IsBordered-empty g.K.PartialEq.eq g.K.Position.at_position c.new-2.result.reached c.new-2.result.gaps c.new-2.ensures.reached c.new-2.ensures.gaps),
)
