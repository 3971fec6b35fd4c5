use Rattle.std.proofs.Common.{sym}
use Rattle.lua_table.proofs.BorderLemmas.{Lawful, IsFilledTo-le, border-IsLeastBorder}
use Rattle.lua_table.proofs.ReachLemmas.{least-border}
use Rattle.lua_table.proofs.table.Table.border.Goals as goal

pub returns-clause-border : goal.returns-clause-border
returns-clause-border g c =
    let lawful : Lawful g.K.PartialEq.eq g.K.Position.at_position g.K.Position.position_of =
    record { equivalence = g.met.K.Eq.laws; alike = g.met.K.Position.equal_is_same; inverse = g.met.K.Position.inverse } in
    let places = c.self.inside.places in
    let n = c.least.result in
    let least = least-border lawful places c.self.inside.border.reached c.self.inside.border.gaps n c.self.invariant.1 c.least.ensures.before c.least.ensures.behind in
    rw (← c.self.view_is) (sym (border-IsLeastBorder g.K.PartialEq.eq g.K.Position.at_position places n least (IsFilledTo-le lawful n places least.filled)))

pub returns-clause-least : goal.returns-clause-least
returns-clause-least g c =
    let lawful : Lawful g.K.PartialEq.eq g.K.Position.at_position g.K.Position.position_of =
    record { equivalence = g.met.K.Eq.laws; alike = g.met.K.Position.equal_is_same; inverse = g.met.K.Position.inverse } in
    rw (← c.self.view_is)
    (least-border lawful c.self.inside.places c.self.inside.border.reached c.self.inside.border.gaps c.least.result c.self.invariant.1 c.least.ensures.before c.least.ensures.behind)
