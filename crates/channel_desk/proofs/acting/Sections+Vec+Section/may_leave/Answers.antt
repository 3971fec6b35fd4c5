use Rattle.std.proofs.Common.{◌≤◌, ◌∙◌, arith}
use Rattle.channel_desk.proofs.Moves.{at_read, may_leave_found, may_leave_none}
use Rattle.channel_desk.proofs.acting.Sections+Vec+Section.may_leave.Goals as goal

pub returns-else-index-gt1 : goal.returns-else-index-gt1
returns-else-index-gt1 c =
    let flat : c.index.result.now.depth ≤ 1 = omega arith in
    may_leave_found _ _ _ _ c.args.self.now.held.items c.args.channel c.get.result c.in-Some.at c.len.result c.index.result.now c.requires.holding c.get.ensures.number
    (at_read c.args.self.now.held.items c.get.result c.in-Some.at c.in-Some.ensures.found.0 c.index.result.now c.in-Some.ensures.found.1 c.index.ensures) flat (c.len.ensures ∙ c.args.self.now.held.ok.0)

pub returns-in-None : goal.returns-in-None
returns-in-None c = may_leave_none c.args.self.now.held.items c.args.channel c.get.result c.get.ensures.number c.in-None.ensures.none
