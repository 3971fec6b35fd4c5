use Rattle.std.proofs.Common.{◌≡◌, take}
use Rattle.channel_desk.specs.Holding.{sections_on}
use Rattle.channel_desk.proofs.acting.Sections+Vec+Section.section_on.Given as goal

abbrev pub invariant-loop-place : goal.invariant-loop-place
invariant-loop-place l = sections_on l.channel (take l.place l.self.held.items) ≡ 0
