use Rattle.channel_desk.proofs.Holds.{holds_on}
use Rattle.channel_desk.proofs.acting.Sections+Vec+Section.event_number.Goals as goal

pub returns-clause-holding : goal.returns-clause-holding
returns-clause-holding c = holds_on _ _ _ _ _ c.requires.holding
