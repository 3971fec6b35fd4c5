use Rattle.channel_desk.proofs.Opened.{last_laid}
use Rattle.channel_desk.proofs.tests.deeds.nested.Goals as goal

pub new-stack-requires-clause-laid : goal.new-stack-requires-clause-laid
new-stack-requires-clause-laid g c = (last_laid _ _ _ c.in-Some-pop.pass c.requires c.in-Some-pop.ensures.items).0

pub new-stack-requires-clause-idle : goal.new-stack-requires-clause-idle
new-stack-requires-clause-idle g c = (last_laid _ _ _ c.in-Some-pop.pass c.requires c.in-Some-pop.ensures.items).1
