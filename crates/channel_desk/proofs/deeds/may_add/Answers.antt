use Rattle.channel_desk.proofs.deeds.may_add.Goals as goal

pub returns-then-depth-gt0 : goal.returns-then-depth-gt0
returns-then-depth-gt0 c = λ yes. c.requires.later c.if-depth-gt0.true
