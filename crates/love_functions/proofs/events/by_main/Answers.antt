use Rattle.love_functions.proofs.Steps.{by_main-other}
use Rattle.love_functions.proofs.events.by_main.Goals as goal

pub returns-clause-comes : goal.returns-clause-comes
returns-clause-comes c = λ h. by_main-other c.args.state _ h c.refused.result c.if-state-eq0.false (c.refused.ensures.comes h)

pub returns-clause-made : goal.returns-clause-made
returns-clause-made c = λ h made. c.refused.ensures.made h
