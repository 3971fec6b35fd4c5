use Rattle.love_functions.proofs.events.poll.Goals as goal

pub returns-clause-made : goal.returns-clause-made
returns-clause-made c = λ h. c.in_ok-called.ensures.made h (tt, tt)
