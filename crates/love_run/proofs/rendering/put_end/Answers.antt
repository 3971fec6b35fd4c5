use Rattle.love_run.proofs.rendering.put_end.Goals as goal

pub returns-in-OutOfSteps : goal.returns-in-OutOfSteps
returns-in-OutOfSteps c = rw c.in-OutOfSteps.is c.put_line-in-OutOfSteps.ensures
