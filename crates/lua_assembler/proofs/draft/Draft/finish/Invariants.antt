use Rattle.lua_assembler.proofs.Drafts.{Ordered}
use Rattle.lua_assembler.proofs.draft.Draft.finish.Given as goal

abbrev pub invariant-steps : goal.invariant-steps
invariant-steps l = Ordered l.initial.proto l.steps.items l.proto l.at

abbrev pub decreases-steps : goal.decreases-steps
decreases-steps l = l.at
