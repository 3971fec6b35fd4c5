use Rattle.lua_operators.proofs.equality.unequal.Goals as goal

pub returns-clause-made : goal.returns-clause-made
returns-clause-made c = c.opposite.ensures.made c.args.heap.now c.equal.ensures.made
