use Rattle.lua_operators.proofs.arithmetic.calculate.Goals as goal

pub returns-clause-made : goal.returns-clause-made
returns-clause-made c = c.exact.ensures.made c.args.heap.now
