use Rattle.lua_operators.proofs.comparison.less.Goals as goal

pub returns-in-None-clause-made : goal.returns-in-None-clause-made
returns-in-None-clause-made c = c.ask_or_fail.ensures.made c.args.heap.now c.shared_handler-handler.ensures.made c.requires.a c.requires.b
