use Rattle.lua_operators.proofs.comparison.up_to_by.Goals as goal

pub returns-in-Nil-clause-made : goal.returns-in-Nil-clause-made
returns-in-Nil-clause-made c = c.ask_or_fail.ensures.made c.args.heap.now c.shared_handler-less.ensures.made c.requires.b c.requires.a
