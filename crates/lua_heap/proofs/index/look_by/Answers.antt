use Rattle.lua_heap.proofs.index.look_by.Goals as goal

pub returns-in-Nil-clause-made : goal.returns-in-Nil-clause-made
returns-in-Nil-clause-made c = λ h base handler. c.unhandled_read.ensures.made h base
