use Rattle.lua_heap.proofs.index.set_by_handler_of.Goals as goal

pub returns-in-Nil-clause-made : goal.returns-in-Nil-clause-made
returns-in-Nil-clause-made c = λ h base handler. c.unhandled_write.ensures.made h base
