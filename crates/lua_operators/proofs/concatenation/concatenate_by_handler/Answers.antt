use Rattle.std.specs.Prelude.{codes}
use Rattle.lua_operators.proofs.Handled.{asked_of, attempted_on}
use Rattle.lua_operators.proofs.concatenation.concatenate_by_handler.Goals as goal

pub returns-clause-doing : goal.returns-clause-doing
returns-clause-doing c =
    let h = c.args.heap.now in
    asked_of _ _ _ _ _ _ _ (c.ask_or_fail.ensures.doing h.texts) c.binary_handler-handler.ensures.handler
    (attempted_on (codes "attempt to concatenate a ") _ _ (c.of.ensures h.texts))

pub returns-clause-made : goal.returns-clause-made
returns-clause-made c = c.ask_or_fail.ensures.made c.args.heap.now c.binary_handler-handler.ensures.made c.requires.a c.requires.b
