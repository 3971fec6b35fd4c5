use Rattle.std.specs.Prelude.{codes}
use Rattle.std.proofs.Common.{ap, ◌∙◌}
use Rattle.lua_meaning.specs.Operators.{binary_handler}
use Rattle.lua_heap.specs.Heap.{store_of}
use Rattle.lua_operators.specs.Doing.{seen}
use Rattle.lua_operators.proofs.Handled.{asked_of, attempted_on}
use Rattle.lua_operators.proofs.arithmetic.calculate_by_handler.Goals as goal

pub returns-clause-doing : goal.returns-clause-doing
returns-clause-doing c =
    let h = c.args.heap.now in
    asked_of _ _ _ _ _ _ _ (c.ask_or_fail.ensures.doing h.texts)
    (c.binary_handler-handler.ensures.handler
    ∙ ap (λ event. binary_handler (store_of h) event (seen h c.args.a.now) (seen h c.args.b.now)) c.event.ensures)
    (attempted_on (codes "attempt to perform arithmetic on a ") _ _ (c.of.ensures h.texts))

pub returns-clause-made : goal.returns-clause-made
returns-clause-made c = c.ask_or_fail.ensures.made c.args.heap.now c.binary_handler-handler.ensures.made c.requires.a c.requires.b
