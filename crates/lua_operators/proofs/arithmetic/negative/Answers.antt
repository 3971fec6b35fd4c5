use Rattle.std.specs.Prelude.{codes}
use Rattle.std.proofs.Common.{ap, ◌∙◌}
use Rattle.lua_heap.specs.Heap.{store_of}
use Rattle.lua_code.specs.Doing as code
use Rattle.lua_operators.specs.Doing.{seen}
use Rattle.lua_operators.proofs.Handled.{asked_of, attempted_on}
use Rattle.lua_operators.proofs.arithmetic.negative.Goals as goal

pub returns-in-None-clause-doing : goal.returns-in-None-clause-doing
returns-in-None-clause-doing c =
    let h = c.args.heap.now in
    asked_of _ _ _ _ _ _ _ (c.ask_or_fail.ensures.doing h.texts) c.handler-handler.ensures.handler
    (attempted_on (codes "attempt to perform arithmetic on a ") _ _ (c.of.ensures h.texts))
    ∙ ap (code.negative (store_of h) (seen h c.args.value.now)) c.in-None.ensures

pub returns-in-None-clause-made : goal.returns-in-None-clause-made
returns-in-None-clause-made c = c.ask_or_fail.ensures.made c.args.heap.now c.handler-handler.ensures.made c.requires.made c.requires.made
