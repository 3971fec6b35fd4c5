use Rattle.lua_heap.specs.Heap.{store_of}
use Rattle.love_functions.proofs.Steps.{refused-as}
use Rattle.love_functions.proofs.refusing.unsent.Goals as goal

pub returns-clause-one : goal.returns-clause-one
returns-clause-one c = λ meaning next h is. refused-as meaning next c.args.fault c.in_ok-text.text.items (store_of h) c.in_ok-text.ensures.tells c.in_ok-text.ensures.refused is

pub returns-clause-all : goal.returns-clause-all
returns-clause-all c = λ meaning next h is. refused-as meaning next c.args.fault c.in_ok-text.text.items (store_of h) c.in_ok-text.ensures.tells c.in_ok-text.ensures.refused is
