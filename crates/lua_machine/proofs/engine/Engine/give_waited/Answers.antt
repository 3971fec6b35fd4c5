use Rattle.lua_machine.specs.declared.errand.Errand.TheVariants.{Answers}
use Rattle.love_functions.specs.declared.errand.Errand.TheVariants.{GivesWaited}
use Rattle.lua_machine.specs.Asking.{Attends}
use Rattle.lua_machine.proofs.Doing.{later_at}
use Rattle.lua_machine.proofs.Called.{each_came}
use Rattle.lua_machine.proofs.Asked.{serving_later}
use Rattle.lua_machine.proofs.Attended.{attends_waited}
use Rattle.lua_machine.proofs.engine.Engine.give_waited.Goals as goal

pub invariant_of-self : goal.invariant_of-self
invariant_of-self c = later_at _ c.given.new.heap _ c.given.ensures.extends c.self.invariant

pub invariant_of-self-in_err-called-2 : goal.invariant_of-self-in_err-called-2
invariant_of-self-in_err-called-2 c = later_at _ c.given.new.heap _ c.given.ensures.extends c.self.invariant

pub invariant_of-self-2 : goal.invariant_of-self-2
invariant_of-self-2 c = later_at _ c.given.new.heap _ c.given.ensures.extends c.self.invariant

pub come_to-requires-clause-ready : goal.come_to-requires-clause-ready
come_to-requires-clause-ready c = serving_later _ c.args.self.now c.self.view_is c.self.invariant c.requires.ready c.given.new.heap c.given.ensures.extends c.given.ensures.functions

pub come_to-requires-clause-made : goal.come_to-requires-clause-made
come_to-requires-clause-made c = c.in_ok-called-2.ensures.made c.given.new.heap c.in_ok-called.ensures.is.made

pub returns : goal.returns
returns c =
    let m = c.args.self.now in
    let new = c.come_to.new.self in
    each_came c.come_to.result _ (λ status. Attends (Answers (GivesWaited c.args.limit)) c.args.reply.now status m new)
    (λ status came. attends_waited _ m c.self.view_is c.self.invariant c.given.new.heap c.given.ensures.extends c.given.ensures.functions c.args.reply.now c.in_ok-called.called c.in_ok-called.ensures.is.comes status new c.args.limit c.in_ok-called-2.called c.in_ok-called-2.ensures came) c.come_to.ensures
