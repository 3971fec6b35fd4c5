use Rattle.lua_machine.proofs.Doing.{later_at}
use Rattle.lua_machine.proofs.Failing.{text_of}
use Rattle.lua_machine.proofs.engine.Engine.text_value.Goals as goal

pub invariant_of-self-2 : goal.invariant_of-self-2
invariant_of-self-2 c = later_at _ c.intern.new.self _ c.intern.ensures.extends c.self.invariant

pub returns : goal.returns
returns c =
    text_of _ c.args.self.now c.self.view_is c.self.invariant c.requires.fit c.intern.new.self c.in_ok-id.id _ c.in_ok-id.ensures.id c.in_ok-id.ensures.made c.intern.ensures.extends c.intern.ensures.store c.intern.ensures.functions
