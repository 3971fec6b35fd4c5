use Rattle.lua_machine.proofs.Doing.{later_at}
use Rattle.lua_machine.proofs.Settling.{ready_found, operates_found}
use Rattle.lua_machine.proofs.engine.Engine.operate_slowly.Goals as goal

pub invariant_of-self-2 : goal.invariant_of-self-2
invariant_of-self-2 c = later_at _ c.binary.new.heap _ c.binary.ensures.extends c.self.invariant

pub settle-requires-clause-ready : goal.settle-requires-clause-ready
settle-requires-clause-ready c = ready_found _ c.args.self.now c.self.view_is c.binary.new.heap c.self.invariant c.binary.ensures.extends c.binary.ensures.store c.binary.ensures.functions c.requires.ready

pub returns : goal.returns
returns c = operates_found _ c.args.self.now c.self.view_is c.binary.new.heap c.self.invariant c.binary.ensures.extends c.binary.ensures.store c.binary.ensures.functions c.settle.result c.args.op c.settle.new.self c.args.to c.args.left c.args.right c.in_ok-doing.doing c.in_ok-doing.ensures.doing c.settle.ensures
