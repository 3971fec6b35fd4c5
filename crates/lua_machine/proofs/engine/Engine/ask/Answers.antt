use Rattle.lua_machine.proofs.Doing.{later_at}
use Rattle.lua_machine.proofs.Asked.{serving_later, asks_ok, asks_failing}
use Rattle.lua_machine.proofs.engine.Engine.ask.Goals as goal

pub invariant_of-self : goal.invariant_of-self
invariant_of-self c = later_at _ c.call.new.heap _ c.call.ensures.extends c.self.invariant

pub come_to-requires-clause-ready : goal.come_to-requires-clause-ready
come_to-requires-clause-ready c = serving_later _ c.args.self.now c.self.view_is c.self.invariant c.requires.ready c.call.new.heap c.call.ensures.extends c.call.ensures.functions

pub invariant_of-self-in-Err-Elsewhere : goal.invariant_of-self-in-Err-Elsewhere
invariant_of-self-in-Err-Elsewhere c = later_at _ c.call.new.heap _ c.call.ensures.extends c.self.invariant

pub invariant_of-self-in-Err-Fails : goal.invariant_of-self-in-Err-Fails
invariant_of-self-in-Err-Fails c = later_at _ c.call.new.heap _ c.call.ensures.extends c.self.invariant

pub cause_error-requires : goal.cause_error-requires
cause_error-requires c =
    let later = serving_later _ c.args.self.now c.self.view_is c.self.invariant c.requires.ready c.call.new.heap c.call.ensures.extends c.call.ensures.functions in
    record { fit = later.fit }

pub returns-in_ok-status-in-Ok : goal.returns-in_ok-status-in-Ok
returns-in_ok-status-in-Ok c =
    asks_ok _ c.args.self.now c.self.view_is c.self.invariant c.requires.ready c.call.new.heap c.call.ensures.extends c.call.ensures.functions
    c.serves.ensures c.args.program.now c.args.state c.args.native c.as_slice-files.result.now c.as_slice.result.now c.as_slice-files.ensures c.as_slice.ensures.value c.call.result c.call.ensures.elsewhere
    c.in-Ok.called c.in_ok-status-in-Ok.status c.come_to.new.self c.in-Ok.is c.in-Ok.ensures.calls c.in_ok-status-in-Ok.ensures

pub returns-in_ok-value-in-Err-Fails : goal.returns-in_ok-value-in-Err-Fails
returns-in_ok-value-in-Err-Fails c =
    asks_failing _ c.args.self.now c.self.view_is c.self.invariant c.requires.ready c.call.new.heap c.call.ensures.extends c.call.ensures.functions
    c.serves.ensures c.args.program.now c.args.state c.args.native c.as_slice-files.result.now c.as_slice.result.now c.as_slice-files.ensures c.as_slice.ensures.value c.call.result c.call.ensures.elsewhere
    c.in-Err-Fails.field-0 c.in-Err-Fails.cause c.in_ok-value-in-Err-Fails.value c.cause_error.new.self c.in-Err-Fails.is c.in-Err-Fails.field-0-is c.in-Err-Fails.ensures.calls c.in_ok-value-in-Err-Fails.ensures
