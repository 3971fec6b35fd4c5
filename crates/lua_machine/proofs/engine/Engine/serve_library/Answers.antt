use Rattle.lua_heap.specs.Native.{native_view}
use Rattle.lua_lib.specs.Here.{is_here}
use Rattle.lua_machine.proofs.Doing.{later_at}
use Rattle.lua_machine.proofs.Served.{made_later, fits_later, serves_ok, serves_failing}
use Rattle.lua_machine.proofs.engine.Engine.serve_library.Goals as goal

pub invariant_of-self : goal.invariant_of-self
invariant_of-self c = made_later _ c.call.new.heap c.in-Ok.values.items c.call.ensures.extends c.self.invariant c.in-Ok.ensures.made

pub invariant_of-self-in-Err-Elsewhere : goal.invariant_of-self-in-Err-Elsewhere
invariant_of-self-in-Err-Elsewhere c = later_at _ c.call.new.heap _ c.call.ensures.extends c.self.invariant

pub invariant_of-self-in-Err-Fails : goal.invariant_of-self-in-Err-Fails
invariant_of-self-in-Err-Fails c = later_at _ c.call.new.heap _ c.call.ensures.extends c.self.invariant

pub cause_error-requires : goal.cause_error-requires
cause_error-requires c = record { fit = fits_later _ c.args.self.now c.self.view_is c.self.invariant c.requires.ready.fit c.args.native c.call.new.heap c.call.ensures.extends c.call.ensures.functions _ }

pub returns-in-Ok : goal.returns-in-Ok
returns-in-Ok c =
    serves_ok _ c.args.self.now c.self.view_is c.self.invariant c.requires.ready.fit c.args.native c.call.new.heap c.call.ensures.extends c.call.ensures.functions c.as_slice.result.now c.as_slice.ensures.value
    c.in-Ok.values c.call.result c.in-Ok.values.items c.in-Ok.is c.call.ensures.elsewhere c.in-Ok.ensures.calls (is_here (native_view c.args.native))

pub returns-in_ok-value-in-Err-Fails : goal.returns-in_ok-value-in-Err-Fails
returns-in_ok-value-in-Err-Fails c =
    serves_failing _ c.args.self.now c.self.view_is c.self.invariant c.requires.ready.fit c.args.native c.call.new.heap c.call.ensures.extends c.call.ensures.functions c.as_slice.result.now c.as_slice.ensures.value
    c.call.result (λ made. made.items) c.in-Err-Fails.field-0 c.in-Err-Fails.cause c.in_ok-value-in-Err-Fails.value c.cause_error.new.self c.in-Err-Fails.is c.in-Err-Fails.field-0-is c.call.ensures.elsewhere c.in-Err-Fails.ensures.calls c.in_ok-value-in-Err-Fails.ensures (is_here (native_view c.args.native))
