use Rattle.std.proofs.Common.{subst, sym}
use Rattle.lua_heap.specs.Native.{native_view}
use Rattle.lua_code.specs.Frames.{built_in}
use Rattle.lua_machine.proofs.Backed.{takes_none, starts_some, starts_native}
use Rattle.lua_machine.proofs.engine.Engine.run_native.Goals as goal

pub returns-in-Some : goal.returns-in-Some
returns-in-Some c = starts_some c.args.self.now (built_in (native_view c.args.native)) c.in_ok-status.field-0 c.in-Some.status c.take_call.new.self c.in-Some.is c.in_ok-status.ensures

pub returns : goal.returns
returns c = starts_native c.args.self.now c.take_call.new.self c.requires.ready (takes_none c.args.self.now c.take_call.new.self c.in_ok-status.field-0 c.in_default.not-Some c.in_ok-status.ensures) c.args.native
