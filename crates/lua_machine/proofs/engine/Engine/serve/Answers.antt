use Rattle.std.proofs.Common.{Option, Some, subst}
use Rattle.lua_heap.specs.Native.{native_view}
use Rattle.lua_lib.specs.Here.{is_here}
use Rattle.lua_code.specs.Held.{program_view}
use Rattle.lua_machine.specs.declared.status.Status.{Status}
use Rattle.lua_machine.specs.Serving.{ServedOr}
use Rattle.lua_machine.proofs.engine.Engine.serve.Goals as goal

pub returns-in-Some : goal.returns-in-Some
returns-in-Some c =
    subst (λ (o : Option Status). ServedOr (is_here (native_view c.args.native)) o c.args.native c.args.self.now c.serve_library.new.self) c.in-Some.is c.in_ok-status.ensures (program_view c.args.program.now c.args.state)
