use Rattle.std.proofs.Common.{◌+◌, ◌<◌, ◌≤◌, length, subst, arith}
use Rattle.lua_code.specs.declared.instr.Instr.TheVariants.{ForBegin}
use Rattle.lua_machine.specs.View.{EngineView}
use Rattle.lua_machine.specs.Does.{Takes}
use Rattle.lua_machine.proofs.Looping.{begins_read, begins_refused}
use Rattle.lua_machine.proofs.engine.Engine.begin_slowly.Goals as goal

pub returns-in-Ok : goal.returns-in-Ok
returns-in-Ok c =
    let m = c.args.self.now in
    let at = c.args.at in
    let count = c.args.count in
    let n = c.in-Ok.numbers in
    let slots : m.base + (at + 4) ≤ length m.values = c.requires.ready.slots in
    let room : m.base + (at + 3) < length m.values = omega (arith, slots) in
    begins_read m at count n.0 n.1 n.2 room c.in-Ok.ensures.read c.begin_turn.result c.begin_turn.new.self
    (subst (λ (y : EngineView). Takes (ForBegin at count) c.begin_turn.result y c.begin_turn.new.self) c.put_numbers.ensures c.begin_turn.ensures)

pub returns-in_ok-error-in-Err : goal.returns-in_ok-error-in-Err
returns-in_ok-error-in-Err c =
    begins_refused c.args.self.now c.error.new.self c.args.at c.args.count c.in-Err.text.now c.in_ok-error-in-Err.error c.requires.ready c.in-Err.ensures.refused c.in_ok-error-in-Err.ensures
