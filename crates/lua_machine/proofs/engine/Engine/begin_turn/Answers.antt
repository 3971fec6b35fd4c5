use Rattle.std.proofs.Common.{◌≡◌, ◌+◌, true, false, sym, ap, subst}
use Rattle.lua_code.specs.declared.instr.Instr.TheVariants.{ForBegin}
use Rattle.lua_machine.specs.declared.status.Status.TheVariants.{NoTick}
use Rattle.lua_machine.specs.View.{EngineView}
use Rattle.lua_machine.specs.Does.{Takes}
use Rattle.lua_machine.specs.Turns.{TurnedOr, HasTurned}
use Rattle.lua_machine.proofs.Taking.{begins_so, begins_not}
use Rattle.lua_machine.proofs.engine.Engine.begin_turn.Goals as goal

pub returns-in-true : goal.returns-in-true
returns-in-true c =
    let m = c.args.self.now in
    let n = c.args.numbers in
    let at = c.args.at in
    let count = c.args.count in
    let pc : c.self.inside.pc ≡ m.pc = ap (λ (v : EngineView). v.pc) c.self.view_is in
    begins_so at count m c.turn.new.self n.0 n.1 n.2 c.requires.ready c.requires.numbers
    (subst (λ pc. TurnedOr true at (pc + 1) (pc + 1 + count) n.0 n.1 n.2 m c.turn.new.self) pc c.in-true.ensures.turned)
    (subst (λ pc. HasTurned (pc + 1) (pc + 1 + count) m c.turn.new.self) pc c.in-true.ensures.moved)

pub returns-in-false : goal.returns-in-false
returns-in-false c =
    let m = c.args.self.now in
    let n = c.args.numbers in
    let at = c.args.at in
    let count = c.args.count in
    let pc : c.self.inside.pc ≡ m.pc = ap (λ (v : EngineView). v.pc) c.self.view_is in
    let turned = subst (λ pc. TurnedOr false at (pc + 1) (pc + 1 + count) n.0 n.1 n.2 m c.turn.new.self) pc c.in-false.ensures.turned in
    subst (Takes (ForBegin at count) NoTick m) (sym c.in-false.ensures.same)
    (begins_not at count m m n.0 n.1 n.2 c.requires.numbers
    (subst (λ (v : EngineView). TurnedOr false at (m.pc + 1) (m.pc + 1 + count) n.0 n.1 n.2 m v) c.in-false.ensures.same turned))
