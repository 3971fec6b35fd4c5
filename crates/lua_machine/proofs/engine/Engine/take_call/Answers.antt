use Rattle.std.proofs.Common.{◌<◌, ◌≤◌, ◌-◌, length, subst, arith}
use Rattle.std.specs.Prelude.{codes}
use Rattle.lua_machine.specs.View.{EngineView}
use Rattle.lua_machine.specs.Serving.{IsRefusal}
use Rattle.lua_machine.proofs.engine.Engine.take_call.Goals as goal

pub returns-then-len-gt-MOST_CALLS : goal.returns-then-len-gt-MOST_CALLS
returns-then-len-gt-MOST_CALLS c =
    let left : 0 < c.self.inside.ticks = omega (arith, c.if-self-eq0.false) in
    let deep : 4096 < c.len.result = c.if-len-gt-MOST_CALLS.true in
    let many : 4096 < length c.self.inside.frames.items = omega (arith, deep, c.len.ensures) in (
      subst (λ (y : EngineView). 0 < y.ticks) c.self.view_is left,
      subst (λ (y : EngineView). 4096 < length y.frames) c.self.view_is many,
      subst (λ (y : EngineView). IsRefusal (codes "stack overflow") c.in_ok-value.value (record y { ticks = y.ticks - 1 }) c.refusal.new.self) c.self.view_is c.in_ok-value.ensures,
    )
