use Rattle.std.proofs.Common.{◌<◌, sym, subst, arith}
use Rattle.lua_machine.specs.declared.status.Status.{Status}
use Rattle.lua_machine.specs.declared.status.Status.TheVariants.{Raises}
use Rattle.lua_machine.specs.Serving.{frames_left}
use Rattle.lua_machine.proofs.Delivered.{falls_less}
use Rattle.lua_machine.proofs.engine.Engine.land.Goals as goal

pub loop-status-smaller : goal.loop-status-smaller
loop-status-smaller c =
    let now = c.loop-status.self in
    let new = c.unwind.new.self in
    let next = c.in_ok-status-in-Raises.status in
    subst (λ (s : Status). frames_left next new < frames_left s now) (sym c.in-Raises.is)
    (falls_less (Raises c.in-Raises.value) next now new (omega arith) c.in_ok-status-in-Raises.ensures.falls)
