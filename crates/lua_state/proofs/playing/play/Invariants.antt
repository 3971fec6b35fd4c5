use Rattle.std.specs.Prelude.{◌+◌, ◌-◌, ◌*◌, length}
use Rattle.lua_state.specs.Kept.{IsKept}
use Rattle.lua_state.proofs.Turns.{Turning}
use Rattle.lua_state.proofs.playing.play.Given as goal

-- the machine is in the run that made the actions
abbrev pub invariant-loop-told : goal.invariant-loop-told
invariant-loop-told l = IsKept l.objects
    × Turning l.steps l.fn.machine l.machine l.objects.trace.actions l.reply

abbrev pub decreases-loop-told : goal.decreases-loop-told
decreases-loop-told l = 2 * l.steps + 1 - length l.objects.trace.actions
