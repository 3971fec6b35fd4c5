use Rattle.std.specs.Prelude.{◌≡◌, ◌+◌, length}
use Rattle.lua_state.specs.Cuts.{LeavesSome}
use Rattle.lua_state.specs.Kept.{IsKept}
use Rattle.lua_state.proofs.objects.Objects.leave_all.Given as goal

abbrev pub invariant-loop : goal.invariant-loop
invariant-loop l = IsKept l.self
    × (length l.self.trace.actions + length l.self.held.items ≡ length l.initial.self.trace.actions + length l.initial.self.held.items)
    × LeavesSome l.initial.self.trace.actions l.self.trace.actions l.initial.self.held.items l.self.held.items

abbrev pub decreases-loop : goal.decreases-loop
decreases-loop l = length l.self.held.items
