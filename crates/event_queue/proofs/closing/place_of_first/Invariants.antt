use Rattle.std.proofs.Common.{◌≡◌, ◌≢◌, ◌-◌, ◌<◌, ℕ, length}
use mathlib.Core.Option.{some}
use lib.ListN.{get_elem?}
use Rattle.event_queue.specs.Passes.{PassView}
use Rattle.event_queue.proofs.closing.place_of_first.Given as goal

abbrev pub invariant-loop-place : goal.invariant-loop-place
invariant-loop-place l = (k : ℕ) (p : PassView) → get_elem? l.passes k ≡ some p → k < l.place → p.number ≢ 1

abbrev pub decreases-loop-place : goal.decreases-loop-place
decreases-loop-place l = length l.passes - l.place
