use Rattle.std.proofs.Common.{◌≢◌, ◌<◌, ◌≤◌, length, slice_index, ℕ}
use Rattle.turn_desk.proofs.kept.place_of.Given as goal

abbrev pub invariant-loop-place : goal.invariant-loop-place
invariant-loop-place l = (l.place ≤ length l.kept) × ((k : ℕ) → l.place ≤ k → k < length l.kept → slice_index l.kept k ≢ l.object)

abbrev pub decreases-loop-place : goal.decreases-loop-place
decreases-loop-place l = l.place
