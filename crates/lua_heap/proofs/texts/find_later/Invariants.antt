use Rattle.std.proofs.Common.{◌≡◌, ℕ, ◌<◌, slice_get, Some}
use Rattle.lua_heap.proofs.texts.find_later.Given as goal

abbrev pub invariant-loop-place : goal.invariant-loop-place
invariant-loop-place l = (k place : ℕ) → k < l.place-index → slice_get l.later k ≡ Some place → slice_get l.texts place ≡ Some l.text → ⊥
