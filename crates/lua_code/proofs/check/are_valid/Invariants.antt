use Rattle.std.proofs.Common.{ℕ, ◌<◌, slice_get}
use Rattle.lua_code.specs.Valid.{IsSoundOf}
use Rattle.lua_code.proofs.check.are_valid.Given as goal

abbrev pub invariant-loop-own : goal.invariant-loop-own
invariant-loop-own l = (k : ℕ) → k < l.own → IsSoundOf l.protos k (slice_get l.protos k)
