use Rattle.std.proofs.Common.{ℕ, ◌<◌}
use Rattle.lua_code.specs.Valid.{IsFine}
use Rattle.lua_code.proofs.check.is_sound.Given as goal

abbrev pub invariant-loop-pc : goal.invariant-loop-pc
invariant-loop-pc l = (k : ℕ) → k < l.pc → IsFine l.protos l.own l.proto k
